-- Bytes of a file, read piece by piece.
use Rattle.std.specs.Prelude.{◌≡◌, ◌≤◌, ◌<◌, ◌+◌, ◌*◌, ◌-◌, ◌/◌, ◌%◌, ℕ, suc, zero, List, [], ◌∷◌, ◌++◌, length, take, drop, replicate, get_or, Option, Some, None, IfSome, IsSomeAnd, refl}
use Rattle.std.proofs.Common.{sym, ◌∙◌, ap, inl, inr, arith, length-take, length-drop}
use Rattle.std.specs.Option.{option_map}
use Rattle.std.specs.Ordering.{nat_cmp}
use Rattle.std.specs.FinMap.{find, nat_cmp-IsAntisymmetric}
use Rattle.std.proofs.lemmas.Bool.{cases_lt}
use Rattle.std.proofs.lemmas.Map.Lookups.{exact_pairs, exact_unsigned}
use Rattle.std.proofs.lemmas.List.{get_or-take, get_or-drop, get_or_past, get_or_append_left, get_or-append_right, get_or-replicate, ext_get_or, length-take-le, length-replicate}
use Rattle.std.proofs.lemmas.List.FromFn.{get_or-map-range_with_len, length-map-range_with_len}
use Rattle.vdisk.specs.Ranges.{part}
use Rattle.plain_volume.specs.Volume.{Cell, Byte, Lost, bytes_of}
use Rattle.table_records.specs.Keys.{pair_cmp}
use Rattle.table_records.specs.declared.records.FileRecord.{FileRecord}
use Rattle.table_records.specs.declared.records.Extent.{Extent}
use Rattle.volume_inside.specs.Typed.{Typed, FileBlock}
use Rattle.volume_inside.specs.Entries.{each_found}
use Rattle.volume_inside.specs.Inside.{Inside, inside_at, block_of, cluster_bytes}
use Rattle.volume_inside.specs.Rules.{next_id_of, FileHolds, ExtentHolds, ExtentsHold, RulesHold}
use Rattle.volume_inside.specs.View.{cell, cells, cells_or_none, file_cells}
use Rattle.volume_files.specs.Own.{AreOwn}
use Rattle.volume_files.specs.Reads.{byte_in, byte_at}
use Rattle.volume_files.specs.Stretches.{HasBytes}
use Rattle.volume_files.proofs.Owned.{IsOwnAt, cell_byte, find-blocks, own_at}

-- ---- bytes of cells

abbrev byte_of : Cell → ℕ
byte_of (Byte b) = b
byte_of Lost = 0

length-bytes_of : (cs : List Cell) → length (bytes_of cs) ≡ length cs
length-bytes_of [] = refl
length-bytes_of (Byte b ∷ cs) = ap suc (length-bytes_of cs)
length-bytes_of (Lost ∷ cs) = ap suc (length-bytes_of cs)

get_or-bytes_of : (cs : List Cell) (k : ℕ) → get_or (bytes_of cs) k 0 ≡ byte_of (get_or cs k (Byte 0))
get_or-bytes_of [] k = refl
get_or-bytes_of (Byte b ∷ cs) zero = refl
get_or-bytes_of (Lost ∷ cs) zero = refl
get_or-bytes_of (Byte b ∷ cs) (suc k) = get_or-bytes_of cs k
get_or-bytes_of (Lost ∷ cs) (suc k) = get_or-bytes_of cs k

module _ (i : Inside) (id at n : ℕ) (file : FileRecord) (own : (k : ℕ) → k < n → IsOwnAt i id file (at + k))
    (fits : at + n ≤ file.length) where
  wanted : (k : ℕ) → k < n → get_or (bytes_of (take n (drop at (cells i id file)))) k 0 ≡ byte_at i id (at + k)
  wanted k low =
      get_or-bytes_of (take n (drop at (cells i id file))) k
      ∙ ap byte_of (get_or-take n (drop at (cells i id file)) k (Byte 0) low
      ∙ get_or-drop at (cells i id file) k (Byte 0)
      ∙ get_or-map-range_with_len (cell i id file) 0 file.length (at + k) (at + k) (Byte 0)
      (omega (arith, low, fits)) (omega arith)
      ∙ cell_byte i id (at + k) file (own k low))

  wanted_length : length (bytes_of (take n (drop at (cells i id file)))) ≡ n
  wanted_length =
      length-bytes_of (take n (drop at (cells i id file)))
      ∙ omega (
        arith,
        length-take n (drop at (cells i id file)),
        length-drop at
            (cells i id file),
        length-map-range_with_len (cell i id file) 0 file.length,
        fits,
      )

  -- bytes that were read each from its block are those of the cells
  pub all_read : (out : List ℕ) → length out ≡ n → ((k : ℕ) → k < n → get_or out k 0 ≡ byte_at i id (at + k))
      → out ≡ bytes_of (take n (drop at (cells i id file)))
  all_read out long read = ext_get_or 0 out (bytes_of (take n (drop at (cells i id file)))) (long ∙ sym wanted_length)
      (λ k low. let within : k < n = omega (arith, low, long) in read k within ∙ sym (wanted k within))

-- ---- the file of an id

module _ (n : ℕ) (t : Typed) (image : List ℕ) (rules : RulesHold n t) (id at count : ℕ)
    (fits : at + count ≤ length (file_cells (inside_at t image) id)) where
  -- a range of it ends within 2^30 bytes
  pub range_short : at + count ≤ 1073741824
  range_short = by (find nat_cmp id t.files) refl fits
    where
      by : (o : Option FileRecord) → find nat_cmp id t.files ≡ o
          → at + count ≤ length (cells_or_none (inside_at t image) id o) → at + count ≤ 1073741824
      by None is within = omega (arith, within)
      by (Some file) is within =
          let holds = each_found nat_cmp nat_cmp-IsAntisymmetric (FileHolds (next_id_of t)) id file t.files is rules.files in
          let long = length-map-range_with_len (cell (inside_at t image) id file) 0 file.length in
          omega (arith, within, long, holds.short)

  pub file_read : AreOwn t id at (at + count) → (out : List ℕ) → length out ≡ count
      → ((k : ℕ) → k < count → get_or out k 0 ≡ byte_at (inside_at t image) id (at + k))
      → out ≡ bytes_of (take count (drop at (file_cells (inside_at t image) id)))
  file_read own out long read = by (find nat_cmp id t.files) refl fits
    where
      by : (o : Option FileRecord) → find nat_cmp id t.files ≡ o
          → at + count ≤ length (cells_or_none (inside_at t image) id o)
          → out ≡ bytes_of (take count (drop at (cells_or_none (inside_at t image) id o)))
      by None is within =
          let none : count ≡ 0 = omega (arith, within) in
          let start : at ≡ 0 = omega (arith, within) in
          empty out (long ∙ none) ∙ sym (λ j. bytes_of (take (none j) (drop (start j) [])))
        where
          empty : (xs : List ℕ) → length xs ≡ 0 → xs ≡ []
          empty [] e = refl
          empty (x ∷ xs) e = absurd (omega (arith, e))
      by (Some file) is within =
          let size = length-map-range_with_len (cell (inside_at t image) id file) 0 file.length in
          all_read (inside_at t image) id at count file
          (λ k low. own_at t image id file is (at + k) (own (at + k) (omega arith) (omega (arith, low))))
          (omega (arith, within, size)) out long read

-- ---- blocks

-- what a block that is not there reads as, and one that is
pub no_block : (k : FileBlock) (t : Typed) (image : List ℕ) (o : ℕ) → find pair_cmp k t.extents ≡ None
    → byte_in (find pair_cmp k (inside_at t image).blocks) o ≡ 0
no_block k t image o none =
    ap (λ (b : Option (List ℕ)). byte_in b o)
    (find-blocks k t.extents image ∙ ap (option_map (λ e. block_of e image)) none)

pub of_block : (k : FileBlock) (t : Typed) (image : List ℕ) (e : Extent) (o : ℕ) → find pair_cmp k t.extents ≡ Some e
    → byte_in (find pair_cmp k (inside_at t image).blocks) o ≡ get_or (block_of e image) o 0
of_block k t image e o found =
    ap (λ (b : Option (List ℕ)). byte_in b o)
    (find-blocks k t.extents image ∙ ap (option_map (λ x. block_of x image)) found)

-- a byte that the extent of a block names, and one that it does not
module _ (t : Typed) (image : List ℕ) (k : FileBlock) (e : Extent) (o : ℕ) (found : find pair_cmp k t.extents ≡ Some e) where
  pub named_byte : o < e.valid → e.valid ≤ 4096
      → byte_in (find pair_cmp k (inside_at t image).blocks) o ≡ get_or image (4096 * e.cluster + o) 0
  named_byte low fits =
      of_block k t image e o found
      ∙ get_or-take e.valid (cluster_bytes e.cluster image) o 0 low
      ∙ get_or-take 4096 (drop (4096 * e.cluster) image) o 0 (omega (arith, low, fits))
      ∙ get_or-drop (4096 * e.cluster) image o 0

  unnamed_byte : e.valid ≤ o → byte_in (find pair_cmp k (inside_at t image).blocks) o ≡ 0
  unnamed_byte behind =
      of_block k t image e o found
      ∙ get_or_past (take e.valid (cluster_bytes e.cluster image)) o 0
      (omega (arith, behind, length-take e.valid (cluster_bytes e.cluster image)))

-- a byte that no extent names is zero
pub zero_byte : (t : Typed) (image : List ℕ) (k : FileBlock) (found : Option Extent) (o : ℕ)
    → found ≡ find pair_cmp k t.extents → IfSome found (λ e. e.valid ≤ o)
    → byte_in (find pair_cmp k (inside_at t image).blocks) o ≡ 0
zero_byte t image k None o is behind = no_block k t image o (sym is)
zero_byte t image k (Some e) o is behind = unnamed_byte t image k e o (sym is) behind

-- ---- stretches

-- what the rules say of an extent
pub extent_found : (n : ℕ) (t : Typed) (k : FileBlock) (e : Extent) → find pair_cmp k t.extents ≡ Some e
    → ExtentsHold n t.files t.extents → ExtentHolds n t.files k e
extent_found n t k e found hold =
    each_found pair_cmp (exact_pairs nat_cmp nat_cmp exact_unsigned exact_unsigned) (ExtentHolds n t.files) k e t.extents
    found hold

-- bytes of a file from a place on lie on the disk from another place on
abbrev pub Lie : Inside → List ℕ → ℕ → ℕ → ℕ → ℕ → Type 0
Lie i image file place start count = (k : ℕ) → k < count → byte_at i file (place + k) ≡ get_or image (start + k) 0

module _ (t : Typed) (image : List ℕ) (file place : ℕ) (e : Extent) (fits : e.valid ≤ 4096) where
  pub lie_first : (count : ℕ) → find pair_cmp (file, place / 4096) t.extents ≡ Some e
      → place % 4096 + count ≤ e.valid
      → Lie (inside_at t image) image file place (4096 * e.cluster + place % 4096) count
  lie_first count found within k low =
      let block : (place + k) / 4096 ≡ place / 4096 = omega (arith, within, low, fits) in
      let offset : (place + k) % 4096 ≡ place % 4096 + k = omega (arith, within, low, fits) in
      let at : 4096 * e.cluster + (place % 4096 + k) ≡ 4096 * e.cluster + place % 4096 + k = omega arith in
      (λ j. byte_in (find pair_cmp (file, block j) (inside_at t image).blocks) (offset j))
      ∙ named_byte t image (file, place / 4096) e (place % 4096 + k) found (omega (arith, within, low)) fits
      ∙ ap (λ (p : ℕ). get_or image p 0) at

  -- so do those of a block beside them
  pub lie_further : (start count more : ℕ) → find pair_cmp (file, (place + count) / 4096) t.extents ≡ Some e
      → (place + count) % 4096 ≡ 0 → 4096 * e.cluster ≡ start + count → more ≤ e.valid
      → Lie (inside_at t image) image file place start count
      → Lie (inside_at t image) image file place start (count + more)
  lie_further start count more found whole beside within before k low = elim (cases_lt k count) [
    | inl less ↦ before k less
    | inr later ↦
        let block : (place + k) / 4096 ≡ (place + count) / 4096 = omega (arith, whole, within, low, later, fits) in
        let offset : (place + k) % 4096 ≡ k - count = omega (arith, whole, within, low, later, fits) in
        let at : 4096 * e.cluster + (k - count) ≡ start + k = omega (arith, beside, later) in
        (λ j. byte_in (find pair_cmp (file, block j) (inside_at t image).blocks) (offset j))
        ∙ named_byte t image (file, (place + count) / 4096) e (k - count) found (omega (arith, low, later, within)) fits
        ∙ ap (λ (p : ℕ). get_or image p 0) at
  ]

-- a stretch goes on with the block whose extent names what lies behind it
pub next_beside : (n : ℕ) (t : Typed) (image : List ℕ) (file place start count beside more : ℕ) (next : Option Extent)
    → next ≡ find pair_cmp (file, (place + count) / 4096) t.extents
    → IsSomeAnd next (λ e. (e.valid ≡ beside) × (4096 * e.cluster ≡ start + count)) → ExtentsHold n t.files t.extents
    → (place + count) % 4096 ≡ 0 → more ≤ beside → Lie (inside_at t image) image file place start count
    → (beside ≤ 4096) × (start + (count + more) ≤ 4096 * n)
    × Lie (inside_at t image) image file place start (count + more)
next_beside n t image file place start count beside more None is none hold whole within before = absurd none
next_beside n t image file place start count beside more (Some e) is named hold whole within before =
    let holds = extent_found n t (file, (place + count) / 4096) e (sym is) hold in
    let valid = named.0 in
    let at = named.1 in
    let fits = holds.in_cluster in
    let last = holds.in_data.within in (
      omega (arith, valid, fits),
      omega (arith, at, last, within, valid, fits),
      lie_further t image file place e fits start count more (sym is) whole at (omega (arith, within, valid)) before,
    )

-- bytes that were read from where those of a file lie
pub lying_read : (i : Inside) (image piece rest : List ℕ) (file place start count : ℕ) → length piece ≡ count
    → piece ≡ part start count image → Lie i image file place start count → HasBytes i file place count (piece ++ rest)
lying_read i image piece rest file place start count long read lie k low =
    get_or_append_left piece rest 0 k (omega (arith, low, long))
    ∙ ap (λ (xs : List ℕ). get_or xs k 0) read
    ∙ get_or-take count (drop start image) k 0 low
    ∙ get_or-drop start image k 0
    ∙ sym (lie k low)

-- zeros in the place of bytes that no extent names
pub zeros_read : (t : Typed) (image piece rest : List ℕ) (file place count : ℕ) (found : Option Extent)
    → piece ≡ replicate count 0 → place % 4096 + count ≤ 4096
    → found ≡ find pair_cmp (file, place / 4096) t.extents → IfSome found (λ e. e.valid ≤ place % 4096)
    → HasBytes (inside_at t image) file place count (piece ++ rest)
zeros_read t image piece rest file place count found zeros within is behind k low =
    let long : length piece ≡ count = ap length zeros ∙ length-replicate count 0 in
    let block : (place + k) / 4096 ≡ place / 4096 = omega (arith, within, low) in
    let offset : (place + k) % 4096 ≡ place % 4096 + k = omega (arith, within, low) in
    get_or_append_left piece rest 0 k (omega (arith, low, long))
    ∙ ap (λ (xs : List ℕ). get_or xs k 0) zeros
    ∙ get_or-replicate count k 0 0 low
    ∙ sym (zero_byte t image (file, place / 4096) found (place % 4096 + k) is (further found behind))
    ∙ sym (λ j. byte_in (find pair_cmp (file, block j) (inside_at t image).blocks) (offset j))
  where
    further : (o : Option Extent) → IfSome o (λ e. e.valid ≤ place % 4096) → IfSome o (λ e. e.valid ≤ place % 4096 + k)
    further None behind = tt
    further (Some e) behind = omega (arith, behind)

-- a stretch is put behind the bytes before it
pub stretch_behind : (i : Inside) (file at done count : ℕ) (out piece rest : List ℕ) → done ≤ length out
    → count ≤ length piece → ((k : ℕ) → k < done → get_or out k 0 ≡ byte_at i file (at + k))
    → HasBytes i file (at + done) count piece
    → (k : ℕ) → k < done + count → get_or (take done out ++ (piece ++ rest)) k 0 ≡ byte_at i file (at + k)
stretch_behind i file at done count out piece rest within long before here k low = elim (cases_lt k done) [
  | inl less ↦
      let there : k < length (take done out) = omega (arith, less, front_long) in
      get_or_append_left (take done out) (piece ++ rest) 0 k there ∙ get_or-take done out k 0 less ∙ before k less
  | inr more ↦
      let lower : k - done < count = omega (arith, low, more) in
      let place : at + done + (k - done) ≡ at + k = omega (arith, more) in
      get_or-append_right (take done out) (piece ++ rest) done k 0 front_long more
      ∙ get_or_append_left piece rest 0 (k - done) (omega (arith, lower, long))
      ∙ here (k - done) lower
      ∙ ap (byte_at i file) place
]
  where
    front_long : length (take done out) ≡ done
    front_long = length-take-le done out within
