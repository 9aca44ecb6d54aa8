-- A block that is recalled: its bytes, the inside and the view.
use Rattle.std.specs.Prelude.{◌≡◌, ◌≤◌, ◌<◌, ◌+◌, ◌-◌, ◌*◌, ◌/◌, ◌%◌, ◌==◌, ◌&&◌, ◌||◌, ◌⊎◌, ℕ, suc, zero, Bool, true, false, cond, nat_lt, nat_le, min, max, T, List, [], ◌∷◌, map, length, take, drop, get_or, Option, Some, None, if◌then◌else◌, refl}
use Rattle.std.proofs.Common.{sym, ◌∙◌, ap, subst, inl, inr, ⊎_elim, arith, eqb-true, ltb-true, leb-true}
use Rattle.std.specs.List.{range_with_len}
use Rattle.std.specs.Ordering.{nat_cmp}
use Rattle.std.specs.Cmp.{nat_cmp_total, unsigned_tied}
use Rattle.std.specs.FinMap.{find, put, is_sorted}
use Rattle.std.specs.FinMap.Entries.{same_entries, is_sorted-put, find-put}
use Rattle.std.proofs.lemmas.Bool.{cases_lt, cases_eq, ne_eqb}
use Rattle.std.proofs.lemmas.List.{get_or-take, get_or-drop}
use Rattle.std.proofs.lemmas.List.FromFn.{fill_by_all, get_or-map-range_with_len}
use Rattle.std.proofs.lemmas.Map.Lookups.{exact_unsigned}
use Rattle.plain_volume.specs.Volume.{Cell, Cells, Byte, Lost, lost_where, is_within, is_beside, bytes_of}
use Rattle.table_records.specs.Keys.{pair_cmp}
use Rattle.table_records.specs.declared.records.FileRecord.{FileRecord}
use Rattle.volume_inside.specs.Changes.{with_block}
use Rattle.volume_inside.specs.Entries.{each_found}
use Rattle.volume_inside.specs.Rules.{next_id_of, FileHolds, RulesHold}
use Rattle.volume_inside.specs.Inside.{Inside, inside_at}
use Rattle.volume_inside.specs.Typed.{Typed}
use Rattle.volume_inside.specs.View.{cell, cells_or_none, file_cells, view}
use Rattle.volume_inside.proofs.Joined.{view_recalled}
use Rattle.volume_files.specs.Insides.{id_written, of_record, file_written, stood_at, blocks_written, block_written}
use Rattle.volume_files.specs.Own.{covered_in, AreOwnBeside}
use Rattle.volume_files.specs.Writing.{laid, reaching}
use Rattle.volume_files.proofs.BlockSet.{found_file}
use Rattle.volume_files.proofs.Overwritten.{within}
use Rattle.rw_filter.proofs.OwnRead.{byte_of, get_or-bytes_of}

-- ---- cells of which none is lost

kept_none : {A : Type 0} (b : Bool) (a : A) (rest : Option A) → (if b then Some a else rest) ≡ None → rest ≡ None
kept_none true a rest is = absurd (cc)
kept_none false a rest is = is

module _ (test : ℕ → Bool) (f : ℕ → Cell) where
  rest_none : (s : ℕ) (c : Cell) (cs : Cells) → lost_where test s (c ∷ cs) ≡ None → lost_where test (s + 1) cs ≡ None
  rest_none s (Byte b) cs none = none
  rest_none s Lost cs none = kept_none (test s) s (lost_where test (s + 1) cs) none

  first_byte : (s : ℕ) (c : Cell) (cs : Cells) → test s ≡ true → lost_where test s (c ∷ cs) ≡ None → c ≡ Byte (byte_of c)
  first_byte s (Byte b) cs is none = refl
  first_byte s Lost cs is none =
      let clash : Some s ≡ None =
      sym (ap (λ (b : Bool). if b then Some s else lost_where test (s + 1) cs) is) ∙ none in
      absurd (cc)

  pub byte_there : (n s p : ℕ) → lost_where test s (map f (range_with_len s n)) ≡ None → s ≤ p → p < s + n
      → test p ≡ true → f p ≡ Byte (byte_of (f p))
  byte_there zero s p none from to is = absurd (omega (arith, from, to))
  byte_there (suc n) s p none from to is = elim (cases_lt s p) [
    | inl later ↦
        byte_there n (s + 1) p (rest_none s (f s) (map f (range_with_len (s + 1) n)) none) (omega (arith, later))
        (omega (arith, to)) is
    | inr first ↦
        let same : p ≡ s = omega (arith, from, first) in
        ap f same
        ∙ first_byte s (f s) (map f (range_with_len (s + 1) n)) (ap test (sym same) ∙ is) none
        ∙ ap (λ (q : ℕ). Byte (byte_of (f q))) (sym same)
  ]

-- ---- where a covered block lies

-- a file of which a base covers something is there
pub covered_file : (t : Typed) (id at : ℕ) → at < covered_in (find nat_cmp id t.files)
    → (file : FileRecord) × (find nat_cmp id t.files ≡ Some file)
covered_file t id at low = by (find nat_cmp id t.files) low
  where
    by : (o : Option FileRecord) → at < covered_in o → (file : FileRecord) × (o ≡ Some file)
    by None low = absurd (omega (arith, low))
    by (Some file) low = (file, refl)

-- a base covers no more than the file has, and a file is not too long
pub covered_short : (n : ℕ) (t : Typed) (id : ℕ) (file : FileRecord) → RulesHold n t
    → find nat_cmp id t.files ≡ Some file
    → (covered_in (find nat_cmp id t.files) ≤ file.length) × (file.length ≤ 1073741824)
covered_short n t id file rules is =
    let holds = each_found nat_cmp exact_unsigned (FileHolds (next_id_of t)) id file t.files is rules.files in
    let cover : covered_in (find nat_cmp id t.files) ≡ file.covers = ap covered_in is in
    let within : file.covers ≤ file.length = holds.cover.within in
    (omega (arith, cover, within), holds.short)

split_and : (a b : Bool) → (a && b) ≡ true → (a ≡ true) × (b ≡ true)
split_and true b is = (refl, is)
split_and false b is = absurd (cc)

either_or : (a b : Bool) → (a || b) ≡ true → (a ≡ true) ⊎ (b ≡ true)
either_or true b is = inl refl
either_or false b is = inr is

-- beside the first bytes of a block lie those of the block behind them
beside_block : (index count p : ℕ) → 0 < count → count ≤ 4096 → is_beside (4096 * index) count p ≡ true
    → (4096 * index + count ≤ p) × (p < 4096 * index + 4096)
beside_block index count p some most beside =
    let at : ℕ = 4096 * index in
    let parts = split_and (p / 4096 == at / 4096 || p / 4096 == (at + count - 1) / 4096)
    (nat_lt p at || nat_le (at + count) p) beside in
    let block : p / 4096 ≡ index = ⊎_elim
    (λ one. let e = eqb-true (p / 4096) (at / 4096) one in omega (arith, e))
    (λ two. let e = eqb-true (p / 4096) ((at + count - 1) / 4096) two in omega (arith, e, some, most))
    (either_or (p / 4096 == at / 4096) (p / 4096 == (at + count - 1) / 4096) parts.0) in
    let behind : at + count ≤ p = ⊎_elim
    (λ one. absurd (let e = ltb-true p at one in omega (arith, e, block)))
    (λ two. leb-true (at + count) p two)
    (either_or (nat_lt p at) (nat_le (at + count) p) parts.1) in
    (behind, omega (arith, block))

-- beside the bytes of a block none is covered: they run to the end of the block, or of the file
pub own_beside_block : (n : ℕ) (t : Typed) (id index count : ℕ) (file : FileRecord) → RulesHold n t
    → find nat_cmp id t.files ≡ Some file → count ≡ min 4096 (file.length - 4096 * index) → 0 < count
    → AreOwnBeside t id (4096 * index) count
own_beside_block n t id index count file rules is is_count some p beside low =
    let cover = covered_short n t id file rules is in
    let sides = beside_block index count p (omega (arith, some)) (omega (arith, is_count)) beside in
    absurd (omega (arith, low, cover.0, is_count, sides.0, sides.1))

-- ---- the bytes of the block

module _ (t : Typed) (image : List ℕ) (id index count : ℕ) (file : FileRecord)
    (is : find nat_cmp id t.files ≡ Some file) (is_count : count ≡ min 4096 (file.length - 4096 * index))
    (bytes : List ℕ) where
  abbrev here : Inside
  here = inside_at t image

  abbrev at : ℕ
  at = 4096 * index

  module _ (read : bytes ≡ bytes_of (take count (drop at (file_cells here id))))
      (whole : lost_where (is_within at count) 0 (file_cells here id) ≡ None) where
    shown : (p : ℕ) → p < file.length → p / 4096 ≡ index → cell here id file p ≡ Byte (get_or bytes (p % 4096) 0)
    shown p low in_block =
        let k = p % 4096 in
        let place : at + k ≡ p = omega (arith, in_block) in
        let few : k < count = omega (arith, in_block, low, is_count) in
        let f : ℕ → Cell = cell here id file in
        let byte : f p ≡ Byte (byte_of (f p)) =
        byte_there (is_within at count) f file.length 0 p
        (sym (ap (λ (o : Option FileRecord). lost_where (is_within at count) 0 (cells_or_none here id o)) is) ∙ whole)
        (omega arith) (omega (arith, low)) (within at count p (omega (arith, place)) (omega (arith, place, few))) in
        let there : get_or bytes k 0 ≡ byte_of (f p) =
        ap (λ (bs : List ℕ). get_or bs k 0)
        (read ∙ ap (λ (o : Option FileRecord). bytes_of (take count (drop at (cells_or_none here id o)))) is)
        ∙ get_or-bytes_of (take count (drop at (map f (range_with_len 0 file.length)))) k
        ∙ ap byte_of (get_or-take count (drop at (map f (range_with_len 0 file.length))) k (Byte 0) few
        ∙ get_or-drop at (map f (range_with_len 0 file.length)) k (Byte 0)
        ∙ get_or-map-range_with_len f 0 file.length (at + k) p (Byte 0) (omega (arith, place, low)) (omega (arith, place))) in
        byte ∙ ap Byte (sym there)

    -- no file sees the block
    pub view_same : view (with_block (id, index) bytes here) ≡ view here
    view_same = view_recalled here id index bytes
        (λ other p found low in_block.
        let same : other ≡ file = (let both : Some other ≡ Some file = sym found ∙ is in cc) in
        ap (λ (g : FileRecord). cell here id g p) same
        ∙ shown p (omega (arith, low, ap (λ (g : FileRecord). g.length) same)) in_block)

-- ---- the inside

-- a record that is there may be put once more
pub put_again : (id : ℕ) (file : FileRecord) (files : List (ℕ × FileRecord)) → T (is_sorted nat_cmp files)
    → find nat_cmp id files ≡ Some file → put nat_cmp id file files ≡ files
put_again id file files sorted found =
    same_entries nat_cmp nat_cmp_total exact_unsigned (put nat_cmp id file files) files
    (is_sorted-put nat_cmp nat_cmp_total id file files sorted) sorted
    (λ x. elim (cases_eq x id) [
      | inl same ↦
          subst (λ (y : ℕ). find nat_cmp y (put nat_cmp id file files) ≡ find nat_cmp y files) (sym same)
          (found_file id file files ∙ sym found)
      | inr differ ↦
          find-put nat_cmp nat_cmp_total x id file files
          ∙ ap (λ (b : Bool). cond b (Some file) (find nat_cmp x files)) (unsigned_tied x id ∙ ne_eqb x id differ)
    ])

-- a file that reaches no further stays
pub reaches_no_more : (file : FileRecord) (to : ℕ) → to ≤ file.length → reaching to file ≡ file
reaches_no_more file to low =
    let same : max file.length to ≡ file.length = omega (arith, low) in
    ap (λ (n : ℕ). record file { length = n }) same

-- a block has the bytes that fill it
filled : (len at index : ℕ) (bytes : List ℕ) (stood : ℕ → ℕ) → at ≡ 4096 * index → length bytes ≡ min 4096 (len - 4096 * index)
    → block_written len at bytes stood index ≡ bytes
filled len at index bytes stood place long =
    sym (fill_by_all (λ (o : ℕ). laid at bytes (4096 * index + o) (stood (4096 * index + o))) bytes (min 4096 (len - 4096 * index)) 0 long
    (λ o low.
    let there : 4096 * index + o - at ≡ o = omega (arith, place) in
    sym (ap (λ (b : Bool). if b then get_or bytes (4096 * index + o - at) 0 else stood (4096 * index + o))
    (within at (length bytes) (4096 * index + o) (omega (arith, place)) (omega (arith, place, low, long)))
    ∙ ap (λ (k : ℕ). get_or bytes k 0) there)))

module _ (t : Typed) (image : List ℕ) (id index : ℕ) (file : FileRecord) (is : find nat_cmp id t.files ≡ Some file)
    (sorted : T (is_sorted nat_cmp t.files)) where
  abbrev i : Inside
  i = inside_at t image

  block_put : (bytes : List ℕ) → 0 < length bytes → length bytes ≡ min 4096 (file.length - 4096 * index)
      → (first n : ℕ) → first ≡ index → n ≡ 1 → (len : ℕ) → len ≡ file.length
      → blocks_written id len (4096 * index) bytes (stood_at i id file) first n i.blocks ≡ put pair_cmp (id, index) bytes i.blocks
  block_put bytes some long first n first_is n_is len len_is =
      (λ k. blocks_written id (len_is k) (4096 * index) bytes (stood_at i id file) (first_is k) (n_is k) i.blocks)
      ∙ ap (λ (b : List ℕ). put pair_cmp (id, index) b i.blocks)
      (filled file.length (4096 * index) index bytes (stood_at i id file) refl long)

  -- a write of the bytes of the block puts the block, and nothing else
  pub inside_recalled : (bytes : List ℕ) → 0 < length bytes → length bytes ≡ min 4096 (file.length - 4096 * index)
      → id_written id (4096 * index) bytes i ≡ with_block (id, index) bytes i
  inside_recalled [] some long = absurd (omega (arith, some))
  inside_recalled (b ∷ bs) some long =
      let n = length (b ∷ bs) in
      let at : ℕ = 4096 * index in
      let first : at / 4096 ≡ index = omega arith in
      let one : (at + n - 1) / 4096 + 1 - at / 4096 ≡ 1 = omega (arith, some, long) in
      let len : max file.length (at + n) ≡ file.length = omega (arith, long, some) in
      let files : put nat_cmp id (reaching (at + n) file) t.files ≡ t.files =
      ap (λ (g : FileRecord). put nat_cmp id g t.files) (reaches_no_more file (at + n) (omega (arith, len)))
      ∙ put_again id file t.files sorted is in
      let blocks = block_put (b ∷ bs) some long (at / 4096) ((at + n - 1) / 4096 + 1 - at / 4096) first one
      (max file.length (at + n)) len in
      ap (λ (o : Option FileRecord). of_record o (λ g. file_written id at (b ∷ bs) g i) i) is
      ∙ (λ k. record i { files = files k; blocks = blocks k })
