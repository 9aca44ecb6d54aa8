-- The bytes that were appended are those of the container behind what was used.
use Rattle.std.specs.Prelude.{◌≡◌, ◌≤◌, ◌<◌, ◌+◌, ◌*◌, ◌-◌, ◌/◌, ◌%◌, ℕ, List, length, drop, get_or, Option, refl}
use Rattle.std.proofs.Common.{◌∙◌, ap, sym, inl, inr, arith, length-drop}
use Rattle.std.proofs.lemmas.Bool.{cases_eq, cases_lt}
use Rattle.std.proofs.lemmas.List.{get_or-drop}
use Rattle.std.specs.FinMap.{find}
use Rattle.vdisk.specs.Ranges.{part}
use Rattle.table_records.specs.Keys.{pair_cmp}
use Rattle.volume_inside.specs.ChunkChanges.{HasPages}
use Rattle.volume_inside.specs.ChunkTables.{ChunkTables}
use Rattle.volume_inside.specs.Pages.{used_of, pages_of, content}
use Rattle.row_reading.proofs.Runs.{byte_in, byte_at, all_read}
use Rattle.chunk_container.specs.declared.containers.Target.{Target}
use Rattle.chunk_container.specs.Appending.{head_bytes, AreBytesThere}
use Rattle.chunk_container.proofs.PageBytes.{get_or-part}

-- ---- places

head_page : (offset count k : ℕ) → k < head_bytes offset count
    → ((offset + k) / 4096 ≡ offset / 4096) × ((offset + k) % 4096 ≡ offset % 4096 + k)
head_page offset count k low = elim (cases_eq (offset % 4096) 0) [
  | inl none ↦ absurd (omega (arith, none, low))
  | inr some ↦ (omega (arith, some, low), omega (arith, some, low))
]

later_page : (offset count k : ℕ) → head_bytes offset count ≤ k → k < count
    → ((offset + k) / 4096 ≡ pages_of offset + (k - head_bytes offset count) / 4096)
    × ((offset + k) % 4096 ≡ (k - head_bytes offset count) % 4096)
later_page offset count k past low = elim (cases_eq (offset % 4096) 0) [
  | inl none ↦
      let all : head_bytes offset count ≡ 0 = omega (arith, none) in
      (omega (arith, none, all), omega (arith, none, all))
  | inr some ↦
      let all : head_bytes offset count ≡ 4096 - offset % 4096 = omega (arith, some, past, low) in
      (omega (arith, some, all, past), omega (arith, some, all, past))
]

module _ (target : Target) (bytes : List ℕ) (t : ChunkTables) (image : List ℕ)
    (has : HasPages t target.container image) (used : used_of t.containers target.container ≡ target.offset + length bytes)
    (there : AreBytesThere target bytes t.clusters image) where
  abbrev head : ℕ
  head = head_bytes target.offset (length bytes)

  abbrev at : ℕ
  at = target.offset

  one_byte : (k : ℕ) → k < length bytes → get_or bytes k 0 ≡ byte_at t target.container image (target.offset + k)
  one_byte k low = elim (cases_lt k head) [
    | inl front ↦
        let place = head_page at (length bytes) k front in
        let one = has (at / 4096) (omega (arith, used, low)) in
        let where_it_is : 4096 * one.0 + at % 4096 + k ≡ 4096 * one.0 + (at % 4096 + k) = omega arith in
        sym (there.head one.0 k one.1 front)
        ∙ ap (λ (x : ℕ). get_or image x 0) where_it_is
        ∙ sym (ap (λ (o : Option ℕ). byte_in o (at % 4096 + k) image) one.1)
        ∙ (λ i. byte_in (find pair_cmp (target.container, sym place.0 i) t.clusters) (sym place.1 i) image)
    | inr behind ↦
        let place = later_page at (length bytes) k behind low in
        let page = (k - head) / 4096 in
        let o = (k - head) % 4096 in
        let one = has (pages_of at + page) (let first = place.0 in omega (arith, used, low, first)) in
        let under : o < 4096 = omega arith in
        let whole : head + (4096 * page + o) ≡ k = omega (arith, behind) in
        let within : 4096 * page + o < length (drop head bytes) = omega (arith, length-drop head bytes, low, behind) in
        ap (λ (x : ℕ). get_or bytes x 0) (sym whole)
        ∙ sym (get_or-drop head bytes (4096 * page + o) 0)
        ∙ sym (there.pages page o one.0 one.1 under within)
        ∙ get_or-part (4096 * one.0) 4096 image o under
        ∙ sym (ap (λ (x : Option ℕ). byte_in x o image) one.1)
        ∙ (λ i. byte_in (find pair_cmp (target.container, sym place.0 i) t.clusters) (sym place.1 i) image)
  ]

  -- THE BYTES
  pub appended_bytes : part target.offset (length bytes) (content t target.container image) ≡ bytes
  appended_bytes = sym (all_read t target.container image has target.offset (length bytes) bytes
      (omega (arith, used)) refl one_byte)
