-- The bytes of a container, in clusters that lie beside one another.
use Rattle.std.specs.Prelude.{◌≡◌, ◌≤◌, ◌<◌, ◌+◌, ◌*◌, ◌-◌, ◌/◌, ◌%◌, ℕ, zero, suc, List, [], ◌∷◌, ◌++◌, length, take, drop, get_or}
use Rattle.std.specs.Prelude.{Option, Some, None, IsSome, refl}
use Rattle.std.proofs.Common.{◌∙◌, ap, sym, subst, arith, inl, inr}
use Rattle.std.specs.FinMap.{find}
use Rattle.std.specs.Ordering.{is_eq}
use Rattle.std.specs.Prelude.{true, false, cond}
use Rattle.std.proofs.lemmas.Bool.{cases_lt}
use Rattle.std.proofs.lemmas.List.{get_or-take, get_or-drop, get_or_append_left, get_or-append_right, ext_get_or, take_at, drop_at, length-take-le}
use Rattle.std.proofs.Math.Seq.{take-add}
use Rattle.vdisk.specs.Ranges.{part, length-part, part_more}
use Rattle.table_records.specs.Keys.{pair_cmp}
use Rattle.volume_inside.specs.ChunkTables.{ChunkTables, PageKey}
use Rattle.volume_inside.specs.ChunkChanges.{HasPages}
use Rattle.volume_inside.specs.Layout.{IsDataCluster, AreData}
use Rattle.volume_inside.specs.Pages.{used_of, page_length, page_bytes, page, pages_from, pages_of, page_clusters, content}
use Rattle.volume_inside.proofs.BaseAppended.{length-content}
use Rattle.row_reading.specs.Reading.{HasContent, AreBeside}

pub get_or-part : (at n : ℕ) (image : List ℕ) (k : ℕ) → k < n → get_or (part at n image) k 0 ≡ get_or image (at + k) 0
get_or-part at n image k low = get_or-take n (drop at image) k 0 low ∙ get_or-drop at image k 0

-- the byte at a place of a container
abbrev pub byte_in : Option ℕ → ℕ → List ℕ → ℕ
byte_in None o image = 0
byte_in (Some cluster) o image = get_or image (4096 * cluster + o) 0

abbrev pub byte_at : ChunkTables → ℕ → List ℕ → ℕ → ℕ
byte_at t c image p = byte_in (find pair_cmp (c, p / 4096) t.clusters) (p % 4096) image

module _ (t : ChunkTables) (c : ℕ) (image : List ℕ) (has : HasPages t c image) where
  length-page : (index : ℕ) → 4096 * index < used_of t.containers c
      → length (page t (c, index) image) ≡ page_length t.containers (c, index)
  length-page index some =
      let one = has index some in
      let fits = one.2 in
      ap (λ (o : Option ℕ). length (page_bytes o (page_length t.containers (c, index)) image)) one.1
      ∙ length-part (4096 * one.0) (page_length t.containers (c, index)) image (omega (arith, fits))

  in_page : (index k : ℕ) → k < page_length t.containers (c, index)
      → get_or (page t (c, index) image) k 0 ≡ byte_in (find pair_cmp (c, index) t.clusters) k image
  in_page index k low =
      let one = has index (omega (arith, low)) in
      ap (λ (o : Option ℕ). get_or (page_bytes o (page_length t.containers (c, index)) image) k 0) one.1
      ∙ get_or-part (4096 * one.0) (page_length t.containers (c, index)) image k low
      ∙ sym (ap (λ (o : Option ℕ). byte_in o k image) one.1)

  get_or-pages : (n index k : ℕ) → index + n ≡ pages_of (used_of t.containers c) → 4096 * index + k < used_of t.containers c
      → get_or (pages_from t c image index n) k 0
      ≡ byte_in (find pair_cmp (c, index + k / 4096) t.clusters) (k % 4096) image
  get_or-pages zero index k all low = absurd (omega (arith, all, low))
  get_or-pages (suc n) index k all low =
      let long = length-page index (omega (arith, low)) in
      elim (cases_lt k 4096) [
        | inl here ↦
            let there : k < length (page t (c, index) image) = omega (arith, here, low, long) in
            let first : index ≡ index + k / 4096 = omega (arith, here) in
            let place : k ≡ k % 4096 = omega (arith, here) in
            get_or_append_left (page t (c, index) image) (pages_from t c image (suc index) n) 0 k there
            ∙ in_page index k (omega (arith, here, low))
            ∙ (λ i. byte_in (find pair_cmp (c, first i) t.clusters) (place i) image)
        | inr behind ↦
            let whole : length (page t (c, index) image) ≡ 4096 = omega (arith, behind, low, long) in
            let further : suc index + (k - 4096) / 4096 ≡ index + k / 4096 = omega (arith, behind) in
            let place : (k - 4096) % 4096 ≡ k % 4096 = omega (arith, behind) in
            get_or-append_right (page t (c, index) image) (pages_from t c image (suc index) n) 4096 k 0 whole behind
            ∙ get_or-pages n (suc index) (k - 4096) (omega (arith, all)) (omega (arith, behind, low))
            ∙ (λ i. byte_in (find pair_cmp (c, further i) t.clusters) (place i) image)
      ]

  pub get_or-content : (p : ℕ) → p < used_of t.containers c → get_or (content t c image) p 0 ≡ byte_at t c image p
  get_or-content p low =
      let first : 0 + p / 4096 ≡ p / 4096 = omega arith in
      get_or-pages (pages_of (used_of t.containers c)) 0 p (omega arith) (omega (arith, low))
      ∙ ap (λ (index : ℕ). byte_in (find pair_cmp (c, index) t.clusters) (p % 4096) image) first

  -- bytes that are those of the container one by one are a part of it
  pub all_read : (at n : ℕ) (out : List ℕ) → at + n ≤ used_of t.containers c → length out ≡ n
      → ((k : ℕ) → k < n → get_or out k 0 ≡ byte_at t c image (at + k)) → out ≡ part at n (content t c image)
  all_read at n out within long read =
      let size = length-content t c image has in
      ext_get_or 0 out (part at n (content t c image))
      (long ∙ sym (length-part at n (content t c image) (omega (arith, within, size))))
      (λ k low. read k (omega (arith, low, long))
      ∙ sym (get_or-content (at + k) (omega (arith, low, long, within)))
      ∙ sym (get_or-part at n (content t c image) k (omega (arith, low, long))))

pub found_same : (o : Option ℕ) (x y : ℕ) → o ≡ Some x → o ≡ Some y → x ≡ y
found_same o x y one two = let both : Some x ≡ Some y = sym one ∙ two in cc

-- ---- a run

module _ (t : ChunkTables) (c : ℕ) (image : List ℕ) (has : HasContent t image c) (at first count n : ℕ)
    (beside : AreBeside t c (at / 4096) first count) (short : at % 4096 + n ≤ 4096 * count)
    (within : at + n ≤ used_of t.containers c) where
  -- it lies in the image
  pub run_fits : 1 ≤ n → 4096 * first + at % 4096 + n ≤ length image
  run_fits some =
      let k = (at % 4096 + n - 1) / 4096 in
      let low : k < count = omega (arith, some, short) in
      let one = has.pages (at / 4096 + k) (omega (arith, some, within)) in
      let same : one.0 ≡ first + k =
      found_same (find pair_cmp (c, at / 4096 + k) t.clusters) one.0 (first + k) one.1 (beside k low) in
      let fits = one.2 in
      omega (arith, some, same, fits)

  byte_of_run : (k : ℕ) → k < n → get_or image (4096 * first + at % 4096 + k) 0 ≡ byte_at t c image (at + k)
  byte_of_run k low =
      let j = (at + k) / 4096 - at / 4096 in
      let page : at / 4096 + j ≡ (at + k) / 4096 = omega arith in
      let found = beside j (omega (arith, low, short)) in
      let place : 4096 * first + at % 4096 + k ≡ 4096 * (first + j) + (at + k) % 4096 = omega arith in
      ap (λ (p : ℕ). get_or image p 0) place
      ∙ sym (ap (λ (o : Option ℕ). byte_in o ((at + k) % 4096) image) found)
      ∙ ap (λ (index : ℕ). byte_in (find pair_cmp (c, index) t.clusters) ((at + k) % 4096) image) page

  -- THE BYTES OF A RUN are those of the container
  pub run_is_part : 1 ≤ n → part (4096 * first + at % 4096) n image ≡ part at n (content t c image)
  run_is_part some =
      all_read t c image has.pages at n (part (4096 * first + at % 4096) n image) within
      (length-part (4096 * first + at % 4096) n image (run_fits some))
      (λ k low. get_or-part (4096 * first + at % 4096) n image k low ∙ byte_of_run k low)

-- ---- pages

pub page_in_data : (n : ℕ) (k : PageKey) (cluster : ℕ) (es : List (PageKey × ℕ)) → AreData n (page_clusters es)
    → find pair_cmp k es ≡ Some cluster → IsDataCluster n cluster
page_in_data n k cluster [] in_data found = absurd (cc)
page_in_data n k cluster (e ∷ es) in_data found =
    elim (is_eq (pair_cmp k e.0)) as (λ b. cond b (Some e.1) (find pair_cmp k es) ≡ Some cluster → IsDataCluster n cluster) [
      | true ↦ λ at. (let value : e.1 ≡ cluster = cc in subst (λ (x : ℕ). IsDataCluster n x) value in_data.0)
      | false ↦ λ at. page_in_data n k cluster es in_data.1 at
    ] found

-- a page that is used is there
pub page_there : (t : ChunkTables) (image : List ℕ) (c index : ℕ) → HasContent t image c → 4096 * index < used_of t.containers c
    → IsSome (find pair_cmp (c, index) t.clusters)
page_there t image c index has low = subst IsSome (sym (has.pages index low).1) refl

-- what can be read of the same tables and the same image
pub same_content : (c : ℕ) (t u : ChunkTables) (image now : List ℕ) → u ≡ t → now ≡ image → HasContent t image c
    → HasContent u now c
same_content c t u image now tables bytes has =
    subst (λ (v : ChunkTables). HasContent v now c) (sym tables) (subst (λ (x : List ℕ). HasContent t x c) (sym bytes) has)

-- ---- bytes behind those that were read

-- what is read behind the bytes that were read
pub read_further : (at done count : ℕ) (out more bytes : List ℕ) → done ≤ length out → take done out ≡ part at done bytes
    → take count more ≡ part (at + done) count bytes → take (done + count) (take done out ++ more) ≡ part at (done + count) bytes
read_further at done count out more bytes within before read =
    let long = length-take-le done out within in
    take-add done count (take done out ++ more)
    ∙ (λ i. take_at (take done out) more done long i ++ take count (drop_at (take done out) more done long i))
    ∙ (λ i. before i ++ read i)
    ∙ sym (part_more at done count bytes)
