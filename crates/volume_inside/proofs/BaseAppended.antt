-- What an append to a container makes of its bytes, more of them behind those that were there, and of copies, the same.
use Rattle.std.specs.Prelude.{◌≡◌, ◌≤◌, ◌<◌, ◌+◌, ◌*◌, ◌-◌, ℕ, zero, suc, List, [], ◌∷◌, ◌++◌, length, take, drop}
use Rattle.std.specs.Prelude.{Option, Some, None, refl}
use Rattle.std.proofs.Common.{◌∙◌, ap, sym, arith, inl, inr, append_assoc, length-append, length-drop}
use Rattle.std.specs.FinMap.{find}
use Rattle.std.proofs.lemmas.Bool.{cases_lt}
use Rattle.std.proofs.lemmas.List.{drop-drop, take-append-le, drop-append-le}
use Rattle.std.proofs.Math.Seq.{take-add}
use Rattle.vdisk.specs.Ranges.{part, length-part}
use Rattle.table_records.specs.Keys.{pair_cmp}
use Rattle.volume_inside.specs.Entries.{Each}
use Rattle.table_records.specs.declared.chunk_records.Row.{Row}
use Rattle.table_records.specs.declared.chunk_records.Place.{Place}
use Rattle.volume_inside.specs.ChunkTables.{ChunkTables, CopyKey}
use Rattle.volume_inside.specs.Pages.{used_of, page_length, page_bytes, page, pages_from, pages_of, content}
use Rattle.volume_inside.specs.ChunkChanges.{Grows, HasPages}
use Rattle.volume_inside.specs.Chunks.{length_of, copy_of, copies_of, chunks_at}

-- a part of a front
part_joined : (at n : ℕ) (front more : List ℕ) → at + n ≤ length front → part at n (front ++ more) ≡ part at n front
part_joined at n front more fits =
    ap (λ (q : List ℕ). take n q) (drop-append-le at front more (omega (arith, fits)))
    ∙ take-append-le n (drop at front) more (omega (arith, fits, length-drop at front))

-- a part as a shorter one and the rest behind it
part_split : (at m n : ℕ) (image : List ℕ) → m ≤ n → part at n image ≡ part at m image ++ part (at + m) (n - m) image
part_split at m n image le =
    let whole : n ≡ m + (n - m) = omega (arith, le) in
    ap (λ (k : ℕ). take k (drop at image)) whole
    ∙ take-add m (n - m) (drop at image)
    ∙ ap (λ (q : List ℕ). take m (drop at image) ++ take (n - m) q) (drop-drop m at image)

module _ (t u : ChunkTables) (c : ℕ) (image : List ℕ) (g : Grows t u c) where
  abbrev used : ℕ
  used = used_of t.containers c

  abbrev more_used : ℕ
  more_used = used_of u.containers c

  abbrev HasMore : List ℕ → List ℕ → Type 0
  HasMore old new = (more : List ℕ) × (new ≡ old ++ more)

  longer : (o : Option ℕ) (m n : ℕ) → m ≤ n → HasMore (page_bytes o m image) (page_bytes o n image)
  longer None m n le = ([], refl)
  longer (Some cluster) m n le = (part (4096 * cluster + m) (n - m) image, part_split (4096 * cluster) m n image le)

  full : (index : ℕ) → 4096 * suc index ≤ used → page u (c, index) image ≡ page t (c, index) image
  full index fits =
      let le = g.used in
      let same : page_length u.containers (c, index) ≡ page_length t.containers (c, index) = omega (arith, fits, le) in
      λ i. page_bytes (g.clusters index (omega (arith, fits)) i) (same i) image

  last : (index : ℕ) → 4096 * index < used → HasMore (page t (c, index) image) (page u (c, index) image)
  last index some = (more.0, same_cluster ∙ more.1)
    where
      short : ℕ
      short = page_length t.containers (c, index)

      long : ℕ
      long = page_length u.containers (c, index)

      more : HasMore (page t (c, index) image) (page_bytes (find pair_cmp (c, index) t.clusters) long image)
      more = let le = g.used in longer (find pair_cmp (c, index) t.clusters) short long (omega (arith, le))

      same_cluster : page u (c, index) image ≡ page_bytes (find pair_cmp (c, index) t.clusters) long image
      same_cluster = ap (λ (o : Option ℕ). page_bytes o long image) (g.clusters index some)

  pages_grow : (n m index : ℕ) → index + n ≡ pages_of used → index + m ≡ pages_of more_used
      → HasMore (pages_from t c image index n) (pages_from u c image index m)
  pages_grow zero m index one two = (pages_from u c image index m, refl)
  pages_grow (suc n) zero index one two = absurd (let le = g.used in omega (arith, one, two, le))
  pages_grow (suc n) (suc m) index one two = elim (cases_lt used (4096 * suc index)) [
    | inr whole ↦
        let rest = pages_grow n m (suc index) (omega (arith, one)) (omega (arith, two)) in (
          rest.0,
          (λ i. full index (omega (arith, whole)) i ++ rest.1 i)
              ∙ sym (append_assoc (page t (c, index) image) (pages_from t c image (suc index) n) rest.0),
        )
    | inl less ↦ ends n (omega (arith, one, less))
  ]
    where
      ends : (k : ℕ) → k ≡ 0 → HasMore (page t (c, index) image ++ pages_from t c image (suc index) k)
          (page u (c, index) image ++ pages_from u c image (suc index) m)
      ends zero none =
          let more = last index (omega (arith, one)) in (
            more.0 ++ pages_from u c image (suc index) m,
            ap (λ (q : List ℕ). q ++ pages_from u c image (suc index) m) more.1
                ∙ append_assoc (page t (c, index) image) more.0 (pages_from u c image (suc index) m)
                ∙ ap (λ (q : List ℕ). q ++ (more.0 ++ pages_from u c image (suc index) m)) (sym (no_more (page t (c, index) image))),
          )
        where
          no_more : (q : List ℕ) → q ++ [] ≡ q
          no_more [] = refl
          no_more (x ∷ q) = ap (λ (l : List ℕ). x ∷ l) (no_more q)
      ends (suc k) none = absurd (omega (arith, none))

  -- MORE BYTES: what the container holds stands in front of what it holds then
  pub content_grows : (more : List ℕ) × (content u c image ≡ content t c image ++ more)
  content_grows = pages_grow (pages_of used) (pages_of more_used) 0 (omega arith) (omega arith)

module _ (t : ChunkTables) (c : ℕ) (image : List ℕ) (has : HasPages t c image) where
  length-page : (index : ℕ) → 4096 * index < used_of t.containers c
      → length (page t (c, index) image) ≡ page_length t.containers (c, index)
  length-page index some =
      let one = has index some in
      let fits = one.2 in
      ap (λ (o : Option ℕ). length (page_bytes o (page_length t.containers (c, index)) image)) one.1
      ∙ length-part (4096 * one.0) (page_length t.containers (c, index)) image (omega (arith, fits))

  length-pages : (n index : ℕ) → index + n ≡ pages_of (used_of t.containers c)
      → length (pages_from t c image index n) ≡ used_of t.containers c - 4096 * index
  length-pages zero index all = omega (arith, all)
  length-pages (suc n) index all =
      let here = length-page index (omega (arith, all)) in
      let rest = length-pages n (suc index) (omega (arith, all)) in
      omega (arith, here, rest, all, length-append (page t (c, index) image) (pages_from t c image (suc index) n))

  pub length-content : length (content t c image) ≡ used_of t.containers c
  length-content = let all = length-pages (pages_of (used_of t.containers c)) 0 (omega arith) in omega (arith, all)

-- THE APPEND: where containers grow, and places lie in what was used, each copy has the bytes that it had
module _ (t u : ChunkTables) (image : List ℕ) (grows : (c : ℕ) → Grows t u c) (has : (c : ℕ) → HasPages t c image)
    (rows : u.rows ≡ t.rows) (places : u.places ≡ t.places) where
  abbrev LiesIn : CopyKey → Place → Type 0
  LiesIn k p = p.offset + length_of t.rows k.0 ≤ used_of t.containers p.container

  copy_stays : (k : CopyKey) (p : Place) → LiesIn k p → copy_of u k p image ≡ copy_of t k p image
  copy_stays k p within =
      let more = content_grows t u p.container image (grows p.container) in
      let size = length-content t p.container image (has p.container) in
      ap (λ (rs : List (ℕ × Row)). part p.offset (length_of rs k.0) (content u p.container image)) rows
      ∙ ap (λ (q : List ℕ). part p.offset (length_of t.rows k.0) q) more.1
      ∙ part_joined p.offset (length_of t.rows k.0) (content t p.container image) more.0 (omega (arith, within, size))

  copies_stay : (ps : List (CopyKey × Place)) → Each LiesIn ps → copies_of u ps image ≡ copies_of t ps image
  copies_stay [] within = refl
  copies_stay (p ∷ ps) within = λ i. (p.0, copy_stays p.0 p.1 within.0 i) ∷ copies_stay ps within.1 i

  pub bases_stay : Each LiesIn t.places → chunks_at u image ≡ chunks_at t image
  bases_stay within =
      (λ i. record { rows = rows i; copies = copies_of u (places i) image })
      ∙ (λ i. record { rows = t.rows; copies = copies_stay t.places within i })
