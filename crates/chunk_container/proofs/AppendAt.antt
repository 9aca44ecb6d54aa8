-- An append, once its bytes are written and its pages are named.
use Rattle.std.specs.Prelude.{◌≡◌, ◌<◌, ◌+◌, ◌*◌, ◌-◌, ◌/◌, ◌%◌, ℕ, Bool, true, false, List, length, take, drop, get_or, Some, IsSome, refl}
use Rattle.std.proofs.Common.{sym, ◌∙◌, ap, subst, inl, inr, arith, length-drop}
use Rattle.std.proofs.lemmas.Bool.{cases_eq, cases_lt}
use Rattle.std.proofs.lemmas.List.{take_all}
use Rattle.std.specs.Ordering.{nat_cmp}
use Rattle.std.specs.FinMap.{find, put}
use Rattle.vdisk.specs.declared.disk.Disk.{Ghosts}
use Rattle.table_records.specs.Keys.{pair_cmp}
use Rattle.table_records.specs.declared.chunk_records.Container.{Container}
use Rattle.volume_inside.specs.ChunkRules.{ContainersHold}
use Rattle.volume_inside.specs.ChunkTables.{PageKey}
use Rattle.volume_inside.specs.Inside.{inside_at}
use Rattle.volume_inside.specs.Pages.{pages_of}
use Rattle.volume_inside.specs.Typed.{Typed}
use Rattle.volume_tables.specs.Frames.{NamesNoFree}
use Rattle.volume_tables.specs.Tables.{tables_now, inside_now, states_of, disk_of}
use Rattle.volume_tables.specs.declared.tables.Tables.{Tables}
use Rattle.chunk_container.specs.declared.containers.Target.{Target}
use Rattle.chunk_container.specs.Appending.{more_pages, head_bytes, with_id_if, longer, IsTargetIn, IsAppended, HasHead, AreBytesThere}
use Rattle.chunk_container.specs.Pages.{ArePagesPut, HavePages}
use Rattle.chunk_container.proofs.Appended.{page_bare}
use Rattle.chunk_container.proofs.PageBytes.{get_or-part, cluster_stays}
use Rattle.chunk_container.proofs.PageStates.{page_used, held_now}

-- ---- numbers

-- the pages of the bytes behind those in front
pages_behind : (offset count : ℕ) → pages_of (count - head_bytes offset count) ≡ more_pages offset count
pages_behind offset count = elim (cases_eq (offset % 4096) 0) [
  | inl none ↦ omega (arith, none)
  | inr some ↦ elim (cases_lt count (4096 - offset % 4096)) [
    | inl few ↦ omega (arith, some, few)
    | inr many ↦ omega (arith, some, many)
  ]
]

behind_head : (bytes : List ℕ) (h : ℕ) → take (length bytes - h) (drop h bytes) ≡ drop h bytes
behind_head bytes h = take_all (length bytes - h) (drop h bytes) (omega (arith, length-drop h bytes))

pub pages_left : (offset h : ℕ) (bytes : List ℕ) → h ≡ head_bytes offset (length bytes)
    → pages_of (length (take (length bytes - h) (drop h bytes))) ≡ more_pages offset (length bytes)
pages_left offset h bytes is =
    ap (λ (xs : List ℕ). pages_of (length xs)) (behind_head bytes h)
    ∙ ap pages_of (length-drop h bytes ∙ ap (λ (x : ℕ). length bytes - x) is)
    ∙ pages_behind offset (length bytes)

-- ---- the tables

module _ (target : Target) (kind count : ℕ) (t p u : Typed) (n next : ℕ) (h : ContainersHold n next t.chunks)
    (is : IsTargetIn kind count target t) where
  clusters_drawn : (b : Bool) (q : Typed) → (let drawn = with_id_if b q in drawn.chunks.clusters) ≡ q.chunks.clusters
  clusters_drawn true q = refl
  clusters_drawn false q = refl

  pub drawn_clusters : u ≡ with_id_if target.made p → u.chunks.clusters ≡ p.chunks.clusters
  drawn_clusters drawn = ap (λ (q : Typed). q.chunks.clusters) drawn ∙ clusters_drawn target.made p

  pub appended_by : (first more : ℕ) → first ≡ pages_of target.offset → more ≡ more_pages target.offset count
      → ArePagesPut (target.container, first) more (longer target kind count) t p
      → u ≡ with_id_if target.made p → IsAppended target kind count t u
  appended_by first more begins long put_pages drawn = record {
    rest = drawn ∙ ap (λ (q : Typed). with_id_if target.made q) (pages.rest)
        ∙ (λ i. with_id_if target.made (record t {
          chunks = record t.chunks {
            containers = put nat_cmp target.container (longer target kind count) t.chunks.containers;
            clusters = sym (drawn_clusters drawn) i;
          };
        }));
    others = λ k out. ap (λ (es : List (PageKey × ℕ)). find pair_cmp k es) (drawn_clusters drawn) ∙ pages.others k out;
    there = λ k among. subst (λ (es : List (PageKey × ℕ)). IsSome (find pair_cmp k es)) (sym (drawn_clusters drawn))
        (pages.there k among);
    none = λ index past.
        ap (λ (es : List (PageKey × ℕ)). find pair_cmp (target.container, index) es) (drawn_clusters drawn)
        ∙ pages.others (target.container, index) (λ among. (let most = among.most in omega (arith, most, past)))
        ∙ page_bare n next t.chunks h target.container index (let used = is.used in omega (arith, used, past));
  }
    where
      pages : ArePagesPut (target.container, pages_of target.offset) (more_pages target.offset count)
          (longer target kind count) t p
      pages = subst (λ (x : ℕ × ℕ). ArePagesPut (target.container, x.0) x.1 (longer target kind count) t p)
          (λ i. (begins i, long i)) put_pages

-- ---- the bytes

module _ {D : Type 0} {d : Ghosts D} (f p : Tables D d)
    (frame : (t : Typed) → NamesNoFree f.clusters (states_of f) t
    → inside_at t (disk_of p).image ≡ inside_at t (disk_of f).image) where
  -- bytes in a page that is named stay
  head_stays : (container offset n first more : ℕ) (bytes : List ℕ) (c : Container) → first ≡ pages_of offset
      → n ≡ head_bytes offset (length bytes)
      → ArePagesPut (container, first) more c (tables_now f) (tables_now p)
      → HasHead container offset n bytes (tables_now f).chunks.clusters (disk_of f).image
      → HasHead container offset n bytes (tables_now p).chunks.clusters (disk_of p).image
  head_stays container offset n first more bytes c begins count put_pages head cluster o found low =
      let was : find pair_cmp (container, offset / 4096) (tables_now f).chunks.clusters ≡ Some cluster =
      sym (put_pages.others (container, offset / 4096)
      (λ among. (let least = among.least in omega (arith, least, begins, count, low)))) ∙ found in
      let used = page_used f.clusters (states_of f) (tables_now f) (held_now f) f.spaces (container, offset / 4096)
      cluster was in
      let same = cluster_stays f.clusters (states_of f) (disk_of f).image (disk_of p).image frame cluster used in
      let place : 4096 * cluster + offset % 4096 + o ≡ 4096 * cluster + (offset % 4096 + o) = omega arith in
      let under : offset % 4096 + o < 4096 = omega (arith, low, count) in
      ap (λ (x : ℕ). get_or (disk_of p).image x 0) place
      ∙ sym (get_or-part (4096 * cluster) 4096 (disk_of p).image (offset % 4096 + o) under)
      ∙ ap (λ (xs : List ℕ). get_or xs (offset % 4096 + o) 0) same
      ∙ get_or-part (4096 * cluster) 4096 (disk_of f).image (offset % 4096 + o) under
      ∙ ap (λ (x : ℕ). get_or (disk_of f).image x 0) (sym place)
      ∙ head cluster o was low

  -- what the tables name stays
  pub frame_put : (t : Tables D d) → tables_now f ≡ tables_now t → inside_now f ≡ inside_now t
      → inside_at (tables_now t) (disk_of p).image ≡ inside_now t
  frame_put t now same =
      ap (λ (q : Typed). inside_at q (disk_of p).image) (sym now)
      ∙ frame (tables_now f) (held_now f).1.free_now ∙ same

  -- THE BYTES ARE THERE
  pub bytes_there : (t v : Tables D d) (target : Target) (n first more : ℕ) (bytes : List ℕ) (c : Container)
      → first ≡ pages_of target.offset → n ≡ head_bytes target.offset (length bytes)
      → ArePagesPut (target.container, first) more c (tables_now f) (tables_now p)
      → tables_now f ≡ tables_now t
      → HasHead target.container target.offset n bytes (tables_now t).chunks.clusters (disk_of f).image
      → HavePages (target.container, first) (take (length bytes - n) (drop n bytes)) (tables_now p).chunks.clusters
      (disk_of p).image
      → (tables_now v).chunks.clusters ≡ (tables_now p).chunks.clusters → (disk_of v).image ≡ (disk_of p).image
      → AreBytesThere target bytes (tables_now v).chunks.clusters (disk_of v).image
  bytes_there t v target n first more bytes c begins count put_pages now head pages clusters image =
      subst (λ (x : List (PageKey × ℕ) × List ℕ). AreBytesThere target bytes x.0 x.1) (λ i. (sym clusters i, sym image i))
      (record {
        head = subst (λ (h : ℕ). HasHead target.container target.offset h bytes (tables_now p).chunks.clusters
            (disk_of p).image) count
            (head_stays target.container target.offset n first more bytes c begins count put_pages
            (subst (λ (q : Typed). HasHead target.container target.offset n bytes q.chunks.clusters (disk_of f).image)
            (sym now) head));
        pages = subst (λ (x : ℕ × List ℕ). HavePages (target.container, x.0) x.1 (tables_now p).chunks.clusters
            (disk_of p).image)
            (λ i. (begins i, (behind_head bytes n ∙ ap (λ (h : ℕ). drop h bytes) count) i)) pages;
      })
