-- What crash images show through data writes and commits.
use Rattle.std.specs.Prelude.{◌≡◌, ◌*◌, ℕ, List, length, Result, Ok, Err, refl}
use Rattle.std.proofs.Common.{sym, ◌∙◌, ap, subst, inl, inr, arith}
use Rattle.vdisk.specs.Disk.{DiskState, ChangedWithin}
use Rattle.vdisk.specs.Steps.{Keeps, TornWithin, keeps_torn, keeps_as}
use Rattle.byte_map.specs.Words.{Map}
use Rattle.plain_volume.specs.Volume.{Volume}
use Rattle.volume_inside.specs.declared.layout.TheConstants.{CLUSTER_BYTES}
use Rattle.volume_inside.specs.Typed.{typed_of}
use Rattle.volume_inside.specs.Inside.{inside_at}
use Rattle.volume_inside.specs.View.{view}
use Rattle.volume_inside.specs.Ranges.{IsApart, agrees_apart}
use Rattle.volume_inside.specs.Named.{named}
use Rattle.volume_inside.specs.Frame.{inside_apart}
use Rattle.volume_inside.specs.Superblock.{IsSuperblock, HasSuperblock}
use Rattle.volume_inside.specs.ChunkRules.{MapsHold}
use Rattle.volume_inside.specs.Rules.{IsVolume}
use Rattle.volume_inside.specs.Shows.{Area, HasInside, Shows, Kept, ShowsEither, view_at}
use Rattle.volume_inside.specs.Commits.{IsCommitImage, IsSettledImage}

same_map : (m n : Map) → ◌≡◌ {A = Result Map ℕ} (Ok m) (Ok n) → m ≡ n
same_map m n e = ap read e
  where
    read : Result Map ℕ → Map
    read (Ok k) = k
    read (Err half) = m

module _ (a : Area) where
  -- A map of a volume names bytes that a change did not touch: an image whose journal spells the map has its inside.
  still_inside : (at n : ℕ) (d c : List ℕ) (m : Map) → HasSuperblock a.clusters d → length d ≡ CLUSTER_BYTES * a.clusters
      → a.meta c ≡ Ok m → IsVolume a.clusters m → MapsHold (inside_at (typed_of m) d) → IsApart at n (named (typed_of m))
      → ChangedWithin at n d c → HasInside a (inside_at (typed_of m) d) c
  still_inside at n d c m superblock size spells volume maps apart change =
      let same = agrees_apart at n (named (typed_of m)) d c apart change in
      record {
        superblock = record {
          whole = omega (arith, superblock.whole, change.size);
          is = subst (λ (b : List ℕ). IsSuperblock a.clusters b) (sym same.0) superblock.is;
        };
        size = change.size ∙ size;
        stored = m;
        spells = spells;
        volume = volume;
        is = inside_apart (typed_of m) at n d c apart change;
        maps = subst MapsHold (sym (inside_apart (typed_of m) at n d c apart change)) maps;
      }

  -- a change that the map's tables do not name shows the same
  pub shows_same : (at n : ℕ) (d c : List ℕ) (m : Map) (w : Volume) → a.meta d ≡ Ok m → a.meta c ≡ a.meta d
      → ChangedWithin at n d c → IsApart at n (named (typed_of m)) → Shows a w d → Shows a w c
  shows_same at n d c m w spells same change apart shows =
      let has = shows.has in
      let mine : m ≡ has.stored = same_map m has.stored (sym spells ∙ has.spells) in
      let near = subst (λ (q : Map). IsApart at n (named (typed_of q))) mine apart in
      record {
        inside = inside_at (typed_of has.stored) d;
        has = still_inside at n d c has.stored has.superblock has.size (same ∙ has.spells) has.volume has.maps near
            change;
        is = ap view has.is ∙ shows.is;
      }

  -- a write of data apart from what the stored tables name, torn anyhow
  pub data_keeps : (old new : DiskState) (at n : ℕ) (m : Map) (w : Volume) → TornWithin at n old new
      → ((c : List ℕ) → old.may_leave c → a.meta c ≡ Ok m)
      → ((d c : List ℕ) → ChangedWithin at n d c → a.meta c ≡ a.meta d)
      → IsApart at n (named (typed_of m)) → Kept a old w → Keeps old new (Shows a w)
  data_keeps old new at n m w torn spells unread apart kept =
      keeps_torn old new at n old.may_leave (Shows a w) torn (λ c left. left)
      (λ d c change left. shows_same at n d c m w (spells d left) (unread d c change) change apart (kept d left))

  -- A commit: each crash image spelled the map m before, and n is the map of the tables now, which meet the rules.
  -- Neither names a byte of the journal.
  module _ (old : DiskState) (at half : ℕ) (m n : Map) (w : Volume)
      (spells : (c : List ℕ) → old.may_leave c → a.meta c ≡ Ok m)
      (apart : IsApart at (2 * half) (named (typed_of m))) (apart_now : IsApart at (2 * half) (named (typed_of n)))
      (volume : IsVolume a.clusters n) (maps : MapsHold (inside_at (typed_of n) old.image)) (kept : Kept a old w) where
    now_shows : (c : List ℕ) → ChangedWithin at (2 * half) old.image c → a.meta c ≡ Ok n
        → Shows a (view_at (typed_of n) old.image) c
    now_shows c change is =
        let read = kept old.image old.reads in
        record {
          inside = inside_at (typed_of n) old.image;
          has = still_inside at (2 * half) old.image c n read.has.superblock read.has.size is volume maps apart_now
              change;
          is = refl;
        }

    pub commit_shows : (c : List ℕ) → IsCommitImage a.meta at half old n c
        → ShowsEither a w (view_at (typed_of n) old.image) c
    commit_shows c (inl (d, left, change, same)) =
        inl (shows_same at (2 * half) d c m w (spells d left) same change apart (kept d left))
    commit_shows c (inr (change, is)) = inr (now_shows c change is)

    pub commit_keeps : (new : DiskState) → Keeps old new (IsCommitImage a.meta at half old n)
        → Keeps old new (ShowsEither a w (view_at (typed_of n) old.image))
    commit_keeps new run =
        keeps_as old new (IsCommitImage a.meta at half old n) (ShowsEither a w (view_at (typed_of n) old.image))
        commit_shows run

    pub settled_shows : (c : List ℕ) → IsSettledImage a.meta at half old m n c
        → Shows a (view_at (typed_of n) old.image) c
    settled_shows c (is, inl change) = now_shows c change is
    settled_shows c (is, inr (left, same)) =
        let here = kept c left in
        let read = kept old.image old.reads in
        let mine : read.has.stored ≡ n =
        sym (same_map m read.has.stored (sym (spells old.image old.reads) ∙ read.has.spells)) ∙ same in
        record {
          inside = here.inside;
          has = here.has;
          is = here.is ∙ sym read.is ∙ ap view (sym read.has.is)
              ∙ ap (λ (q : Map). view_at (typed_of q) old.image) mine;
        }

    -- what is kept after a commit that answered Ok
    pub settled_kept : (new : DiskState) → ((c : List ℕ) → new.may_leave c → IsSettledImage a.meta at half old m n c)
        → Kept a new (view_at (typed_of n) old.image)
    settled_kept new settled c left = settled_shows c (settled c left)
