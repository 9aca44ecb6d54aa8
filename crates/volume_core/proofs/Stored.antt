-- The inside of the image of a disk is that of the tables, once these are stored.
use Rattle.std.specs.Prelude.{◌≡◌, ◌-◌, ℕ, false, length, Result, Ok}
use Rattle.std.proofs.Common.{ap, sym, ◌∙◌, subst}
use Rattle.vdisk.specs.declared.disk.Disk.{Ghosts}
use Rattle.byte_map.specs.Words.{Map}
use Rattle.plain_volume.specs.Volume.{Volume}
use Rattle.volume_inside.specs.Inside.{inside_at}
use Rattle.volume_inside.specs.InsideOf.{InsideOf}
use Rattle.volume_inside.specs.Layout.{data_clusters}
use Rattle.volume_inside.specs.Named.{clusters_of}
use Rattle.volume_inside.specs.Rules.{IsVolume}
use Rattle.volume_inside.specs.Shows.{Kept}
use Rattle.volume_inside.specs.ChunkRules.{MapsHold}
use Rattle.volume_inside.specs.Typed.{Typed, typed_of}
use Rattle.volume_tables.specs.Mount.{read_meta}
use Rattle.volume_tables.specs.Tables.{tables_now, inside_now, disk_of, area_of, clusters_in, stopped, IsTables}
use Rattle.volume_tables.specs.declared.tables.Tables.{Tables}
use Rattle.volume_tables.proofs.Crashes.{area_spells}
use Rattle.volume_tables.proofs.Told.{told_by_image}
use Rattle.volume_tables.specs.Pending.{settled, pending_of, free_of, after_commit}
use Rattle.volume_tables.specs.Sound.{IsSound}
use Rattle.volume_core.specs.States.{state_at, left_in, IsStateOf}
use Rattle.volume_core.proofs.Settled.{all_free, told_pending}
use Rattle.volume_core.proofs.Told.{left_told}

module _ {D : Type 0} {d : Ghosts D} where
  stored_inside : (u : Tables D d) (stored : Typed) (w : Volume) → IsTables u stored → tables_now u ≡ stored
      → Kept (area_of u) (disk_of u) w → InsideOf read_meta (disk_of u).image (Ok (inside_now u))
  stored_inside u stored w is now kept =
      let s = disk_of u in
      let shows = kept s.image s.reads in
      let has = shows.has in
      let spells = area_spells u stored is s.image s.reads in
      let both : ◌≡◌ {A = Result Map ℕ} (Ok has.stored) (Ok is.map) = sym has.spells ∙ spells in
      let same : has.stored ≡ is.map = cc in (
        u.clusters,
        record {
          superblock = has.superblock;
          size = has.size;
          stored = is.map;
          spells = spells;
          volume = subst (λ (m : Map). IsVolume u.clusters m) same has.volume;
          is = ap (λ (q : Typed). inside_at q s.image) (is.is ∙ sym now);
          maps = subst (λ (m : Map). MapsHold (inside_at (typed_of m) s.image)) same has.maps;
        },
      )

  -- as many clusters are left after a commit as before it
  left_still : (t u : Tables D d) → clusters_in u ≡ clusters_in t → tables_now u ≡ tables_now t
      → left_in (state_at u) ≡ free_of t
  left_still t u clusters now =
      left_told u ∙ (λ i. data_clusters (clusters i) - length (clusters_of (now i)))

  -- the state of tables that are stored, and of which nothing waits, is one of the disk's image
  pub stored_state : (t : Tables D d) (stored : Typed) (w : Volume) → IsTables t stored → tables_now t ≡ stored
      → Kept (area_of t) (disk_of t) w → (epoch place left : ℕ) → pending_of t ≡ settled epoch place left
      → left ≡ left_in (state_at t) → IsStateOf (disk_of t).image (state_at t)
  stored_state t stored w is now kept epoch place left waits same = record {
    clusters = t.size;
    inside = stored_inside t stored w is now kept;
    pending = told_pending t epoch place left (disk_of t).image waits same (told_by_image t stored is);
  }

  -- so is that of tables that were committed
  pub committed_state : (t u : Tables D d) (w : Volume) → IsSound t → stopped t ≡ false → clusters_in u ≡ clusters_in t
      → tables_now u ≡ tables_now t → IsTables u (tables_now t) → Kept (area_of u) (disk_of u) w
      → pending_of u ≡ after_commit t → IsStateOf (disk_of u).image (state_at u)
  committed_state t u w sound runs clusters now is kept waits =
      stored_state u (tables_now t) w is now kept _ _ _ waits
      (all_free t sound runs ∙ sym (left_still t u clusters now))
