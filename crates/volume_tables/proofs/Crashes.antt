-- What crash images show while the tables write data and commit.
use Rattle.std.specs.Prelude.{◌≡◌, ◌≤◌, ◌+◌, ◌*◌, ℕ, List, Ok, refl}
use Rattle.std.proofs.Common.{sym, ◌∙◌, ap, subst, inl, arith}
use Rattle.vdisk.specs.Disk.{DiskState, ChangedWithin}
use Rattle.vdisk.specs.Ranges.{part_apart}
use Rattle.vdisk.specs.Steps.{Keeps, TornWithin}
use Rattle.vdisk.specs.declared.disk.Disk.{Ghosts}
use Rattle.meta_log.specs.Meta.{meta_of}
use Rattle.meta_log.specs.Log.{layout_of}
use Rattle.meta_log.specs.declared.log.MetaLog.{MetaLog}
use Rattle.meta_log.specs.Ready.{IsCommitImage, IsSettledImage}
use Rattle.meta_log.proofs.Lives.{stands_spells, meta_same}
use Rattle.plain_volume.specs.Volume.{Volume}
use Rattle.volume_inside.specs.Layout.{half_bytes, journal_at, first_data_cluster}
use Rattle.volume_inside.specs.Typed.{Typed, typed_of}
use Rattle.volume_inside.specs.Inside.{inside_at}
use Rattle.volume_inside.specs.Frame.{inside_apart}
use Rattle.volume_inside.specs.Ranges.{IsApart}
use Rattle.volume_inside.specs.Named.{named, clusters_of, IsUnnamed}
use Rattle.volume_inside.specs.Lists.{IsOut}
use Rattle.volume_inside.specs.ChunkRules.{MapsHold}
use Rattle.volume_inside.specs.Rules.{IsVolume}
use Rattle.volume_inside.specs.Tails.{AreTailsFree}
use Rattle.volume_inside.specs.Shows.{Shows, Kept, ShowsEither, view_at}
use Rattle.volume_inside.specs.Crash.{data_keeps, commit_keeps, settled_kept}
use Rattle.volume_inside.proofs.Spaces.{unnamed}
use Rattle.volume_inside.proofs.TailsOn.{tails_stored}
use Rattle.cluster_space.specs.declared.state.State.{State}
use Rattle.cluster_space.specs.declared.state.State.TheVariants.{Free}
use Rattle.cluster_space.specs.States.{IsIn}
use Rattle.byte_map.specs.Words.{Map}
use Rattle.volume_tables.specs.Clusters.{AreHeld}
use Rattle.volume_tables.specs.Ends.{all_staged}
use Rattle.volume_tables.specs.Log.{log_now, log_state, IsLogOf}
use Rattle.volume_tables.specs.Staging.{IsQuiet}
use Rattle.volume_tables.specs.declared.ends.JobEnds.{JobEnds}
use Rattle.volume_tables.specs.Tables.{disk_of, area_of, tables_now, inside_now, with_ends, IsTables}
use Rattle.volume_tables.specs.declared.tables.Tables.{Tables}
use Rattle.volume_tables.proofs.Held.{held_apart, held_same}

module _ {D : Type 0} {d : Ghosts D} (t : Tables D d) where
  meta_same_place : (c : List ℕ) → meta_of t.log.at t.log.half c ≡ meta_of journal_at (half_bytes t.clusters) c
  meta_same_place c = λ i. meta_of (t.place i) (t.half i) c

  pub area_spells : (stored : Typed) (is : IsTables t stored) (c : List ℕ) → (disk_of t).may_leave c
      → (area_of t).meta c ≡ Ok is.map
  area_spells stored is c left = sym (meta_same_place c)
      ∙ stands_spells (layout_of t.log) (disk_of t) is.map is.log.stands c left

  pub area_unread : (cluster : ℕ) → first_data_cluster t.clusters ≤ cluster → (x y : List ℕ)
      → ChangedWithin (4096 * cluster) 4096 x y → (area_of t).meta y ≡ (area_of t).meta x
  area_unread cluster low x y change =
      meta_same journal_at (half_bytes t.clusters) y x
      (part_apart (4096 * cluster) 4096 journal_at (2 * half_bytes t.clusters) x y
      (inl (omega (arith, low))) change)

  -- a data cluster that the stored tables do not name is written, torn anyhow
  pub write_keeps : (stored : Typed) (w : Volume) (new : DiskState) (cluster : ℕ)
      → first_data_cluster t.clusters ≤ cluster → TornWithin (4096 * cluster) 4096 (disk_of t) new
      → IsTables t stored → IsOut cluster (clusters_of stored) → Kept (area_of t) (disk_of t) w
      → Keeps (disk_of t) new (Shows (area_of t) w)
  write_keeps stored w new cluster low torn is out kept =
      data_keeps (area_of t) (disk_of t) new (4096 * cluster) 4096 is.map w torn (area_spells stored is)
      (area_unread cluster low)
      (subst (λ (q : Typed). IsUnnamed cluster q) (sym is.is) (unnamed cluster stored (omega (arith, low)) out)) kept

  stored_apart : (stored : Typed) (is : IsTables t stored)
      → IsApart journal_at (2 * half_bytes t.clusters) (named (typed_of is.map))
  stored_apart stored is = subst (λ (q : Typed). IsApart journal_at (2 * half_bytes t.clusters) (named q))
      (sym is.is) is.stored_apart

-- the journal of tables whose ends of jobs are all staged, as it is committed
module _ {D : Type 0} {d : Ghosts D} (t : Tables D d) (l : MetaLog D d) (quiet : IsQuiet t.log l)
    (all : typed_of (log_now l) ≡ tables_now t) where
  at_place : l.at ≡ journal_at
  at_place = quiet.place.at ∙ t.place

  at_half : l.half ≡ half_bytes t.clusters
  at_half = quiet.place.half ∙ t.half

  spells_there : (m : Map) → IsLogOf l m → (c : List ℕ) → (log_state l).may_leave c → (area_of t).meta c ≡ Ok m
  spells_there m log c left = (λ i. meta_of (sym at_place i) (sym at_half i) c)
      ∙ stands_spells (layout_of l) (log_state l) m log.stands c left

  tables_apart : IsApart journal_at (2 * half_bytes t.clusters) (named (tables_now t))
  tables_apart = held_apart t.clusters t.space (tables_now t)
      (held_same t.clusters t.space (typed_of (log_now t.log)) t.held (tables_now t) refl)

  now_apart : IsApart journal_at (2 * half_bytes t.clusters) (named (typed_of (log_now l)))
  now_apart = subst (λ (q : Typed). IsApart journal_at (2 * half_bytes t.clusters) (named q)) (sym all) tables_apart

  before : (w : Volume) → Kept (area_of t) (disk_of t) w → Kept (area_of t) (log_state l) w
  before w kept = subst (λ (x : D). Kept (area_of t) (d.state x) w) (sym quiet.disk) kept

  maps_there : MapsHold (inside_now t) → MapsHold (inside_at (typed_of (log_now l)) (log_state l).image)
  maps_there maps =
      subst (λ (x : D). MapsHold (inside_at (typed_of (log_now l)) (d.state x).image)) (sym quiet.disk)
      (subst (λ (q : Typed). MapsHold (inside_at q (disk_of t).image)) (sym all) maps)

  -- a commit of tables that meet the rules
  pub commit_moments : (stored : Typed) (w : Volume) (new : DiskState) → IsVolume t.clusters (log_now l)
      → MapsHold (inside_now t) → IsTables t stored → Kept (area_of t) (disk_of t) w
      → ((m : Map) → IsLogOf l m → Keeps (log_state l) new (IsCommitImage l.at l.half (log_state l) (log_now l)))
      → Keeps (disk_of t) new (ShowsEither (area_of t) w (view_at (tables_now t) (disk_of t).image))
  commit_moments stored w new volume maps is kept run =
      let log = quiet.log is.map is.log in
      subst (λ (x : D). Keeps (d.state x) new (ShowsEither (area_of t) w (view_at (tables_now t) (d.state x).image)))
      quiet.disk
      (subst (λ (q : Typed). Keeps (log_state l) new (ShowsEither (area_of t) w (view_at q (log_state l).image))) all
      (commit_keeps (area_of t) (log_state l) journal_at (half_bytes t.clusters) is.map (log_now l) w
      (spells_there is.map log) (stored_apart t stored is) now_apart volume (maps_there maps) (before w kept)
      new (subst (λ (p : ℕ × ℕ). Keeps (log_state l) new (IsCommitImage p.0 p.1 (log_state l) (log_now l)))
      (λ i. (at_place i, at_half i)) (run is.map log))))

  pub commit_kept : (stored : Typed) (w : Volume) (new : DiskState) → IsVolume t.clusters (log_now l)
      → MapsHold (inside_now t) → (is : IsTables t stored) → Kept (area_of t) (disk_of t) w
      → ((c : List ℕ) → new.may_leave c → IsSettledImage l.at l.half (log_state l) is.map (log_now l) c)
      → Kept (area_of t) new (view_at (tables_now t) (disk_of t).image)
  commit_kept stored w new volume maps is kept settled =
      let log = quiet.log is.map is.log in
      subst (λ (x : D). Kept (area_of t) new (view_at (tables_now t) (d.state x).image)) quiet.disk
      (subst (λ (q : Typed). Kept (area_of t) new (view_at q (log_state l).image)) all
      (settled_kept (area_of t) (log_state l) journal_at (half_bytes t.clusters) is.map (log_now l) w
      (spells_there is.map log) (stored_apart t stored is) now_apart volume (maps_there maps) (before w kept)
      new (subst (λ (p : ℕ × ℕ). (c : List ℕ) → new.may_leave c
      → IsSettledImage p.0 p.1 (log_state l) is.map (log_now l) c) (λ i. (at_place i, at_half i)) settled)))

  -- what any tables name apart from the journal stays
  pub commit_frame : (new : List ℕ) → ChangedWithin l.at (2 * l.half) (log_state l).image new → (u : Typed)
      → IsApart journal_at (2 * half_bytes t.clusters) (named u) → inside_at u new ≡ inside_at u (disk_of t).image
  commit_frame new change u apart =
      let on_disk = subst (λ (x : D). ChangedWithin l.at (2 * l.half) (d.state x).image new) quiet.disk change in
      inside_apart u journal_at (2 * half_bytes t.clusters) (disk_of t).image new apart
      (subst (λ (p : ℕ × ℕ). ChangedWithin p.0 (2 * p.1) (disk_of t).image new) (λ i. (at_place i, at_half i)) on_disk)

  pub commit_inside : (q : Typed) (new : List ℕ) → q ≡ tables_now t
      → ChangedWithin l.at (2 * l.half) (log_state l).image new → inside_at q new ≡ inside_now t
  commit_inside q new same change =
      ap (λ (r : Typed). inside_at r new) same ∙ commit_frame new change (tables_now t) tables_apart

  -- the tables now and the clusters that they name, after a commit
  pub commit_tables : (m : Map) (ends : JobEnds) → m ≡ log_now l → ends ≡ all_staged t.ends
      → with_ends ends (typed_of m) ≡ tables_now t
  commit_tables m ends same is = (λ i. with_ends (is i) (typed_of (same i)))
      ∙ ap (λ (q : Typed). with_ends t.ends q) all

  pub commit_held : (m : Map) → m ≡ log_now l → AreHeld t.clusters t.space (typed_of m)
  commit_held m same =
      held_same t.clusters t.space (typed_of (log_now t.log)) t.held (typed_of m)
      (ap (λ (q : Typed). clusters_of q) (ap typed_of same ∙ all))

  -- tables of which a commit was refused as worn
  pub commit_stored : (u : Tables D d) → u.log ≡ l → u.clusters ≡ t.clusters → u.space ≡ t.space → (stored : Typed)
      → IsTables t stored → IsTables u stored
  commit_stored u log clusters space stored is = record {
    map = is.map;
    log = subst (λ (x : MetaLog D d). IsLogOf x is.map) (sym log) (quiet.log is.map is.log);
    is = is.is;
    stored_apart = subst (λ (n : ℕ). IsApart journal_at (2 * half_bytes n) (named stored))
        (sym clusters) is.stored_apart;
    free = subst (λ (p : ℕ × List State). (k : ℕ) → IsIn p.1 k Free
        → IsOut (first_data_cluster p.0 + k) (clusters_of stored)) (λ i. (sym clusters i, sym space i)) is.free;
    tails = subst (λ (q : Typed). AreTailsFree stored q.chunks)
        (sym (ap (λ (x : MetaLog D d). typed_of (log_now x)) log ∙ all)) is.tails;
  }

-- what is stored after a commit that answered Ok
module _ {D : Type 0} {d : Ghosts D} (t s : Tables D d) (m : Map) where
  pub committed : IsLogOf s.log m → typed_of m ≡ tables_now t → tables_now s ≡ tables_now t → IsTables s (tables_now t)
  committed log all now = record {
    map = m;
    log = log;
    is = all;
    stored_apart = subst (λ (q : Typed). IsApart journal_at (2 * half_bytes s.clusters) (named q)) now
        (held_apart s.clusters s.space (tables_now s)
        (held_same s.clusters s.space (typed_of (log_now s.log)) s.held (tables_now s) refl));
    free = λ k at. subst (λ (q : Typed). IsOut (first_data_cluster s.clusters + k) (clusters_of q)) now
        (s.held.1.free_now k at);
    tails = subst (λ (q : Typed). AreTailsFree q (tables_now s).chunks) now
        (tails_stored s.clusters (tables_now s) s.held.0 s.held.1.once);
  }
