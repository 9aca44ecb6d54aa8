-- A write behind what is used of a container.
use Rattle.std.specs.Prelude.{◌≡◌, ◌≤◌, ◌+◌, ◌*◌, ℕ, List}
use Rattle.std.proofs.Common.{sym, subst, inl, arith}
use Rattle.vdisk.specs.Disk.{DiskState, ChangedWithin}
use Rattle.vdisk.specs.Ranges.{part_apart}
use Rattle.vdisk.specs.Steps.{Keeps, TornWithin}
use Rattle.vdisk.specs.declared.disk.Disk.{Ghosts}
use Rattle.plain_volume.specs.Volume.{Volume}
use Rattle.meta_log.proofs.Lives.{meta_same}
use Rattle.volume_inside.specs.Crash.{data_keeps}
use Rattle.volume_inside.specs.Frame.{inside_apart}
use Rattle.volume_inside.specs.Inside.{inside_at}
use Rattle.volume_inside.specs.Layout.{half_bytes, journal_at, IsDataCluster}
use Rattle.volume_inside.specs.Named.{named}
use Rattle.volume_inside.specs.Ranges.{IsApart}
use Rattle.volume_inside.specs.Shows.{Shows, Kept}
use Rattle.volume_inside.specs.Tails.{IsBehind}
use Rattle.volume_inside.specs.Typed.{Typed}
use Rattle.volume_inside.proofs.TailsOn.{tail_written, tails_stored, page_is_data}
use Rattle.volume_tables.specs.Tables.{disk_of, area_of, tables_now, inside_now, IsTables}
use Rattle.volume_tables.specs.declared.tables.Tables.{Tables}
use Rattle.volume_tables.proofs.Crashes.{area_spells}

module _ {D : Type 0} {d : Ghosts D} (t : Tables D d) (cluster from n : ℕ)
    (behind : IsBehind cluster from (tables_now t).chunks) (within : from + n ≤ 4096) where
  pub behind_data : IsDataCluster t.clusters cluster
  behind_data = page_is_data t.clusters (tables_now t) behind.key cluster t.held.0 behind.names

  -- what the tables now hold stays
  pub behind_stays : (image : List ℕ) → ChangedWithin (4096 * cluster + from) n (disk_of t).image image
      → inside_at (tables_now t) image ≡ inside_now t
  behind_stays image change =
      inside_apart (tables_now t) (4096 * cluster + from) n (disk_of t).image image
      (tail_written (tables_now t) (tables_now t) behind.key cluster from n
      (tails_stored t.clusters (tables_now t) t.held.0 t.held.1.once) behind.names behind.behind within) change

  pub behind_keeps : (stored : Typed) (w : Volume) (new : DiskState)
      → TornWithin (4096 * cluster + from) n (disk_of t) new → IsTables t stored
      → Kept (area_of t) (disk_of t) w → Keeps (disk_of t) new (Shows (area_of t) w)
  behind_keeps stored w new torn is kept =
      let lies = behind_data in
      data_keeps (area_of t) (disk_of t) new (4096 * cluster + from) n is.map w torn (area_spells t stored is)
      (λ x y change. meta_same journal_at (half_bytes t.clusters) y x
      (part_apart (4096 * cluster + from) n journal_at (2 * half_bytes t.clusters) x y
      (inl (omega (arith, lies.from_first))) change))
      (subst (λ (q : Typed). IsApart (4096 * cluster + from) n (named q)) (sym is.is)
      (tail_written stored (tables_now t) behind.key cluster from n is.tails behind.names behind.behind within)) kept
