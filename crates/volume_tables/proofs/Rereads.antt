-- Calls that only read, one after another.
use Rattle.std.specs.Prelude.{◌≡◌}
use Rattle.vdisk.specs.declared.disk.Disk.{Ghosts}
use Rattle.volume_inside.specs.Inside.{inside_at}
use Rattle.volume_tables.specs.Tables.{inside_now}
use Rattle.volume_tables.specs.declared.tables.Tables.{Tables}
pub use Rattle.volume_tables.specs.After.{reads_then}
use Rattle.volume_tables.specs.Reads.{ReadsOnly}

module _ {D : Type 0} {d : Ghosts D} where
  -- what the tables name reads as before
  pub same_inside : (a b : Tables D d) → ReadsOnly a b → inside_now b ≡ inside_now a
  same_inside a b reads = λ i. inside_at (reads.now i) (reads.image i)
