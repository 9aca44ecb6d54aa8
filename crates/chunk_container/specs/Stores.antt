-- What a store is made of.
use Rattle.std.specs.Prelude.{ℕ}
use Rattle.vdisk.specs.declared.disk.Disk.{Ghosts}
use Rattle.volume_inside.specs.Rules.{next_id_of}
use Rattle.volume_tables.specs.Tables.{tables_now}
use Rattle.volume_tables.specs.declared.tables.Tables.{Tables}
use Rattle.chunk_container.specs.declared.containers.OpenContainers.{OpenContainers}
use Rattle.chunk_container.specs.declared.containers.Target.{Target}
use Rattle.chunk_container.specs.declared.store.Store.{Store}
use Rattle.chunk_container.specs.Open.{target_of}

module _ {D : Type 0} {d : Ghosts D} where
  abbrev pub tables_of : Store D d → Tables D d
  tables_of s = s.tables

  -- the containers that bytes are appended to
  abbrev pub open_in : Store D d → OpenContainers
  open_in s = s.opened

  -- where so many bytes of a kind go
  abbrev pub target_now : ℕ → ℕ → Store D d → Target
  target_now kind count s =
      target_of kind count (next_id_of (tables_now s.tables)) (tables_now s.tables).chunks.containers s.opened
