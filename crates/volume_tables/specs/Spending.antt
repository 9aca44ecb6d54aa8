-- What a call spends of what does not come back by itself.
use Rattle.std.specs.Prelude.{◌≡◌, ◌≤◌, ◌+◌, ℕ, List, length}
use Rattle.vdisk.specs.declared.disk.Disk.{Ghosts}
use Rattle.table_records.specs.declared.settings.Settings.{Settings}
use Rattle.volume_inside.specs.ChunkTables.{ChunkTables}
use Rattle.volume_inside.specs.Named.{clusters_of}
use Rattle.volume_inside.specs.Rules.{next_id_of}
use Rattle.volume_inside.specs.Typed.{Typed}
use Rattle.volume_tables.specs.Tables.{tables_now}
use Rattle.volume_tables.specs.declared.tables.Tables.{Tables}

-- what no call on files touches: the settings, and the tables of chunks
abbrev pub Aside : Type 0
Aside = List (Unit {0} × Settings) × ChunkTables

abbrev pub aside : Typed → Aside
aside t = (t.settings, t.chunks)

module _ {D : Type 0} {d : Ghosts D} where
  -- The tables name so many clusters more at most, so many ids were drawn at most, and the settings and the tables of
  -- chunks are the same.
  pub record Spends (clusters ids : ℕ) (old new : Tables D d) : Type 0 where
    pub named : length (clusters_of (tables_now new)) ≤ length (clusters_of (tables_now old)) + clusters
    pub drawn : next_id_of (tables_now new) ≤ next_id_of (tables_now old) + ids
    pub same : aside (tables_now new) ≡ aside (tables_now old)
