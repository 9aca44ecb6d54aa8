use Rattle.std.proofs.Common.{◌≡◌, ◌≤◌, ◌<◌, ◌+◌, ◌-◌, ◌*◌, ◌/◌}
use Rattle.std.specs.FinMap.{find}
use Rattle.table_records.specs.Keys.{pair_cmp}
use Rattle.volume_tables.specs.Tables.{tables_now, inside_now, disk_of, clusters_in}
use Rattle.volume_files.proofs.ReadBytes.{Lie}
use Rattle.volume_files.proofs.stretches.stretch_held.Given as goal

-- the first bytes lie beside one another, and `next` is the extent of the last one's block
abbrev pub invariant-loop-count : goal.invariant-loop-count
invariant-loop-count g l = record {
  some : 0 < l.count;
  fits : l.count ≤ l.most;
  next : l.next ≡ find pair_cmp (l.file, (l.place + l.count - 1) / 4096) (tables_now l.tables).extents;
  within : l.start + l.count ≤ 4096 * clusters_in l.tables;
  lie : Lie (inside_now l.tables) (disk_of l.tables).image l.file l.place l.start l.count;
}

abbrev pub decreases-loop-count : goal.decreases-loop-count
decreases-loop-count g l = l.most - l.count
