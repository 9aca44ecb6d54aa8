use Rattle.std.proofs.Common.{length}
use Rattle.volume_inside.specs.Bases.{bases_of}
use Rattle.volume_inside.specs.ChunkRules.{BaseHolds}
use Rattle.volume_inside.specs.Entries.{Each}
use Rattle.volume_tables.specs.Reads.{ReadsOnly, IsTold}
use Rattle.volume_tables.specs.Tables.{tables_now, disk_of}
use Rattle.volume_tables.proofs.Walked.{entries_left}
use Rattle.volume_tables.proofs.maps.check_maps.Given as goal

-- the maps of all files hold if those of the files that are left do, and only then
abbrev pub invariant-loop-next : goal.invariant-loop-next
invariant-loop-next g l =
    let t = tables_now l.fn.tables in
    let bases = bases_of t (disk_of l.fn.tables).image in
    record {
      reads : ReadsOnly l.fn.tables l.tables;
      held : IsTold l.fn.tables → Each (BaseHolds bases) (entries_left l.next t.files) → Each (BaseHolds bases) t.files;
      holds : Each (BaseHolds bases) t.files → Each (BaseHolds bases) (entries_left l.next t.files);
    }

abbrev pub decreases-loop-next : goal.decreases-loop-next
decreases-loop-next g l = length (entries_left l.next (tables_now l.fn.tables).files)
