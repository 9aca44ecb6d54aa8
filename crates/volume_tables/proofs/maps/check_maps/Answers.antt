use Rattle.std.proofs.Common.{rules}
use Rattle.std.specs.Prelude.{Some, IsErrOf}
use Rattle.row_reading.specs.declared.fault.BaseFault.TheVariants.{Broken}
use Rattle.volume_inside.specs.Bases.{bases_of}
use Rattle.volume_tables.specs.After.{reads_self, reads_then}
use Rattle.volume_tables.specs.Reads.{ReadsOnly}
use Rattle.volume_tables.specs.Tables.{tables_now, disk_of}
use Rattle.volume_tables.proofs.Mapped.{starts_held, starts_holds, map_here, held_on, holds_on, left_shorter}
use Rattle.volume_tables.proofs.Mapped.{told_on, base_from, base_to, next_on, readable_on, files_sorted}
use Rattle.volume_tables.proofs.maps.check_maps.Goals as goal

pub loop-next-init : goal.loop-next-init
loop-next-init g c =
    let t = c.args.tables.now in
    let b = bases_of (tables_now t) (disk_of t).image in
    let files = (tables_now t).files in
    let next = c.next_file-next.result in
    record {
      reads = reads_self t (g.met.D.Disk.same_self t.log.disk);
      held = λ told left. starts_held b files (files_sorted t) next c.next_file-next.ensures left;
      holds = λ all. starts_holds b files (files_sorted t) next c.next_file-next.ensures all;
    }

pub check_base-requires : goal.check_base-requires
check_base-requires g c = record {
  readable = readable_on c.args.tables.now c.loop-next.tables c.loop-next.invariant.reads c.requires.readable;
}

pub returns-in_err-check_base-clause-broken : goal.returns-in_err-check_base-clause-broken
returns-in_err-check_base-clause-broken g c told err maps =
    let t = c.args.tables.now in
    let u = c.loop-next.tables in
    let inv = c.loop-next.invariant in
    let b = bases_of (tables_now t) (disk_of t).image in
    let files = (tables_now t).files in
    let id = c.in-Some.id in
    let file = c.in-Some.file in
    let here = map_here b files (files_sorted t) c.loop-next.next c.loop-next.next id file c.in-Some.is (inv.holds maps) in
    let broken : IsErrOf c.check_base.result Broken = search rules in
    c.check_base.ensures.broken (told_on t u inv.reads told) id broken (base_to t u inv.reads id file here)

pub returns-in_err-check_base-clause-reads : goal.returns-in_err-check_base-clause-reads
returns-in_err-check_base-clause-reads g c =
    reads_then g.met.D.Disk.same_next c.args.tables.now c.loop-next.tables c.check_base.new.disk
    c.loop-next.invariant.reads c.check_base.ensures.from

pub loop-next-smaller : goal.loop-next-smaller
loop-next-smaller g c =
    let t = c.args.tables.now in
    let v = c.check_base.new.disk in
    let reads : ReadsOnly t v = reads_then g.met.D.Disk.same_next t c.loop-next.tables v c.loop-next.invariant.reads
    c.check_base.ensures.from in
    left_shorter (bases_of (tables_now t) (disk_of t).image) (tables_now t).files (files_sorted t) c.loop-next.next
    c.next_file-next-in-Some.result c.in-Some.id c.in-Some.file c.in-Some.is
    (next_on t v reads (Some c.in-Some.id) c.next_file-next-in-Some.result c.next_file-next-in-Some.ensures)

pub loop-next-preserved : goal.loop-next-preserved
loop-next-preserved g c =
    let t = c.args.tables.now in
    let u = c.loop-next.tables in
    let v = c.check_base.new.disk in
    let inv = c.loop-next.invariant in
    let reads : ReadsOnly t v = reads_then g.met.D.Disk.same_next t u v inv.reads c.check_base.ensures.from in
    let b = bases_of (tables_now t) (disk_of t).image in
    let files = (tables_now t).files in
    let id = c.in-Some.id in
    let file = c.in-Some.file in
    let later = c.next_file-next-in-Some.result in
    let behind = next_on t v reads (Some id) later c.next_file-next-in-Some.ensures in
    record {
      reads = reads;
      held = λ told left.
          inv.held told
          (held_on b files (files_sorted t) c.loop-next.next later id file c.in-Some.is behind
          (base_from t u inv.reads id file
          (c.check_base.ensures.held (told_on t u inv.reads told) id (search rules))) left);
      holds = λ all. holds_on b files (files_sorted t) c.loop-next.next later id file c.in-Some.is behind (inv.holds all);
    }
