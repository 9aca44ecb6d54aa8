use Rattle.std.proofs.Common.{ap, ◌∙◌}
use Rattle.volume_inside.specs.Inside.{inside_at}
use Rattle.volume_inside.specs.Typed.{Typed}
use Rattle.volume_tables.specs.Tables.{disk_of, tables_now}
use Rattle.volume_tables.proofs.Runs.{run_read, run_stays, now_apart}
use Rattle.volume_tables.proofs.tables.Tables.write_free_run.Goals as goal

pub returns-clause-written : goal.returns-clause-written
returns-clause-written g c stored is k low =
    run_read c.free_run-run.result.first c.free_run-run.result.count k (disk_of c.write_run.new.self).image
    c.args.bytes.now low (c.in_ok-write_run.ensures.written stored is)

pub returns-in_err-write_run-clause-same : goal.returns-in_err-write_run-clause-same
returns-in_err-write_run-clause-same g c =
    let t = c.args.self.now in
    let w = c.write_run.ensures in
    ap (λ (q : Typed). inside_at q (disk_of c.write_run.new.self).image) w.writes.now
    ∙ run_stays t c.free_run-run.result c.free_run-run.ensures.some c.free_run-run.ensures.free (tables_now t)
    (now_apart t) (disk_of c.write_run.new.self).image w.image

pub returns-in_err-write_run-clause-frame : goal.returns-in_err-write_run-clause-frame
returns-in_err-write_run-clause-frame g c q apart =
    run_stays c.args.self.now c.free_run-run.result c.free_run-run.ensures.some c.free_run-run.ensures.free q apart
    (disk_of c.write_run.new.self).image c.write_run.ensures.image

pub returns-clause-same : goal.returns-clause-same
returns-clause-same g c =
    let t = c.args.self.now in
    let w = c.write_run.ensures in
    ap (λ (q : Typed). inside_at q (disk_of c.write_run.new.self).image) w.writes.now
    ∙ run_stays t c.free_run-run.result c.free_run-run.ensures.some c.free_run-run.ensures.free (tables_now t)
    (now_apart t) (disk_of c.write_run.new.self).image w.image

pub returns-clause-frame : goal.returns-clause-frame
returns-clause-frame g c q apart =
    run_stays c.args.self.now c.free_run-run.result c.free_run-run.ensures.some c.free_run-run.ensures.free q apart
    (disk_of c.write_run.new.self).image c.write_run.ensures.image
