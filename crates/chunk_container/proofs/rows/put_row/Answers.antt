use Rattle.std.proofs.Common.{◌+◌, not, Some, ◌∙◌, ap}
use Rattle.std.specs.Ordering.{nat_cmp}
use Rattle.table_records.specs.Changes.{is_in_range}
use Rattle.volume_inside.specs.Changes.{keep_rows}
use Rattle.volume_inside.specs.Typed.{Typed}
use Rattle.volume_tables.specs.Tables.{tables_now, clusters_in}
use Rattle.volume_tables.proofs.Leaving.{leaves_then}
use Rattle.chunk_container.proofs.RowRules.{row_taken_back}
use Rattle.chunk_container.proofs.rows.put_row.Goals as goal

pub returns-in-Err-clause-err : goal.returns-in-Err-clause-err
returns-in-Err-clause-err g c =
    let t = c.args.tables.now in
    let id = c.stored_next_id-id.result in
    c.drop_row.ensures.tables
    ∙ ap (λ (q : Typed). keep_rows (λ x. not (is_in_range nat_cmp id (Some (id + 1)) x)) q)
    (c.in-Err.ensures.err ∙ c.in_ok-set_row.ensures.ok)
    ∙ row_taken_back (clusters_in t) (tables_now t) c.requires.rules id c.args.row c.stored_next_id-id.ensures

pub returns-in-Err-clause-leaves : goal.returns-in-Err-clause-leaves
returns-in-Err-clause-leaves g c =
    let t = c.args.tables.now in
    let next = g.met.D.Disk.same_next in
    let first = leaves_then next t c.set_row.new.self c.set_place.new.self c.set_row.ensures.leaves
    c.set_place.ensures.leaves in
    leaves_then next t c.set_place.new.self c.drop_row.new.self first c.drop_row.ensures.leaves

pub returns-clause-leaves : goal.returns-clause-leaves
returns-clause-leaves g c =
    let t = c.args.tables.now in
    let next = g.met.D.Disk.same_next in
    let first = leaves_then next t c.set_row.new.self c.set_place.new.self c.set_row.ensures.leaves
    c.set_place.ensures.leaves in
    leaves_then next t c.set_place.new.self c.next_id.new.self first c.next_id.ensures.leaves
