use Rattle.std.proofs.Common.{◌≡◌, ◌<◌, length, Err, sym, ◌∙◌, ap, rules, arith}
use Rattle.std.proofs.lemmas.Result.{on_ok_weaker}
use Rattle.plain_volume.specs.Volume.{overwritten, with_file}
use Rattle.plain_volume.specs.Step.{write, Outcome}
use Rattle.volume_inside.specs.Inside.{Inside}
use Rattle.volume_inside.specs.View.{file_cells}
use Rattle.volume_tables.specs.Tables.{tables_now, inside_now, disk_of}
use Rattle.volume_tables.specs.Wants.{is_late}
use Rattle.volume_tables.proofs.Endured.{endures_leaves}
use Rattle.volume_files.specs.Needs.{touched_at, write_needs, write_bytes}
use Rattle.volume_files.proofs.Pending.{neither_worn, pending_after, write_pending, write_refused}
use Rattle.volume_files.specs.Writing.{write_wants}
use Rattle.volume_files.proofs.WriteReplies.{done, beside_is_whole, reply_there, wants_some, still_kept}
use Rattle.volume_files.proofs.NoRoom.{failed_wanting, reply_wanting}
use Rattle.volume_files.proofs.Owned.{own_some}
use Rattle.volume_files.proofs.Spent.{spends_none, spends_written}
use Rattle.volume_files.specs.Insides.{id_written}
use Rattle.volume_files.proofs.writing.write_plain.Goals as goal

pub write_with_room-requires-clause-own : goal.write_with_room-requires-clause-own
write_with_room-requires-clause-own g c =
    let some : 0 < length c.args.bytes.now = search rules in
    own_some (tables_now c.args.tables.now) (tables_now c.make_room_for_write.new.tables) c.args.file c.args.at
    c.args.bytes.now c.make_room_for_write.ensures.now some c.requires.own

pub returns-in_err-make_room_for_write-clause-reply : goal.returns-in_err-make_room_for_write-clause-reply
returns-in_err-make_room_for_write-clause-reply g c name v =
    let t = c.args.tables.now in
    let b = c.make_room_for_write.new.tables in
    let bytes = c.args.bytes.now in
    let cells = file_cells (inside_now t) c.args.file in
    let some : 0 < length bytes = search rules in
    let fault = c.in_err-make_room_for_write.field-0.0 in
    let is : c.from_residual.result ≡ Err fault = search rules in
    let whole = beside_is_whole (tables_now t) (disk_of t).image c.args.file c.args.at bytes c.requires.own in
    let late = ap (λ (o : Outcome). is_late o) (done name c.args.at bytes v cells (omega arith) (omega arith) whole) in
    reply_wanting t b (write_needs (tables_now t) c.args.file c.args.at (length bytes))
    (write name c.args.at bytes v cells) late (write_wants t c.args.file c.args.at bytes)
    (wants_some t c.args.file c.args.at bytes some) c.from_residual.result fault is
    c.in_err-make_room_for_write.ensures.refused

pub returns-in_err-make_room_for_write-clause-failed : goal.returns-in_err-make_room_for_write-clause-failed
returns-in_err-make_room_for_write-clause-failed g c failed =
    let t = c.args.tables.now in
    let is : c.from_residual.result ≡ Err c.in_err-make_room_for_write.field-0.0 = search rules in
    failed_wanting t c.make_room_for_write.new.tables
    (write_needs (tables_now t) c.args.file c.args.at (length c.args.bytes.now)) c.from_residual.result
    c.in_err-make_room_for_write.field-0.0 is c.in_err-make_room_for_write.ensures.refused failed

pub returns-clause-others : goal.returns-clause-others
returns-clause-others g c =
    on_ok_weaker c.write_with_room.result
    (λ others other differ. others other differ
    ∙ ap (λ (i : Inside). file_cells i other) c.make_room_for_write.ensures.inside) c.write_with_room.ensures.others

pub returns-clause-reply : goal.returns-clause-reply
returns-clause-reply g c name v =
    let t = c.args.tables.now in
    let bytes = c.args.bytes.now in
    let cells = file_cells (inside_now t) c.args.file in
    let some : 0 < length bytes = search rules in
    let whole = beside_is_whole (tables_now t) (disk_of t).image c.args.file c.args.at bytes c.requires.own in
    reply_there (write name c.args.at bytes v cells) (with_file name (overwritten c.args.at bytes cells) v)
    (write_wants t c.args.file c.args.at bytes) (disk_of t).faults (disk_of c.make_room_for_write.new.tables).faults
    (disk_of c.write_with_room.new.tables).faults
    c.write_with_room.result (done name c.args.at bytes v cells (omega arith) (omega arith) whole)
    (wants_some t c.args.file c.args.at bytes some ∙ c.in_ok-make_room_for_write.ensures.none)
    c.make_room_for_write.ensures.endures.later c.write_with_room.ensures.refused c.write_with_room.ensures.failed

pub returns-clause-cells : goal.returns-clause-cells
returns-clause-cells g c w kept =
    let t = c.args.tables.now in
    let b = c.make_room_for_write.new.tables in
    let still = still_kept t b w c.make_room_for_write.ensures.endures c.in_ok-make_room_for_write.ensures.runs kept in
    on_ok_weaker c.write_with_room.result
    (λ cells. cells ∙ ap (λ (i : Inside). overwritten c.args.at c.args.bytes.now (file_cells i c.args.file))
    c.make_room_for_write.ensures.inside)
    (c.write_with_room.ensures.cells still.0 still.1)

pub returns-clause-endures : goal.returns-clause-endures
returns-clause-endures g c =
    endures_leaves g.met.D.Disk.same_next c.args.tables.now c.make_room_for_write.new.tables
    c.write_with_room.new.tables c.make_room_for_write.ensures.endures
    c.in_ok-make_room_for_write.ensures.runs c.write_with_room.ensures.leaves

pub returns-in_err-make_room_for_write-clause-spends : goal.returns-in_err-make_room_for_write-clause-spends
returns-in_err-make_room_for_write-clause-spends g c =
    spends_none (touched_at c.args.at c.args.bytes.now) 0 c.args.tables.now c.make_room_for_write.new.tables
    c.make_room_for_write.ensures.now

pub returns-clause-spends : goal.returns-clause-spends
returns-clause-spends g c =
    let bytes = c.args.bytes.now in
    let some : 0 < length bytes = search rules in
    spends_written c.args.tables.now c.make_room_for_write.new.tables c.write_with_room.new.tables
    c.make_room_for_write.ensures.now c.args.at bytes some c.write_with_room.ensures.spends

pub returns-clause-inside : goal.returns-clause-inside
returns-clause-inside g c w kept =
    let t = c.args.tables.now in
    let b = c.make_room_for_write.new.tables in
    let still = still_kept t b w c.make_room_for_write.ensures.endures c.in_ok-make_room_for_write.ensures.runs kept in
    on_ok_weaker c.write_with_room.result
    (λ written. written ∙ ap (λ (i : Inside). id_written c.args.file c.args.at c.args.bytes.now i)
    c.make_room_for_write.ensures.inside)
    (c.write_with_room.ensures.inside still.0 still.1)

pub returns-in_err-make_room_for_write-clause-pending : goal.returns-in_err-make_room_for_write-clause-pending
returns-in_err-make_room_for_write-clause-pending g c =
    let r = c.from_residual.result in
    let is : r ≡ Err c.in_err-make_room_for_write.field-0.0 = search rules in
    write_refused c.args.tables.now c.make_room_for_write.new.tables c.args.file c.args.at c.args.bytes.now r
    (search rules) (λ worn. c.in_err-make_room_for_write.ensures.worn (sym is ∙ worn))

pub returns-clause-pending : goal.returns-clause-pending
returns-clause-pending g c =
    let t = c.args.tables.now in
    let m = c.make_room_for_write.new.tables in
    let s = c.write_with_room.new.tables in
    let bytes = c.args.bytes.now in
    let some : 0 < length bytes = search rules in
    let r = c.write_with_room.result in
    let w = c.write_with_room.ensures in
    write_pending t s c.args.file c.args.at bytes r some
    (pending_after t m s (write_needs (tables_now t) c.args.file c.args.at (length bytes))
    c.in_ok-make_room_for_write.ensures.pending (write_bytes c.args.at (length bytes)) w.leaves r w.staged w.taken
    (neither_worn r w.refused))
