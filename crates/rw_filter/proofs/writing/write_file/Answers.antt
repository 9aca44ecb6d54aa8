use Rattle.std.proofs.Common.{◌≡◌, ◌≤◌, ◌<◌, ◌+◌, ℕ, length, Err, sym, ◌∙◌, ap, subst, inl, rules, arith}
use Rattle.std.specs.Prelude.{◌==◌, Bool, true, false, zero, suc, Option, Result}
use Rattle.std.proofs.lemmas.Result.{on_ok_weaker}
use Rattle.plain_volume.specs.Volume.{overwritten, lost_where, is_beside}
use Rattle.plain_volume.specs.Step.{write}
use Rattle.plain_volume.specs.Replies.{done_reply}
use Rattle.plain_volume.specs.declared.call.Fault.{Fault}
use Rattle.plain_volume.specs.declared.call.Fault.TheVariants.{Damaged}
use Rattle.plain_volume.specs.declared.call.Reply.TheVariants as reply
use Rattle.plain_volume.specs.declared.limits.TheConstants.{MOST_BYTES_OF_A_CALL, MOST_BYTES_OF_A_FILE}
use Rattle.volume_inside.specs.Inside.{Inside}
use Rattle.volume_inside.specs.View.{file_cells}
use Rattle.volume_tables.specs.Tables.{tables_now, inside_now, disk_of}
use Rattle.volume_tables.proofs.Endured.{endures_leaves}
use Rattle.volume_tables.proofs.Wanted.{replied_want}
use Rattle.volume_tables.specs.Wants.{IsReplied}
use Rattle.volume_files.specs.Insides.{id_written}
use Rattle.volume_files.specs.Needs.{touched_at, write_needs, write_bytes}
use Rattle.volume_files.specs.Writing.{write_wants}
use Rattle.volume_files.proofs.Pending.{pending_after, write_pending, write_refused}
use Rattle.volume_files.proofs.Spent.{spends_none, spends_written}
use Rattle.volume_files.proofs.WriteReplies.{wants_some, still_kept}
use Rattle.rw_filter.proofs.Replies.{late, reply_there, fault_there, never_worn, wanted_whole, same_fault}
use Rattle.rw_filter.proofs.writing.write_file.Goals as goal

pub returns-clause-reply : goal.returns-clause-reply
returns-clause-reply g c =
    let t = c.args.tables.now in
    let m = c.make_room_for_write.new.tables in
    let at = c.args.at in
    let bytes = c.args.bytes.now in
    let cells = file_cells (inside_now t) c.args.file in
    let some : 0 < length bytes = search rules in
    let few : length bytes ≤ MOST_BYTES_OF_A_CALL = omega arith in
    let near : at + length bytes ≤ MOST_BYTES_OF_A_FILE = omega arith in
    λ w kept name v.
    let still = still_kept t m w c.make_room_for_write.ensures.endures c.in_ok-make_room_for_write.ensures.runs kept in
    let inside = c.make_room_for_write.ensures.inside in
    reply_there name at bytes v cells few near some (write_wants t c.args.file at bytes)
    (wants_some t c.args.file at bytes some ∙ c.in_ok-make_room_for_write.ensures.none)
    (disk_of t).faults (disk_of m).faults (disk_of c.write_roomed.new.tables).faults
    c.make_room_for_write.ensures.endures.later c.write_roomed.result
    (on_ok_weaker c.write_roomed.result
    (λ whole. ap (λ (i : Inside). lost_where (is_beside at (length bytes)) 0 (file_cells i c.args.file)) (sym inside) ∙ whole)
    (c.write_roomed.ensures.whole still.0 still.1))
    (λ q damaged.
    ap (λ (i : Inside). lost_where (is_beside at (length bytes)) 0 (file_cells i c.args.file)) (sym inside)
    ∙ c.write_roomed.ensures.damaged still.0 still.1 q damaged)
    c.write_roomed.ensures.refused c.write_roomed.ensures.failed

pub returns-clause-cells : goal.returns-clause-cells
returns-clause-cells g c w kept =
    let t = c.args.tables.now in
    let m = c.make_room_for_write.new.tables in
    let still = still_kept t m w c.make_room_for_write.ensures.endures c.in_ok-make_room_for_write.ensures.runs kept in
    on_ok_weaker c.write_roomed.result
    (λ cells. cells ∙ ap (λ (i : Inside). overwritten c.args.at c.args.bytes.now (file_cells i c.args.file))
    c.make_room_for_write.ensures.inside)
    (c.write_roomed.ensures.cells still.0 still.1)

pub returns-clause-inside : goal.returns-clause-inside
returns-clause-inside g c w kept =
    let t = c.args.tables.now in
    let m = c.make_room_for_write.new.tables in
    let still = still_kept t m w c.make_room_for_write.ensures.endures c.in_ok-make_room_for_write.ensures.runs kept in
    on_ok_weaker c.write_roomed.result
    (λ written. written ∙ ap (λ (i : Inside). id_written c.args.file c.args.at c.args.bytes.now i)
    c.make_room_for_write.ensures.inside)
    (c.write_roomed.ensures.inside still.0 still.1)

pub returns-clause-endures : goal.returns-clause-endures
returns-clause-endures g c =
    endures_leaves g.met.D.Disk.same_next c.args.tables.now c.make_room_for_write.new.tables
    c.write_roomed.new.tables c.make_room_for_write.ensures.endures
    c.in_ok-make_room_for_write.ensures.runs c.write_roomed.ensures.leaves

pub returns-in_err-make_room_for_write-clause-spends : goal.returns-in_err-make_room_for_write-clause-spends
returns-in_err-make_room_for_write-clause-spends g c =
    spends_none (touched_at c.args.at c.args.bytes.now) 0 c.args.tables.now c.make_room_for_write.new.tables
    c.make_room_for_write.ensures.now

pub returns-clause-spends : goal.returns-clause-spends
returns-clause-spends g c =
    let bytes = c.args.bytes.now in
    let some : 0 < length bytes = search rules in
    spends_written c.args.tables.now c.make_room_for_write.new.tables c.write_roomed.new.tables
    c.make_room_for_write.ensures.now c.args.at bytes some c.write_roomed.ensures.spends

pub returns-in_err-make_room_for_write-clause-pending : goal.returns-in_err-make_room_for_write-clause-pending
returns-in_err-make_room_for_write-clause-pending g c =
    let r = c.from_residual.result in
    let is : r ≡ Err c.in_err-make_room_for_write.field-0.0 = search rules in
    write_refused c.args.tables.now c.make_room_for_write.new.tables c.args.file c.args.at c.args.bytes.now r
    (search rules) (λ worn. c.in_err-make_room_for_write.ensures.worn (sym is ∙ worn))

pub returns-clause-pending : goal.returns-clause-pending
returns-clause-pending g c =
    let t = c.args.tables.now in
    let m = c.make_room_for_write.new.tables in
    let s = c.write_roomed.new.tables in
    let bytes = c.args.bytes.now in
    let some : 0 < length bytes = search rules in
    let r = c.write_roomed.result in
    let w = c.write_roomed.ensures in
    write_pending t s c.args.file c.args.at bytes r some
    (pending_after t m s (write_needs (tables_now t) c.args.file c.args.at (length bytes))
    c.in_ok-make_room_for_write.ensures.pending (write_bytes c.args.at (length bytes)) w.leaves r w.staged w.taken
    (never_worn r w.refused))

pub returns-clause-waits : goal.returns-clause-waits
returns-clause-waits g c q damaged =
    c.write_roomed.ensures.waits q damaged ∙ c.in_ok-make_room_for_write.ensures.pending

pub returns-clause-refused : goal.returns-clause-refused
returns-clause-refused g c =
    fault_there c.args.tables.now c.write_roomed.new.tables c.args.file c.args.at c.args.bytes.now c.write_roomed.result
    c.write_roomed.ensures.refused
    (λ failed.
    let later = c.make_room_for_write.ensures.endures.later in
    let rose = c.write_roomed.ensures.failed failed in
    omega (arith, later, rose))

-- what is not empty has a byte
some_of : (n : ℕ) (b : Bool) → b ≡ (n == 0) → b ≡ false → 0 < n
some_of zero b is filled = absurd (let clash : true ≡ false = sym is ∙ filled in cc)
some_of (suc n) b is filled = omega arith

pub returns-in_err-make_room_for_write-clause-reply : goal.returns-in_err-make_room_for_write-clause-reply
returns-in_err-make_room_for_write-clause-reply g c =
    let t = c.args.tables.now in
    let m = c.make_room_for_write.new.tables in
    let at = c.args.at in
    let bytes = c.args.bytes.now in
    let cells = file_cells (inside_now t) c.args.file in
    let fault = c.in_err-make_room_for_write.field-0.0 in
    let r = c.from_residual.result in
    let is : r ≡ Err fault = search rules in
    let some = some_of (length bytes) c.is_empty.result c.is_empty.ensures c.if-is_empty.false in
    let few : length bytes ≤ MOST_BYTES_OF_A_CALL = omega arith in
    let near : at + length bytes ≤ MOST_BYTES_OF_A_FILE = omega arith in
    λ w kept name v.
    let outcome = write name at bytes v cells in
    let before = (disk_of t).faults in
    let now = (disk_of m).faults in
    inl (subst (λ (x : Result (Unit {0}) Fault). IsReplied outcome (write_wants t c.args.file at bytes) before now
    (done_reply x)) (sym is)
    (subst (λ (o : Option Fault). IsReplied outcome o before now (reply.Refused fault))
    (sym (wants_some t c.args.file at bytes some))
    (replied_want t m (write_needs (tables_now t) c.args.file at (length bytes)) outcome
    (late name at bytes v cells few near) fault c.in_err-make_room_for_write.ensures.refused)))

pub returns-in_err-make_room_for_write-clause-waits : goal.returns-in_err-make_room_for_write-clause-waits
returns-in_err-make_room_for_write-clause-waits g c =
    let t = c.args.tables.now in
    let fault = c.in_err-make_room_for_write.field-0.0 in
    let is : c.from_residual.result ≡ Err fault = search rules in
    λ q err.
    absurd (wanted_whole t c.make_room_for_write.new.tables
    (write_needs (tables_now t) c.args.file c.args.at (length c.args.bytes.now)) fault q
    c.in_err-make_room_for_write.ensures.refused (same_fault fault (Damaged q) (sym is ∙ err)))
