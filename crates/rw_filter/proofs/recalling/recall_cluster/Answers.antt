use Rattle.std.proofs.Common.{◌≡◌, ◌*◌, None, Result, Err, inl, ◌∙◌, ap, sym, subst, rules}
use Rattle.std.proofs.lemmas.Result.{on_ok_weaker}
use Rattle.plain_volume.specs.Replies.{done_reply}
use Rattle.plain_volume.specs.declared.call.Fault.{Fault}
use Rattle.volume_inside.specs.Inside.{Inside}
use Rattle.volume_inside.specs.Typed.{Typed}
use Rattle.volume_inside.specs.View.{view}
use Rattle.volume_tables.specs.Tables.{tables_now, inside_now, view_now, disk_of}
use Rattle.volume_tables.specs.Wants.{Needs, wanting, IsWanting, IsRepliedOrMemory}
use Rattle.volume_tables.proofs.Endured.{endures_leaves}
use Rattle.volume_tables.proofs.Stagings.{on_ok_any}
use Rattle.volume_files.specs.Needs.{write_needs}
use Rattle.volume_files.proofs.WriteReplies.{still_kept}
use Rattle.rw_filter.specs.Recalling.{recall, recall_needs, lost_there, with_recalled, TellsLost}
use Rattle.rw_filter.proofs.RecallReplies.{told_wanting, refused_done, reply_told}
use Rattle.rw_filter.proofs.recalling.recall_cluster.Goals as goal

pub returns-in_err-make_room_for_write-clause-reply : goal.returns-in_err-make_room_for_write-clause-reply
returns-in_err-make_room_for_write-clause-reply g c w kept =
    let t = c.args.tables.now in
    let m = c.make_room_for_write.new.tables in
    let fault = c.in_err-make_room_for_write.field-0.0 in
    let place : c.from.result * c.from-2.result ≡ 4096 * c.args.index = (λ i. c.from.ensures i * c.from-2.ensures i) in
    let needs = recall_needs (tables_now t) c.args.file c.args.index in
    let asked : write_needs (tables_now t) c.args.file (c.from.result * c.from-2.result) c.count_in_block-count.result ≡ needs =
    (λ i. write_needs (tables_now t) c.args.file (place i) (c.count_in_block-count.ensures.is i)) in
    let lost = lost_there (tables_now t) (inside_now t) c.args.file c.args.index in
    let want : IsWanting t m needs fault = subst (λ (n : Needs). IsWanting t m n fault) asked
    c.in_err-make_room_for_write.ensures.refused in
    let refused : c.from_residual.result ≡ Err fault = search rules in
    subst (λ (r : Result (Unit {0}) Fault). IsRepliedOrMemory (recall lost (view_now t)) (wanting t needs)
    (disk_of t).faults (disk_of m).faults (done_reply r)) (sym refused)
    (reply_told t m needs lost (view_now t) (Err fault) tt (inl want) (told_wanting t m needs lost fault want))

pub returns-clause-reply : goal.returns-clause-reply
returns-clause-reply g c w kept =
    let t = c.args.tables.now in
    let m = c.make_room_for_write.new.tables in
    let s = c.recall_with_room.new.tables in
    let r = c.recall_with_room.result in
    let place : c.from.result * c.from-2.result ≡ 4096 * c.args.index = (λ i. c.from.ensures i * c.from-2.ensures i) in
    let needs = recall_needs (tables_now t) c.args.file c.args.index in
    let asked : write_needs (tables_now t) c.args.file (c.from.result * c.from-2.result) c.count_in_block-count.result ≡ needs =
    (λ i. write_needs (tables_now t) c.args.file (place i) (c.count_in_block-count.ensures.is i)) in
    let none : wanting t needs ≡ None =
    ap (λ (n : Needs). wanting t n) (sym asked) ∙ c.in_ok-make_room_for_write.ensures.none in
    let still = still_kept t m w c.make_room_for_write.ensures.endures c.in_ok-make_room_for_write.ensures.runs kept in
    let told = subst (λ (p : Typed × Inside). TellsLost (lost_there p.0 p.1 c.args.file c.args.index) r)
    (λ i. (c.make_room_for_write.ensures.now i, c.make_room_for_write.ensures.inside i))
    (c.recall_with_room.ensures.lost still.0 still.1) in
    reply_told t s needs (lost_there (tables_now t) (inside_now t) c.args.file c.args.index) (view_now t) r
    (on_ok_any r none)
    (refused_done t s needs (disk_of m).faults r none c.make_room_for_write.ensures.endures.later
    c.recall_with_room.ensures.refused c.recall_with_room.ensures.failed)
    told

pub returns-clause-lost : goal.returns-clause-lost
returns-clause-lost g c w kept =
    let t = c.args.tables.now in
    let m = c.make_room_for_write.new.tables in
    let still = still_kept t m w c.make_room_for_write.ensures.endures c.in_ok-make_room_for_write.ensures.runs kept in
    subst (λ (p : Typed × Inside). TellsLost (lost_there p.0 p.1 c.args.file c.args.index) c.recall_with_room.result)
    (λ i. (c.make_room_for_write.ensures.now i, c.make_room_for_write.ensures.inside i))
    (c.recall_with_room.ensures.lost still.0 still.1)

pub returns-clause-inside : goal.returns-clause-inside
returns-clause-inside g c w kept =
    let t = c.args.tables.now in
    let m = c.make_room_for_write.new.tables in
    let still = still_kept t m w c.make_room_for_write.ensures.endures c.in_ok-make_room_for_write.ensures.runs kept in
    on_ok_weaker c.recall_with_room.result
    (λ put. put ∙ (λ i. with_recalled (c.make_room_for_write.ensures.now i) c.args.file c.args.index
    (c.make_room_for_write.ensures.inside i)))
    (c.recall_with_room.ensures.inside still.0 still.1)

pub returns-clause-view : goal.returns-clause-view
returns-clause-view g c w kept =
    let t = c.args.tables.now in
    let m = c.make_room_for_write.new.tables in
    let still = still_kept t m w c.make_room_for_write.ensures.endures c.in_ok-make_room_for_write.ensures.runs kept in
    on_ok_weaker c.recall_with_room.result
    (λ same. same ∙ ap (λ (i : Inside). view i) c.make_room_for_write.ensures.inside)
    (c.recall_with_room.ensures.view still.0 still.1)

pub returns-clause-endures : goal.returns-clause-endures
returns-clause-endures g c =
    endures_leaves g.met.D.Disk.same_next c.args.tables.now c.make_room_for_write.new.tables
    c.recall_with_room.new.tables c.make_room_for_write.ensures.endures
    c.in_ok-make_room_for_write.ensures.runs c.recall_with_room.ensures.leaves
