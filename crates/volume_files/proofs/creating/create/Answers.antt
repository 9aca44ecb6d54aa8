use Rattle.std.proofs.Common.{◌≡◌, [], Err, Result, inl, sym, ◌∙◌, ap, subst, refl, rules}
use Rattle.plain_volume.specs.Replies.{done_reply}
use Rattle.plain_volume.specs.Step.{Outcome, plain}
use Rattle.plain_volume.specs.Volume.{with_file}
use Rattle.plain_volume.specs.declared.call.Call.TheVariants.{Create}
use Rattle.plain_volume.specs.declared.call.Fault.{Fault}
use Rattle.volume_tables.specs.Tables.{tables_now, view_now, disk_of}
use Rattle.volume_tables.specs.Wants.{wanting, is_late, IsRepliedOrMemory}
use Rattle.volume_tables.proofs.Endured.{endures_leaves}
use Rattle.volume_tables.proofs.Finished.{finished_reply, finished_left}
use Rattle.volume_tables.proofs.Wanted.{replied_want}
use Rattle.volume_files.specs.Names.{with_new}
use Rattle.volume_files.specs.Needs.{create_needs, create_bytes}
use Rattle.volume_files.proofs.NewFile.{answered_new, view_made, view_unmade, sound_made}
use Rattle.volume_files.proofs.Spent.{spends_none, spends_new}
use Rattle.volume_files.specs.Insides.{inside_created}
use Rattle.volume_files.proofs.Insides.{inside_left, inside_unleft, inside_new}
use Rattle.std.proofs.lemmas.Result.{on_ok_weaker, on_err_weaker}
use Rattle.cluster_space.specs.States.{free_in}
use Rattle.volume_files.proofs.Pending.{memory_not_worn, pending_refused, pending_staged}
use Rattle.volume_files.proofs.creating.create.Goals as goal

pub returns-in_err-make_room-clause-reply : goal.returns-in_err-make_room-clause-reply
returns-in_err-make_room-clause-reply g c =
    let t = c.args.tables.now in
    let u = c.make_room.new.tables in
    let name = c.args.name.now in
    let fault = c.in_err-make_room.field-0.0 in
    let is : c.from_residual-in_err-make_room.result ≡ Err fault = search rules in
    let late = ap (λ (o : Outcome). is_late o) (answered_new t name c.in_ok-check_new.ensures.new) in
    subst (λ (r : Result (Unit {0}) Fault). IsRepliedOrMemory (plain (view_now t) (Create name))
    (wanting t (create_needs name)) (disk_of t).faults (disk_of u).faults (done_reply r)) (sym is)
    (inl (replied_want t u (create_needs name)
    (plain (view_now t) (Create name)) late fault c.in_err-make_room.ensures.refused))

pub returns-clause-reply : goal.returns-clause-reply
returns-clause-reply g c =
    let t = c.args.tables.now in
    let p = c.put_file.new.tables in
    let name = c.args.name.now in
    finished_reply (view_now t) (with_file name [] (view_now t)) (Create name)
    (answered_new t name c.in_ok-check_new.ensures.new)
    (wanting t (create_needs name)) (disk_of t).faults
    (disk_of p).faults c.in_ok-make_room.ensures.none c.put_file.result c.put_file.ensures.refused

pub returns-clause-left : goal.returns-clause-left
returns-clause-left g c =
    let t = c.args.tables.now in
    let m = c.make_room.new.tables in
    let p = c.put_file.new.tables in
    let name = c.args.name.now in
    let new = c.in_ok-check_new.ensures.new in
    let room = c.make_room.ensures in
    let put = c.put_file.ensures in
    finished_left (view_now t) (with_file name [] (view_now t)) (Create name) (answered_new t name new)
    (view_now p) c.put_file.result
    (view_made t m p name new room.now room.inside room.sound
    (λ last. c.in_ok-make_room.ensures.id refl last) put.leaves put.states put.image put.running c.put_file.result
    put.ok put.err)
    (view_unmade t m p name new room.now room.inside room.sound
    (λ last. c.in_ok-make_room.ensures.id refl last) put.leaves put.states put.image put.running c.put_file.result
    put.ok put.err)

pub returns-clause-sound : goal.returns-clause-sound
returns-clause-sound g c =
    let t = c.args.tables.now in
    let m = c.make_room.new.tables in
    let p = c.put_file.new.tables in
    let room = c.make_room.ensures in
    let put = c.put_file.ensures in
    sound_made t m p c.args.name.now c.in_ok-check_new.ensures.new room.now room.inside room.sound
    (λ last. c.in_ok-make_room.ensures.id refl last)
    put.leaves put.states put.image put.running c.put_file.result put.ok put.err

pub returns-clause-endures : goal.returns-clause-endures
returns-clause-endures g c =
    endures_leaves g.met.D.Disk.same_next c.args.tables.now c.make_room.new.tables c.put_file.new.tables
    c.make_room.ensures.endures
    c.in_ok-make_room.ensures.runs c.put_file.ensures.leaves

pub returns-in_err-make_room-clause-spends : goal.returns-in_err-make_room-clause-spends
returns-in_err-make_room-clause-spends g c =
    spends_none 0 1 c.args.tables.now c.make_room.new.tables c.make_room.ensures.now

pub returns-clause-spends : goal.returns-clause-spends
returns-clause-spends g c =
    spends_new c.args.tables.now c.make_room.new.tables c.put_file.new.tables c.make_room.ensures.now c.args.name.now
    c.put_file.result c.put_file.ensures.ok c.put_file.ensures.err

pub returns-clause-inside : goal.returns-clause-inside
returns-clause-inside g c =
    let t = c.args.tables.now in
    let m = c.make_room.new.tables in
    let p = c.put_file.new.tables in
    let name = c.args.name.now in
    let put = c.put_file.ensures in
    on_ok_weaker c.put_file.result
    (inside_left t m p c.make_room.ensures.inside put.image (inside_created name) (with_new name (tables_now m))
    (inside_new (tables_now m) (disk_of m).image name)) put.ok

pub returns-clause-err_inside : goal.returns-clause-err_inside
returns-clause-err_inside g c =
    let put = c.put_file.ensures in
    on_err_weaker c.put_file.result
    (inside_unleft c.args.tables.now c.make_room.new.tables c.put_file.new.tables c.make_room.ensures.inside put.image)
    put.err

pub returns-in_err-check_new-clause-pending : goal.returns-in_err-check_new-clause-pending
returns-in_err-check_new-clause-pending g c =
    let t = c.args.tables.now in
    let name = c.args.name.now in
    let r = c.from_residual.result in
    let is : r ≡ Err c.in_err-check_new.field-0.0 = search rules in
    pending_refused t t (create_needs name) (create_bytes name) r (search rules)
    (λ worn. absurd (c.in_err-check_new.ensures.not_worn (sym is ∙ worn)))

pub returns-in_err-make_room-clause-pending : goal.returns-in_err-make_room-clause-pending
returns-in_err-make_room-clause-pending g c =
    let t = c.args.tables.now in
    let name = c.args.name.now in
    let r = c.from_residual-in_err-make_room.result in
    let is : r ≡ Err c.in_err-make_room.field-0.0 = search rules in
    pending_refused t c.make_room.new.tables (create_needs name) (create_bytes name) r (search rules)
    (λ worn. c.in_err-make_room.ensures.worn (sym is ∙ worn))

pub returns-clause-pending : goal.returns-clause-pending
returns-clause-pending g c =
    let t = c.args.tables.now in
    let m = c.make_room.new.tables in
    let name = c.args.name.now in
    let put = c.put_file.ensures in
    pending_staged t m c.put_file.new.tables (create_needs name) c.in_ok-make_room.ensures.pending refl
    (create_bytes name) put.leaves c.put_file.result put.staged (λ i. free_in (put.states i))
    (memory_not_worn c.put_file.result put.refused)
