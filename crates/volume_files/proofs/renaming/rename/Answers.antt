use Rattle.std.proofs.Common.{◌≡◌, ◌∙◌, ℕ, Err, Result, inl, sym, ap, subst, refl, rules}
use Rattle.plain_volume.specs.Replies.{done_reply}
use Rattle.plain_volume.specs.Step.{Outcome, plain}
use Rattle.plain_volume.specs.Volume.{Volume, with_file, without_file}
use Rattle.plain_volume.specs.declared.call.Call.TheVariants.{Rename}
use Rattle.plain_volume.specs.declared.call.Fault.{Fault}
use Rattle.volume_inside.specs.View.{file_cells}
use Rattle.volume_tables.specs.Tables.{tables_now, inside_now, view_now, disk_of}
use Rattle.volume_tables.specs.Wants.{wanting, is_late, IsRepliedOrMemory}
use Rattle.volume_tables.proofs.Endured.{endures_leaves}
use Rattle.volume_tables.proofs.Finished.{finished_reply, finished_left}
use Rattle.volume_tables.proofs.Wanted.{replied_want}
use Rattle.volume_files.specs.Needs.{rename_needs, rename_bytes}
use Rattle.volume_tables.specs.Stages.{if_ok}
use Rattle.volume_files.proofs.OneName.{short_names}
use Rattle.volume_files.proofs.OtherName.{answered_renamed, view_put, view_unput, sound_put}
use Rattle.volume_files.proofs.Pending.{err_same, found_same, memory_not_worn, pending_refused, pending_staged}
use Rattle.volume_tables.proofs.Stagings.{staged_ok}
use Rattle.volume_files.proofs.Spent.{spends_none, spends_renamed}
use Rattle.std.proofs.lemmas.Result.{on_ok_weaker, on_err_weaker}
use Rattle.std.specs.FinMap.{find}
use Rattle.byte_map.specs.Words.{bytes_cmp}
use Rattle.volume_inside.specs.Typed.{Typed}
use Rattle.volume_files.specs.Insides.{inside_renamed}
use Rattle.volume_files.specs.Names.{with_renamed}
use Rattle.volume_files.proofs.Insides.{inside_left, inside_unleft, inside_other}
use Rattle.volume_files.proofs.renaming.rename.Goals as goal

pub returns-in_err-make_room-clause-reply : goal.returns-in_err-make_room-clause-reply
returns-in_err-make_room-clause-reply g c =
    let t = c.args.tables.now in
    let u = c.make_room.new.tables in
    let from = c.args.from.now in
    let to = c.args.to.now in
    let fault = c.in_err-make_room.field-0.0 in
    let is : c.from_residual-in_err-make_room.result ≡ Err fault = search rules in
    let late = ap (λ (o : Outcome). is_late o) (answered_renamed t from to c.in_ok-id.id c.in_ok-id.ensures.found) in
    subst (λ (r : Result (Unit {0}) Fault). IsRepliedOrMemory (plain (view_now t) (Rename from to))
    (wanting t (rename_needs from to)) (disk_of t).faults (disk_of u).faults (done_reply r)) (sym is)
    (inl (replied_want t u (rename_needs from to)
    (plain (view_now t) (Rename from to)) late fault c.in_err-make_room.ensures.refused))

pub replace_name-requires-clause-names : goal.replace_name-requires-clause-names
replace_name-requires-clause-names g c =
    let m = c.make_room.new.tables in
    short_names (tables_now m) (tables_now m).names c.make_room.ensures.sound.rules.names.names

pub returns-clause-reply : goal.returns-clause-reply
returns-clause-reply g c =
    let t = c.args.tables.now in
    let p = c.replace_name.new.tables in
    let from = c.args.from.now in
    let to = c.args.to.now in
    let id = c.in_ok-id.id in
    let after : Volume = with_file to (file_cells (inside_now t) id) (without_file from (view_now t)) in
    finished_reply (view_now t) after (Rename from to) (answered_renamed t from to id c.in_ok-id.ensures.found)
    (wanting t (rename_needs from to)) (disk_of t).faults
    (disk_of p).faults c.in_ok-make_room.ensures.none c.replace_name.result c.replace_name.ensures.refused

pub returns-clause-left : goal.returns-clause-left
returns-clause-left g c =
    let t = c.args.tables.now in
    let m = c.make_room.new.tables in
    let p = c.replace_name.new.tables in
    let from = c.args.from.now in
    let to = c.args.to.now in
    let id = c.in_ok-id.id in
    let is = c.in_ok-id.ensures.found in
    let room = c.make_room.ensures in
    let put = c.replace_name.ensures in
    let bytes : ℕ = if_ok c.replace_name.result (rename_bytes (tables_now m).names from to id) in
    let after : Volume = with_file to (file_cells (inside_now t) id) (without_file from (view_now t)) in
    finished_left (view_now t) after (Rename from to) (answered_renamed t from to id is) (view_now p) c.replace_name.result
    (view_put t m p from to id is room.now room.inside room.sound bytes put.stages c.replace_name.result put.ok put.err)
    (view_unput t m p from to id is room.now room.inside room.sound bytes put.stages c.replace_name.result put.ok put.err)

pub returns-clause-sound : goal.returns-clause-sound
returns-clause-sound g c =
    let room = c.make_room.ensures in
    let put = c.replace_name.ensures in
    sound_put c.args.tables.now c.make_room.new.tables c.replace_name.new.tables c.args.from.now c.args.to.now c.in_ok-id.id
    c.in_ok-id.ensures.found
    room.now room.inside room.sound _ put.stages c.replace_name.result
    put.ok put.err

pub returns-clause-endures : goal.returns-clause-endures
returns-clause-endures g c =
    endures_leaves g.met.D.Disk.same_next c.args.tables.now c.make_room.new.tables c.replace_name.new.tables
    c.make_room.ensures.endures
    c.in_ok-make_room.ensures.runs c.replace_name.ensures.stages.leaves

pub returns-in_err-make_room-clause-spends : goal.returns-in_err-make_room-clause-spends
returns-in_err-make_room-clause-spends g c =
    spends_none 0 0 c.args.tables.now c.make_room.new.tables c.make_room.ensures.now

pub returns-clause-spends : goal.returns-clause-spends
returns-clause-spends g c =
    spends_renamed c.args.tables.now c.make_room.new.tables c.replace_name.new.tables c.make_room.ensures.now
    c.args.from.now c.args.to.now c.in_ok-id.id c.replace_name.result c.replace_name.ensures.ok c.replace_name.ensures.err

pub returns-clause-inside : goal.returns-clause-inside
returns-clause-inside g c =
    let t = c.args.tables.now in
    let m = c.make_room.new.tables in
    let p = c.replace_name.new.tables in
    let from = c.args.from.now in
    let to = c.args.to.now in
    let id = c.in_ok-id.id in
    let put = c.replace_name.ensures in
    let named = ap (λ (q : Typed). find bytes_cmp from q.names) c.make_room.ensures.now
    ∙ c.in_ok-id.ensures.found.named in
    on_ok_weaker c.replace_name.result
    (inside_left t m p c.make_room.ensures.inside put.stages.image (inside_renamed from to)
    (with_renamed from to id (tables_now m)) (inside_other (tables_now m) (disk_of m).image from to id named)) put.ok

pub returns-clause-err_inside : goal.returns-clause-err_inside
returns-clause-err_inside g c =
    let put = c.replace_name.ensures in
    on_err_weaker c.replace_name.result
    (inside_unleft c.args.tables.now c.make_room.new.tables c.replace_name.new.tables c.make_room.ensures.inside
    put.stages.image) put.err

pub returns-in_err-id-clause-pending : goal.returns-in_err-id-clause-pending
returns-in_err-id-clause-pending g c id named =
    let t = c.args.tables.now in
    let from = c.args.from.now in
    let to = c.args.to.now in
    let r = c.from_residual.result in
    let is : r ≡ Err c.in_err-id.field-0.0 = search rules in
    pending_refused t t (rename_needs from to) (rename_bytes (tables_now t).names from to id) r (search rules)
    (λ worn. absurd (c.in_err-id.ensures.not_worn (err_same (sym is ∙ worn))))

pub returns-in_err-make_room-clause-pending : goal.returns-in_err-make_room-clause-pending
returns-in_err-make_room-clause-pending g c id named =
    let t = c.args.tables.now in
    let from = c.args.from.now in
    let to = c.args.to.now in
    let r = c.from_residual-in_err-make_room.result in
    let is : r ≡ Err c.in_err-make_room.field-0.0 = search rules in
    pending_refused t c.make_room.new.tables (rename_needs from to) (rename_bytes (tables_now t).names from to id) r
    (search rules) (λ worn. c.in_err-make_room.ensures.worn (sym is ∙ worn))

pub returns-clause-pending : goal.returns-clause-pending
returns-clause-pending g c id named =
    let t = c.args.tables.now in
    let m = c.make_room.new.tables in
    let p = c.replace_name.new.tables in
    let from = c.args.from.now in
    let to = c.args.to.now in
    let put = c.replace_name.ensures in
    let same = found_same (sym c.in_ok-id.ensures.found.named ∙ named) in
    let bytes : rename_bytes (tables_now m).names from to c.in_ok-id.id ≡ rename_bytes (tables_now t).names from to id =
    (λ i. rename_bytes (c.make_room.ensures.now i).names from to (same i)) in
    pending_staged t m p (rename_needs from to) c.in_ok-make_room.ensures.pending refl
    (rename_bytes (tables_now t).names from to id) put.stages.leaves c.replace_name.result
    (staged_ok c.replace_name.result (rename_bytes (tables_now m).names from to c.in_ok-id.id)
    (rename_bytes (tables_now t).names from to id) m p put.stages bytes) put.stages.free
    (memory_not_worn c.replace_name.result put.refused)
