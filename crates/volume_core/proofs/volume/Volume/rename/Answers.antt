use Rattle.std.proofs.Common.{refl, arith}
use Rattle.plain_volume.specs.Replies.{done_reply}
use Rattle.plain_volume.specs.declared.call.Call.TheVariants.{Rename}
use Rattle.volume_tables.specs.Tables.{disk_of, view_now}
use Rattle.volume_tables.specs.Wants.{wanting}
use Rattle.volume_files.specs.Needs.{rename_needs}
use Rattle.volume_core.specs.Volumes.{tables_of}
use Rattle.volume_core.proofs.Causes.{failed_rose_too}
use Rattle.volume_core.proofs.Wanting.{rename_may, rename_not_failed}
use Rattle.volume_core.proofs.Adding.{changes_add}
use Rattle.volume_core.proofs.Lent.{lent_sound, lent_spends, lent_endures, lent_rose, lent_moves, lent_replied_too}
use Rattle.volume_core.proofs.Moving.{changes_move}
use Rattle.volume_core.proofs.Unlost.{rename_undamaged}
use Rattle.volume_core.proofs.Unfound.{rename_waits_by}
use Rattle.volume_core.proofs.Told.{want_told}
use Rattle.volume_core.proofs.volume.Volume.rename.Goals as goal

pub returns-clause-want : goal.returns-clause-want
returns-clause-want g c =
    let t = tables_of c.args.self.now in
    let from = c.args.from.now in
    let to = c.args.to.now in
    want_told t c.args.self.now.sound (Rename from to) (rename_may t from to)

pub returns-clause-failed : goal.returns-clause-failed
returns-clause-failed g c =
    let a = c.tables_mut.result.now in
    let u = c.rename.new.tables in
    let from = c.args.from.now in
    let to = c.args.to.now in
    lent_rose (tables_of c.args.self.now) a u c.tables_mut.ensures.tables _
    (failed_rose_too (view_now a) (Rename from to) (wanting a (rename_needs from to))
    (rename_not_failed a from to) (disk_of a).faults (disk_of u).faults c.rename.result
    c.rename.ensures.reply)

pub returns-clause-adds : goal.returns-clause-adds
returns-clause-adds g c =
    let t = tables_of c.args.self.now in
    let a = c.tables_mut.result.now in
    let u = c.rename.new.tables in
    let same = c.tables_mut.ensures.tables in
    let s = c.rename.ensures in
    let from = c.args.from.now in
    let to = c.args.to.now in
    changes_add _ _ (Rename from to) 0 (omega arith) refl (lent_spends t a u same 0 0 s.spends)
    (lent_endures t a u same s.endures)

pub returns-clause-reply : goal.returns-clause-reply
returns-clause-reply g c =
    let from = c.args.from.now in
    let to = c.args.to.now in
    lent_replied_too (tables_of c.args.self.now) c.tables_mut.result.now c.rename.new.tables c.tables_mut.ensures.tables
    c.args.self.now.sound (Rename from to) (done_reply c.rename.result) c.rename.ensures.reply

pub returns-clause-moves : goal.returns-clause-moves
returns-clause-moves g c =
    let t = tables_of c.args.self.now in
    let a = c.tables_mut.result.now in
    let u = c.rename.new.tables in
    let same = c.tables_mut.ensures.tables in
    let s = c.rename.ensures in
    let from = c.args.from.now in
    let to = c.args.to.now in
    lent_moves t a u same (Rename from to) (done_reply c.rename.result)
    (changes_move a u (Rename from to) c.rename.result refl s.inside s.err_inside
    (rename_waits_by a (lent_sound t a u same c.args.self.now.sound) u c.rename.result from to (wanting a (rename_needs from to))
    (disk_of a).faults (disk_of u).faults s.reply s.pending)
    (λ place is. absurd (rename_undamaged (view_now a) from (disk_of a).faults (disk_of u).faults c.rename.result
    place to (wanting a (rename_needs from to)) (rename_may a from to) s.reply is)) s.endures s.stops s.spares)
