use Rattle.std.proofs.Common.{refl, arith}
use Rattle.plain_volume.specs.Replies.{done_reply}
use Rattle.plain_volume.specs.declared.call.Call.TheVariants.{Create}
use Rattle.volume_tables.specs.Tables.{disk_of, view_now}
use Rattle.volume_tables.specs.Wants.{wanting}
use Rattle.volume_files.specs.Needs.{create_needs}
use Rattle.volume_core.specs.Volumes.{tables_of}
use Rattle.volume_core.proofs.Causes.{failed_rose_too}
use Rattle.volume_core.proofs.Wanting.{create_may, create_not_failed}
use Rattle.volume_core.proofs.Adding.{changes_add}
use Rattle.volume_core.proofs.Lent.{lent_sound, lent_spends, lent_endures, lent_rose, lent_moves, lent_replied_too}
use Rattle.volume_core.proofs.Moving.{changes_move}
use Rattle.volume_core.proofs.Unlost.{create_undamaged}
use Rattle.volume_core.proofs.Waiting.{create_waits}
use Rattle.volume_core.proofs.Told.{want_told}
use Rattle.volume_core.proofs.volume.Volume.create.Goals as goal

pub returns-clause-want : goal.returns-clause-want
returns-clause-want g c =
    let t = tables_of c.args.self.now in
    let name = c.args.name.now in
    want_told t c.args.self.now.sound (Create name) (create_may t name)

pub returns-clause-failed : goal.returns-clause-failed
returns-clause-failed g c =
    let a = c.tables_mut.result.now in
    let u = c.create.new.tables in
    let name = c.args.name.now in
    lent_rose (tables_of c.args.self.now) a u c.tables_mut.ensures.tables _
    (failed_rose_too (view_now a) (Create name) (wanting a (create_needs name))
    (create_not_failed a name) (disk_of a).faults (disk_of u).faults c.create.result
    c.create.ensures.reply)

pub returns-clause-adds : goal.returns-clause-adds
returns-clause-adds g c =
    let t = tables_of c.args.self.now in
    let a = c.tables_mut.result.now in
    let u = c.create.new.tables in
    let same = c.tables_mut.ensures.tables in
    let s = c.create.ensures in
    let name = c.args.name.now in
    changes_add _ _ (Create name) 1 (omega arith) refl (lent_spends t a u same 0 1 s.spends)
    (lent_endures t a u same s.endures)

pub returns-clause-reply : goal.returns-clause-reply
returns-clause-reply g c =
    let name = c.args.name.now in
    lent_replied_too (tables_of c.args.self.now) c.tables_mut.result.now c.create.new.tables c.tables_mut.ensures.tables
    c.args.self.now.sound (Create name) (done_reply c.create.result) c.create.ensures.reply

pub returns-clause-moves : goal.returns-clause-moves
returns-clause-moves g c =
    let t = tables_of c.args.self.now in
    let a = c.tables_mut.result.now in
    let u = c.create.new.tables in
    let same = c.tables_mut.ensures.tables in
    let s = c.create.ensures in
    let name = c.args.name.now in
    lent_moves t a u same (Create name) (done_reply c.create.result)
    (changes_move a u (Create name) c.create.result refl s.inside s.err_inside
    (create_waits a (lent_sound t a u same c.args.self.now.sound) u c.create.result name s.pending)
    (λ place is. absurd (create_undamaged (view_now a) name (disk_of a).faults (disk_of u).faults c.create.result
    place (wanting a (create_needs name)) (create_may a name) s.reply is)) s.endures s.stops s.spares)
