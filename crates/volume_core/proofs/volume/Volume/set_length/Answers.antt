use Rattle.std.proofs.Common.{refl, arith, inl}
use Rattle.plain_volume.specs.Replies.{done_reply}
use Rattle.plain_volume.specs.declared.call.Call.TheVariants.{SetLength}
use Rattle.volume_tables.specs.Tables.{disk_of, view_now}
use Rattle.volume_files.specs.Lengths.{length_wants}
use Rattle.volume_core.specs.Volumes.{tables_of}
use Rattle.volume_core.proofs.Causes.{failed_rose}
use Rattle.volume_core.proofs.Wanting.{length_may, length_not_failed}
use Rattle.volume_core.proofs.Adding.{changes_add}
use Rattle.volume_core.proofs.Lent.{lent_sound, lent_spends, lent_endures, lent_rose, lent_moves, lent_replied}
use Rattle.volume_core.proofs.Moving.{changes_move}
use Rattle.volume_core.proofs.Unlost.{length_undamaged}
use Rattle.volume_core.proofs.Unfound.{length_waits_by}
use Rattle.volume_core.proofs.Told.{want_told}
use Rattle.volume_core.proofs.volume.Volume.set_length.Goals as goal

pub returns-clause-want : goal.returns-clause-want
returns-clause-want g c =
    let t = tables_of c.args.self.now in
    let name = c.args.name.now in
    let len = c.args.length in
    want_told t c.args.self.now.sound (SetLength name len) (length_may t name len)

pub returns-clause-failed : goal.returns-clause-failed
returns-clause-failed g c =
    let a = c.tables_mut.result.now in
    let u = c.set_length.new.tables in
    let name = c.args.name.now in
    let len = c.args.length in
    lent_rose (tables_of c.args.self.now) a u c.tables_mut.ensures.tables _
    (failed_rose (view_now a) (SetLength name len) (length_wants a name len)
    (length_not_failed a name len) (disk_of a).faults (disk_of u).faults c.set_length.result
    c.set_length.ensures.reply)

pub returns-clause-adds : goal.returns-clause-adds
returns-clause-adds g c =
    let t = tables_of c.args.self.now in
    let a = c.tables_mut.result.now in
    let u = c.set_length.new.tables in
    let same = c.tables_mut.ensures.tables in
    let s = c.set_length.ensures in
    let name = c.args.name.now in
    let len = c.args.length in
    changes_add _ _ (SetLength name len) 0 (omega arith) refl (lent_spends t a u same 0 0 s.spends)
    (lent_endures t a u same s.endures)

pub returns-clause-reply : goal.returns-clause-reply
returns-clause-reply g c =
    let name = c.args.name.now in
    let len = c.args.length in
    lent_replied (tables_of c.args.self.now) c.tables_mut.result.now c.set_length.new.tables c.tables_mut.ensures.tables
    c.args.self.now.sound (SetLength name len) (done_reply c.set_length.result) c.set_length.ensures.reply

pub returns-clause-moves : goal.returns-clause-moves
returns-clause-moves g c =
    let t = tables_of c.args.self.now in
    let a = c.tables_mut.result.now in
    let u = c.set_length.new.tables in
    let same = c.tables_mut.ensures.tables in
    let s = c.set_length.ensures in
    let name = c.args.name.now in
    let len = c.args.length in
    lent_moves t a u same (SetLength name len) (done_reply c.set_length.result)
    (changes_move a u (SetLength name len) c.set_length.result refl s.inside s.err_inside
    (length_waits_by a (lent_sound t a u same c.args.self.now.sound) u c.set_length.result name len (length_wants a name len)
    (disk_of a).faults (disk_of u).faults (inl s.reply) s.pending)
    (λ place is. absurd (length_undamaged (view_now a) name (disk_of a).faults (disk_of u).faults c.set_length.result
    place len (length_wants a name len) (length_may a name len) (inl s.reply) is)) s.endures s.stops s.spares)
