use Rattle.std.proofs.Common.{rules, ◌≡◌, ◌∙◌, ℕ, List, not, length, Option, Result, Err, refl, sym, ap, subst, arith}
use Rattle.std.proofs.Common.{inl, inr, ⊎_elim}
use Rattle.std.proofs.lemmas.Result.{on_ok_weaker}
use Rattle.plain_volume.specs.Step.{plain, write}
use Rattle.plain_volume.specs.Files.{RefusesFile}
use Rattle.plain_volume.specs.Replies.{done_reply}
use Rattle.plain_volume.specs.declared.call.Call.TheVariants.{Write}
use Rattle.plain_volume.specs.declared.call.Fault.{Fault}
use Rattle.plain_volume.specs.declared.call.Fault.TheVariants.{BadName}
use Rattle.plain_volume.specs.Volume.{cells_of, is_lawful}
use Rattle.volume_tables.specs.Tables.{disk_of, inside_now, view_now}
use Rattle.volume_tables.specs.declared.tables.Tables.{Tables}
use Rattle.volume_tables.specs.Wants.{IsRepliedOrMemory}
use Rattle.volume_tables.proofs.Endured.{endures_start}
use Rattle.volume_inside.specs.View.{file_cells}
use Rattle.volume_files.specs.Found.{IsFileOf}
use Rattle.volume_files.specs.Writing.{write_wants}
use Rattle.rw_filter.specs.Filters.{filtered}
use Rattle.volume_core.specs.Wants.{wants_of}
use Rattle.volume_core.specs.Moves.{inside_after, state_after}
use Rattle.volume_core.specs.States.{state_of}
use Rattle.volume_core.specs.Volumes.{tables_of}
use Rattle.volume_core.proofs.Told.{want_told, replied_told_too, reads_told}
use Rattle.volume_core.proofs.Causes.{refused_not_failed}
use Rattle.volume_core.proofs.Wanting.{write_may}
use Rattle.volume_core.proofs.Written.{unfound_replied, write_replied, write_left}
use Rattle.volume_core.proofs.Adding.{nothing_adds, changes_add}
use Rattle.volume_core.proofs.Moving.{changes_move, still_moves, unfound_leaves, written_of}
use Rattle.volume_core.proofs.Unlost.{write_unworn}
use Rattle.volume_core.proofs.Waiting.{write_waits_by, write_roomed}
use Rattle.volume_core.proofs.volume.Volume.write.Goals as goal

pub returns-in_err-file-clause-failed : goal.returns-in_err-file-clause-failed
returns-in_err-file-clause-failed g c failed =
    let v = view_now c.tables_in.result.now in
    let name = c.args.name.now in
    let refused : c.from_residual.result ≡ Err c.in_err-file.field-0.0 = search rules in
    absurd (refused_not_failed v (Write name c.args.at c.args.bytes.now) c.in_err-file.field-0.0
    (c.in_err-file.ensures.refused (write name c.args.at c.args.bytes.now v)) (cc))

pub returns-in_err-file-clause-reply : goal.returns-in_err-file-clause-reply
returns-in_err-file-clause-reply g c w kept =
    let t = tables_of c.args.self.now in
    let name = c.args.name.now in
    let refused : c.from_residual.result ≡ Err c.in_err-file.field-0.0 = search rules in
    let unfound = subst (λ (x : Tables g.row.D.Denot g.D.Disk). RefusesFile (view_now x) name c.in_err-file.field-0.0)
    c.tables_in.ensures c.in_err-file.ensures.refused in
    subst (λ (r : Result (Unit {0}) Fault). IsRepliedOrMemory
    (plain (view_now t) (Write name c.args.at c.args.bytes.now))
    (wants_of c.args.self.now (Write name c.args.at c.args.bytes.now))
    (disk_of t).faults (disk_of t).faults (done_reply r)) (sym refused)
    (unfound_replied (view_now t) name c.args.at c.args.bytes.now c.in_err-file.field-0.0
    (wants_of c.args.self.now (Write name c.args.at c.args.bytes.now))
    (disk_of t).faults (disk_of t).faults unfound)

pub returns-clause-reply : goal.returns-clause-reply
returns-clause-reply g c w kept =
    let t = tables_of c.args.self.now in
    let found = subst (λ (x : Tables g.row.D.Denot g.D.Disk). IsFileOf x c.args.name.now c.in_ok-file.file
    c.in_ok-file._record) c.tables_in.ensures c.in_ok-file.ensures.found in
    let u = filtered c.write.new.self in
    replied_told_too t c.args.self.now.sound (Write c.args.name.now c.args.at c.args.bytes.now) (disk_of t).faults
    (disk_of u).faults (done_reply c.write.result)
    (write_replied t u c.args.self.now.sound c.args.name.now c.in_ok-file.file c.in_ok-file._record
    found c.args.at c.args.bytes.now (disk_of t).faults (disk_of u).faults
    (done_reply c.write.result) (c.write.ensures.reply w kept c.args.name.now (view_now t)))

pub returns-clause-left : goal.returns-clause-left
returns-clause-left g c w kept =
    let t = tables_of c.args.self.now in
    let found = subst (λ (x : Tables g.row.D.Denot g.D.Disk). IsFileOf x c.args.name.now c.in_ok-file.file
    c.in_ok-file._record) c.tables_in.ensures c.in_ok-file.ensures.found in
    let u = filtered c.write.new.self in
    let s = c.write.ensures in
    write_left t u c.args.self.now.sound c.args.name.now c.in_ok-file.file c.in_ok-file._record
    found c.args.at c.args.bytes.now (disk_of t).faults (disk_of u).faults c.write.result
    (s.reply w kept c.args.name.now (view_now t)) s.written s.others (s.cells w kept) s.err_inside

pub returns-clause-want : goal.returns-clause-want
returns-clause-want g c =
    let t = tables_of c.args.self.now in
    want_told t c.args.self.now.sound (Write c.args.name.now c.args.at c.args.bytes.now)
    (write_may t c.args.name.now c.args.at c.args.bytes.now)

pub returns-in_err-file-clause-adds : goal.returns-in_err-file-clause-adds
returns-in_err-file-clause-adds g c = nothing_adds _ _ (Write c.args.name.now c.args.at c.args.bytes.now) refl

pub returns-clause-adds : goal.returns-clause-adds
returns-clause-adds g c =
    let s = c.write.ensures in
    changes_add _ _ (Write c.args.name.now c.args.at c.args.bytes.now) 0 (omega arith) refl s.spends s.endures

pub returns-in_err-file-clause-endures : goal.returns-in_err-file-clause-endures
returns-in_err-file-clause-endures g c = endures_start g.met.D.Disk.same_self (tables_of c.args.self.now)

pub returns-clause-moves : goal.returns-clause-moves
returns-clause-moves g c w kept =
    let t = tables_of c.args.self.now in
    let found = subst (λ (x : Tables g.row.D.Denot g.D.Disk). IsFileOf x c.args.name.now c.in_ok-file.file
    c.in_ok-file._record) c.tables_in.ensures c.in_ok-file.ensures.found in
    let u = filtered c.write.new.self in
    let sound = c.args.self.now.sound in
    let s = c.write.ensures in
    let r = c.write.result in
    let name = c.args.name.now in
    let at = c.args.at in
    let bytes = c.args.bytes.now in
    let id = c.in_ok-file.file in
    let cells = file_cells (inside_now t) id in
    let reply = s.reply w kept name (view_now t) in
    changes_move t u (Write name at bytes) r refl
    (on_ok_weaker r (λ is. is ∙ written_of name id at bytes (inside_now t) found.named) (s.inside w kept)) s.err_inside
    (write_waits_by t sound u r name id at bytes found.named s.pending
    (λ none. write_unworn (view_now t) name at bytes cells (disk_of t).faults (disk_of u).faults r
    (subst (λ (o : Option Fault). IsRepliedOrMemory (write name at bytes (view_now t) cells) o (disk_of t).faults
    (disk_of u).faults (done_reply r)) (ap (λ (bs : List ℕ). write_wants t id at bs) none) reply)))
    (λ place is. s.waits place is ∙ write_roomed t sound name id at bytes found.named) s.endures s.stops s.spares

pub returns-clause-halts : goal.returns-clause-halts
returns-clause-halts g c failed =
    let t = tables_of c.args.self.now in
    let found = subst (λ (x : Tables g.row.D.Denot g.D.Disk). IsFileOf x c.args.name.now c.in_ok-file.file
    c.in_ok-file._record) c.tables_in.ensures c.in_ok-file.ensures.found in
    ⊎_elim (λ is. inl is)
    (λ reads. inr (reads_told t c.args.self.now.sound c.args.name.now c.in_ok-file.file c.args.at
    (length c.args.bytes.now) found.named reads)) (c.write.ensures.halts failed)

pub returns-in_err-file-clause-halts : goal.returns-in_err-file-clause-halts
returns-in_err-file-clause-halts g c failed =
    let v = view_now c.tables_in.result.now in
    let name = c.args.name.now in
    let refused : c.from_residual.result ≡ Err c.in_err-file.field-0.0 = search rules in
    absurd (refused_not_failed v (Write name c.args.at c.args.bytes.now) c.in_err-file.field-0.0
    (c.in_err-file.ensures.refused (write name c.args.at c.args.bytes.now v)) (cc))

pub returns-in_err-file-clause-moves : goal.returns-in_err-file-clause-moves
returns-in_err-file-clause-moves g c w kept =
    let t = tables_of c.args.self.now in
    let name = c.args.name.now in
    let refused : c.from_residual.result ≡ Err c.in_err-file.field-0.0 = search rules in
    let unfound = subst (λ (x : Tables g.row.D.Denot g.D.Disk). RefusesFile (view_now x) name c.in_err-file.field-0.0)
    c.tables_in.ensures c.in_err-file.ensures.refused in
    still_moves t (Write name c.args.at c.args.bytes.now) (done_reply c.from_residual.result)
    (ap (λ (r : Result (Unit {0}) Fault). state_after (Write name c.args.at c.args.bytes.now) (done_reply r)
    (state_of c.args.self.now)) refused
    ∙ unfound_leaves (Write name c.args.at c.args.bytes.now) (state_of c.args.self.now)
    (cells_of name (view_now t)) (not (is_lawful name)) c.in_err-file.field-0.0
    (unfound (λ cells. Err BadName)))
    (ap (λ (r : Result (Unit {0}) Fault). inside_after (Write name c.args.at c.args.bytes.now) (done_reply r)
    (inside_now t)) refused)
