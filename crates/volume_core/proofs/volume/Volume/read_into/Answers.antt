use Rattle.std.proofs.Common.{rules, ◌≡◌, ◌+◌, ◌≤◌, length, Err, refl, arith, subst}
use Rattle.plain_volume.specs.Step.{read}
use Rattle.plain_volume.specs.declared.call.Call.TheVariants.{Read}
use Rattle.volume_tables.specs.Tables.{disk_of, view_now}
use Rattle.volume_tables.specs.declared.tables.Tables.{Tables}
use Rattle.volume_tables.proofs.Endured.{endures_start}
use Rattle.volume_files.specs.Found.{IsFileOf}
use Rattle.rw_filter.specs.Filters.{filtered}
use Rattle.volume_core.specs.Volumes.{tables_of}
use Rattle.volume_core.proofs.Answered.{read_replied, read_faults}
use Rattle.volume_core.proofs.Causes.{refused_not_failed}
use Rattle.volume_core.proofs.Read.{read_endures, read_sound}
use Rattle.volume_core.proofs.Adding.{nothing_adds, reads_add}
use Rattle.volume_core.proofs.Moving.{reads_move, stays_move}
use Rattle.volume_core.proofs.volume.Volume.read_into.Goals as goal

pub returns-in_err-file-clause-failed : goal.returns-in_err-file-clause-failed
returns-in_err-file-clause-failed g c failed =
    let v = view_now c.tables_in.result.now in
    let refused : c.from_residual.result ≡ Err c.in_err-file.field-0.0 = search rules in
    absurd (refused_not_failed v (Read c.args.name.now c.args.at (length c.args.out.now)) c.in_err-file.field-0.0
    (c.in_err-file.ensures.refused (read c.args.at (length c.args.out.now) v)) (cc))

pub returns-then-at-record-clause-endures : goal.returns-then-at-record-clause-endures
returns-then-at-record-clause-endures g c = endures_start g.met.D.Disk.same_self (tables_of c.args.self.now)

pub returns-clause-reply : goal.returns-clause-reply
returns-clause-reply g c w kept =
    let t = tables_of c.args.self.now in
    let found = subst (λ (x : Tables g.row.D.Denot g.D.Disk). IsFileOf x c.args.name.now c.in_ok-file.file
    c.in_ok-file.record) c.tables_in.ensures c.in_ok-file.ensures.found in
    let s = c.read_into.ensures in
    let within : c.args.at + length c.args.out.now ≤ c.in_ok-file.record.length = omega arith in
    read_replied t c.args.name.now c.in_ok-file.file c.in_ok-file.record found
    (disk_of t).faults (disk_of (filtered c.read_into.new.self)).faults c.args.at c.args.out.now c.read_into.new.out
    within c.read_into.result (s.bytes kept.stored kept.tables) (s.whole kept.stored kept.tables)
    (s.damaged kept.stored kept.tables) s.refused

pub returns-clause-refused : goal.returns-clause-refused
returns-clause-refused g c =
    let t = tables_of c.args.self.now in
    let found = subst (λ (x : Tables g.row.D.Denot g.D.Disk). IsFileOf x c.args.name.now c.in_ok-file.file
    c.in_ok-file.record) c.tables_in.ensures c.in_ok-file.ensures.found in
    let within : c.args.at + length c.args.out.now ≤ c.in_ok-file.record.length = omega arith in
    read_faults t c.args.name.now c.in_ok-file.file c.in_ok-file.record found
    (disk_of t).faults (disk_of (filtered c.read_into.new.self)).faults c.args.at c.args.out.now c.read_into.new.out
    within c.read_into.result c.read_into.ensures.refused

pub returns-clause-endures : goal.returns-clause-endures
returns-clause-endures g c =
    read_endures (tables_of c.args.self.now) (filtered c.read_into.new.self) c.read_into.ensures.reads
    g.met.D.Disk.same_self g.met.D.Disk.same_next c.requires.running

pub returns-in_err-file-clause-adds : goal.returns-in_err-file-clause-adds
returns-in_err-file-clause-adds g c = nothing_adds _ _ (Read c.args.name.now c.args.at (length c.args.out.now)) refl

pub returns-then-at-record-clause-adds : goal.returns-then-at-record-clause-adds
returns-then-at-record-clause-adds g c = nothing_adds _ _ (Read c.args.name.now c.args.at (length c.args.out.now)) refl

pub returns-clause-adds : goal.returns-clause-adds
returns-clause-adds g c =
    reads_add _ _ (Read c.args.name.now c.args.at (length c.args.out.now)) c.read_into.ensures.reads

pub returns-in_err-file-clause-endures : goal.returns-in_err-file-clause-endures
returns-in_err-file-clause-endures g c = endures_start g.met.D.Disk.same_self (tables_of c.args.self.now)

pub returns-clause-moves : goal.returns-clause-moves
returns-clause-moves g c =
    reads_move (tables_of c.args.self.now) (filtered c.read_into.new.self)
    (Read c.args.name.now c.args.at (length c.args.out.now)) _ refl refl refl c.read_into.ensures.reads

pub returns-in_err-file-clause-moves : goal.returns-in_err-file-clause-moves
returns-in_err-file-clause-moves g c =
    let call = Read c.args.name.now c.args.at (length c.args.out.now) in
    stays_move (tables_of c.args.self.now) call _ refl refl refl

pub returns-then-at-record-clause-moves : goal.returns-then-at-record-clause-moves
returns-then-at-record-clause-moves g c =
    let call = Read c.args.name.now c.args.at (length c.args.out.now) in
    stays_move (tables_of c.args.self.now) call _ refl refl refl

pub invariant_of-self : goal.invariant_of-self
invariant_of-self g c = record {
  sound = read_sound (tables_of c.args.self.now) (filtered c.read_into.new.self) c.read_into.ensures.reads
      c.args.self.now.sound;
}
