use Rattle.std.proofs.Common.{rules, ◌≡◌, Err, refl, subst}
use Rattle.plain_volume.specs.Step.{digest}
use Rattle.plain_volume.specs.declared.call.Call.TheVariants.{Digest}
use Rattle.volume_tables.specs.Tables.{disk_of, view_now}
use Rattle.volume_tables.specs.declared.tables.Tables.{Tables}
use Rattle.volume_tables.proofs.Endured.{endures_start}
use Rattle.volume_files.specs.Found.{IsFileOf}
use Rattle.rw_filter.specs.Filters.{filtered}
use Rattle.volume_core.specs.Volumes.{tables_of}
use Rattle.volume_core.proofs.Answered.{digest_replied, digest_refused}
use Rattle.volume_core.proofs.Causes.{refused_not_failed}
use Rattle.volume_core.proofs.Read.{read_endures, read_sound}
use Rattle.volume_core.proofs.Adding.{nothing_adds, reads_add}
use Rattle.volume_core.proofs.Moving.{reads_move, stays_move}
use Rattle.volume_core.proofs.volume.Volume.digest.Goals as goal

pub returns-in_err-file-clause-failed : goal.returns-in_err-file-clause-failed
returns-in_err-file-clause-failed g c failed =
    let v = view_now c.tables_in.result.now in
    let refused : c.from_residual.result ≡ Err c.in_err-file.field-0.0 = search rules in
    absurd (refused_not_failed v (Digest c.args.name.now) c.in_err-file.field-0.0
    (c.in_err-file.ensures.refused (digest v)) (cc))

pub returns-clause-reply : goal.returns-clause-reply
returns-clause-reply g c w kept =
    let t = tables_of c.args.self.now in
    let found = subst (λ (x : Tables g.row.D.Denot g.D.Disk). IsFileOf x c.args.name.now c.in_ok-file.file
    c.in_ok-file.record) c.tables_in.ensures c.in_ok-file.ensures.found in
    let s = c.hash_file.ensures in
    digest_replied t c.args.name.now c.in_ok-file.file c.in_ok-file.record found
    (disk_of t).faults (disk_of (filtered c.hash_file.new.filter)).faults c.hash_file.result
    (s.digest kept.stored kept.tables) (s.whole kept.stored kept.tables) (s.damaged kept.stored kept.tables) s.refused

pub returns-clause-refused : goal.returns-clause-refused
returns-clause-refused g c =
    let t = tables_of c.args.self.now in
    let found = subst (λ (x : Tables g.row.D.Denot g.D.Disk). IsFileOf x c.args.name.now c.in_ok-file.file
    c.in_ok-file.record) c.tables_in.ensures c.in_ok-file.ensures.found in
    digest_refused t c.args.name.now c.in_ok-file.file c.in_ok-file.record found
    (disk_of t).faults (disk_of (filtered c.hash_file.new.filter)).faults c.hash_file.result c.hash_file.ensures.refused

pub returns-clause-endures : goal.returns-clause-endures
returns-clause-endures g c =
    read_endures (tables_of c.args.self.now) (filtered c.hash_file.new.filter) c.hash_file.ensures.reads
    g.met.D.Disk.same_self g.met.D.Disk.same_next c.requires.running

pub returns-in_err-file-clause-adds : goal.returns-in_err-file-clause-adds
returns-in_err-file-clause-adds g c = nothing_adds _ _ (Digest c.args.name.now) refl

pub returns-clause-adds : goal.returns-clause-adds
returns-clause-adds g c = reads_add _ _ (Digest c.args.name.now) c.hash_file.ensures.reads

pub returns-in_err-file-clause-endures : goal.returns-in_err-file-clause-endures
returns-in_err-file-clause-endures g c = endures_start g.met.D.Disk.same_self (tables_of c.args.self.now)

pub returns-clause-moves : goal.returns-clause-moves
returns-clause-moves g c =
    reads_move (tables_of c.args.self.now) (filtered c.hash_file.new.filter) (Digest c.args.name.now) _ refl refl refl
    c.hash_file.ensures.reads

pub returns-in_err-file-clause-moves : goal.returns-in_err-file-clause-moves
returns-in_err-file-clause-moves g c =
    stays_move (tables_of c.args.self.now) (Digest c.args.name.now) _ refl refl refl

pub invariant_of-self : goal.invariant_of-self
invariant_of-self g c = record {
  sound = read_sound (tables_of c.args.self.now) (filtered c.hash_file.new.filter) c.hash_file.ensures.reads
      c.args.self.now.sound;
}
