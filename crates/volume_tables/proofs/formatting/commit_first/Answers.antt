use Rattle.std.proofs.Common.{◌≡◌, ◌+◌, ◌≤◌, [], ap, subst, sym, ◌∙◌, length, arith}
use Rattle.byte_map.specs.Words.{Map}
use Rattle.meta_log.specs.Log.{IsLog, state_of, now_of, staged_of, checkpoint_length}
use Rattle.meta_log.proofs.Spends.{none_taken}
use Rattle.vdisk.specs.Steps.{Keeps}
use Rattle.volume_tables.specs.Formats.{SpellsNoFile}
use Rattle.volume_tables.proofs.Committed.{committed}
use Rattle.volume_tables.proofs.Pended.{group_behind}
use Rattle.volume_tables.proofs.Formatted.{first_start, first_committed, first_staged}
use Rattle.volume_tables.proofs.formatting.commit_first.Goals as goal

pub returns-in-Ok-commit-clause-log : goal.returns-in-Ok-commit-clause-log
returns-in-Ok-commit-clause-log g c log =
    subst (λ (m : Map). IsLog {D = g.row.D.Denot} {d = g.D.Disk} c.commit.new.self m) c.in-Ok.ensures.now
    (c.in-Ok-commit.ensures.ok [] (c.stage_first.ensures.quiet.log [] log))

pub returns-in-Ok-commit-clause-settled : goal.returns-in-Ok-commit-clause-settled
returns-in-Ok-commit-clause-settled g c log image left =
    let staged = c.stage_first.new.log in
    committed c.args.log.at c.args.log.half staged.at staged.half (g.D.Disk.state staged.disk)
    (g.D.Disk.state c.args.log.disk).image staged.map image
    c.stage_first.ensures.quiet.place.at c.stage_first.ensures.quiet.place.half c.in-Ok.ensures.now
    (ap (λ (disk : g.row.D.Denot). (g.D.Disk.state disk).image) c.stage_first.ensures.quiet.disk)
    (c.in-Ok-commit.ensures.settled [] (c.stage_first.ensures.quiet.log [] log) image left)

pub returns-in-Err-Memory-clause-moments_err : goal.returns-in-Err-Memory-clause-moments_err
returns-in-Err-Memory-clause-moments_err g c log =
    let l = c.args.log in
    subst (λ (x : g.row.D.Denot). Keeps (state_of l) (g.D.Disk.state x)
    (SpellsNoFile l.at l.half (length (state_of l).image)))
    (sym (c.into_disk.ensures ∙ c.stage_first.ensures.quiet.disk)) (first_start l log)

pub returns-in-Ok-commit-clause-moments : goal.returns-in-Ok-commit-clause-moments
returns-in-Ok-commit-clause-moments g c log =
    let s = c.stage_first.ensures.quiet in
    let staged = c.stage_first.new.log in
    first_staged c.args.log staged (state_of c.commit.new.self) s.disk s.place.at s.place.half
    (first_committed staged (s.log [] log) (state_of c.commit.new.self) (now_of staged) c.in-Ok.ensures.now
    (c.commit.ensures.moments [] (s.log [] log)))

pub returns-in-Err-Failed-clause-moments_err : goal.returns-in-Err-Failed-clause-moments_err
returns-in-Err-Failed-clause-moments_err g c log =
    let l = c.args.log in
    let s = c.stage_first.ensures.quiet in
    let staged = c.stage_first.new.log in
    subst (λ (x : g.row.D.Denot). Keeps (state_of l) (g.D.Disk.state x)
    (SpellsNoFile l.at l.half (length (state_of l).image))) (sym c.into_disk-in-Err-Failed.ensures)
    (first_staged l staged (state_of c.commit.new.self) s.disk s.place.at s.place.half
    (first_committed staged (s.log [] log) (state_of c.commit.new.self) (now_of staged) c.in-Ok.ensures.now
    (c.commit.ensures.moments [] (s.log [] log))))

pub returns-in-Ok-commit-clause-first : goal.returns-in-Ok-commit-clause-first
returns-in-Ok-commit-clause-first g c =
    let s = c.stage_first.new.log in
    let place = c.stage_first.ensures.quiet.place in
    let fits : s.place + (37 + staged_of s) ≤ s.half = omega
    (arith, place.next, place.half, c.requires.begun, c.requires.wide, s.few) in
    let none = none_taken s.half s.place (staged_of s) fits in
    omega (arith, c.in-Ok-commit.ensures.epoch, place.epoch, none)

pub returns-in-Ok-commit-clause-next : goal.returns-in-Ok-commit-clause-next
returns-in-Ok-commit-clause-next g c =
    let s = c.stage_first.new.log in
    let place = c.stage_first.ensures.quiet.place in
    let staged : staged_of s ≡ 106 = omega (arith, c.in-Ok.ensures.staged, c.requires.none) in
    let fits : s.place + (37 + staged_of s) ≤ s.half = omega
    (arith, place.next, place.half, c.requires.begun, c.requires.wide, s.few) in
    c.in-Ok-commit.ensures.next
    ∙ group_behind s.half s.place (staged_of s) (checkpoint_length (now_of s)) (omega (arith, staged)) fits
    ∙ omega (arith, staged, place.next, c.requires.begun)
