use Rattle.std.proofs.Common.{ℕ, ◌+◌, ◌≡◌, List, arith, subst}
use Rattle.regression_chunker.specs.declared.seen.Seen.{Seen}
use Rattle.regression_chunker.specs.Sees.{Sees, HasTurningRun}
use Rattle.regression_chunker.proofs.fast.block.Goals as goal

-- one place on, as the loop's next turn writes it
on : (rest : List ℕ) (after i ahead print : ℕ) (s : Seen) → HasTurningRun rest after (i + ahead + 1) print s → HasTurningRun rest after (i + 1 + ahead) print s
on rest after i ahead print s has =
    subst (λ x. HasTurningRun rest after x print s) (let e : i + ahead + 1 ≡ i + 1 + ahead = omega arith in e) has

pub loop-i-preserved : goal.loop-i-preserved
loop-i-preserved c =
    let rest : List ℕ = c.args.rest.now in
    let at : ℕ = c.args.at in
    let i : ℕ = c.loop-i.i in
    record {
      run_a = c.step_complement-a.ensures;
      run_b = on rest (at + 1024) i 1024 c.step_complement-b.result c.step_complement-b.new.self c.step_complement-b.ensures;
      run_c = on rest (at + 2048) i 2048 c.step_complement-c.result c.step_complement-c.new.self c.step_complement-c.ensures;
      run_d = on rest (at + 3072) i 3072 c.step_complement-d.result c.step_complement-d.new.self c.step_complement-d.ensures;
      run_e = on rest (at + 4096) i 4096 c.step_complement-e.result c.step_complement-e.new.self c.step_complement-e.ensures;
      run_f = on rest (at + 5120) i 5120 c.step_complement-f.result c.step_complement-f.new.self c.step_complement-f.ensures;
    }

-- a run that is over has come to the end of its stretch
over : (rest : List ℕ) (after i ahead end : ℕ) (s : Seen) → i + ahead ≡ end → Sees rest after (i + ahead) s → Sees rest after end s
over rest after i ahead end s is seen = subst (λ x. Sees rest after x s) is seen

pub then-seen-requires-clause-first : goal.then-seen-requires-clause-first
then-seen-requires-clause-first c =
    let end : c.loop-i.i ≡ c.args.at + 1024 = omega (arith, c.loop-i-test.false, c.loop-i.auto.i-end) in
    subst (λ x. Sees c.args.rest.now c.args.at x c.loop-i.seen_a) end c.loop-i.invariant.run_a.seen

pub then-seen-requires-clause-second : goal.then-seen-requires-clause-second
then-seen-requires-clause-second c =
    over c.args.rest.now (c.args.at + 1024) c.loop-i.i 1024 (c.args.at + 2048) c.loop-i.seen_b
    (omega (arith, c.loop-i-test.false, c.loop-i.auto.i-end)) c.loop-i.invariant.run_b.seen

pub then-seen-requires-2-clause-second : goal.then-seen-requires-2-clause-second
then-seen-requires-2-clause-second c =
    over c.args.rest.now (c.args.at + 2048) c.loop-i.i 2048 (c.args.at + 3072) c.loop-i.seen_c
    (omega (arith, c.loop-i-test.false, c.loop-i.auto.i-end)) c.loop-i.invariant.run_c.seen

pub then-seen-requires-3-clause-second : goal.then-seen-requires-3-clause-second
then-seen-requires-3-clause-second c =
    over c.args.rest.now (c.args.at + 3072) c.loop-i.i 3072 (c.args.at + 4096) c.loop-i.seen_d
    (omega (arith, c.loop-i-test.false, c.loop-i.auto.i-end)) c.loop-i.invariant.run_d.seen

pub then-seen-requires-4-clause-second : goal.then-seen-requires-4-clause-second
then-seen-requires-4-clause-second c =
    over c.args.rest.now (c.args.at + 4096) c.loop-i.i 4096 (c.args.at + 5120) c.loop-i.seen_e
    (omega (arith, c.loop-i-test.false, c.loop-i.auto.i-end)) c.loop-i.invariant.run_e.seen

pub then-requires-clause-second : goal.then-requires-clause-second
then-requires-clause-second c =
    over c.args.rest.now (c.args.at + 5120) c.loop-i.i 5120 (c.args.at + 6144) c.loop-i.seen_f
    (omega (arith, c.loop-i-test.false, c.loop-i.auto.i-end)) c.loop-i.invariant.run_f.seen
