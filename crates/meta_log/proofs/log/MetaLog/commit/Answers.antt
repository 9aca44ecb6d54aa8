use Rattle.std.proofs.Common.{◌≡◌, ◌+◌, ◌<◌, ◌≤◌, inr, ◌∙◌, ap, subst, arith}
use Rattle.std.specs.Prelude.{Ok}
use Rattle.byte_map.specs.Words.{Map}
use Rattle.meta_log.specs.Log.{IsLog, layout_of, state_of, staged_of, epochs_taken, HasSpentEpochs}
use Rattle.std.proofs.lemmas.Result.{on_ok_weaker}
use Rattle.meta_log.proofs.Lives.{stands_spells}
use Rattle.meta_log.proofs.Spends.{spent, none_taken, one_taken}
use Rattle.meta_log.proofs.Staged.{stored_is_now}
use Rattle.meta_log.proofs.Turns.{on_ok_both}
use Rattle.meta_log.proofs.log.MetaLog.commit.Goals as goal

pub returns-then-count-eq0-clause-ok : goal.returns-then-count-eq0-clause-ok
returns-then-count-eq0-clause-ok g c m log =
    let s = c.args.self.now in
    subst (λ (n : Map). IsLog s n) (stored_is_now s.staged.items log.records m s.map (omega arith) log.spelled log.now) log

pub returns-then-count-eq0-clause-settled : goal.returns-then-count-eq0-clause-settled
returns-then-count-eq0-clause-settled g c m log image left =
    let s = c.args.self.now in
    let same : m ≡ s.map = stored_is_now s.staged.items log.records m s.map (omega arith) log.spelled log.now in
    (stands_spells (layout_of s) (state_of s) m log.stands image left ∙ ap Ok same, inr (left, same))

pub returns-then-self-count-clause-spent : goal.returns-then-self-count-clause-spent
returns-then-self-count-clause-spent g c m log =
    let s = c.args.self.now in
    let e = c.append.ensures in
    let fits : s.place + (37 + staged_of s) ≤ s.half = omega (arith, c.if-self-count.true, c.staged_bytes-count.ensures) in
    let none = none_taken s.half s.place (staged_of s) fits in
    let epoch : c.append.new.self.epoch ≡ s.epoch + epochs_taken s = omega (arith, e.epoch, none) in
    on_ok_weaker c.append.result (λ after. spent s c.append.new.self m s.map log after e.place.0 e.place.1 epoch) (e.ok m log)

pub returns-clause-spent : goal.returns-clause-spent
returns-clause-spent g c m log =
    let s = c.args.self.now in
    let e = c.turn_over.ensures in
    let some : 0 < staged_of s = omega (arith, c.if-count-eq0.false, c.staged_bytes-count.ensures) in
    let passes : s.half < s.place + (37 + staged_of s) = omega (arith, c.if-self-count.false, c.staged_bytes-count.ensures) in
    let one = one_taken s.half s.place (staged_of s) some passes in
    on_ok_both {P = IsLog c.turn_over.new.self s.map} {Q = c.turn_over.new.self.epoch ≡ s.epoch + 1} {R = HasSpentEpochs s c.turn_over.new.self} c.turn_over.result
    (λ after risen. spent s c.turn_over.new.self m s.map log after e.place.0 e.place.1 (omega (arith, risen, one))) (e.ok m log) e.epoch
