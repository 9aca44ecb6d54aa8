use Rattle.std.proofs.Common.{arith, refl}
use Rattle.script_items.specs.Script.{item_of}
use Rattle.ddpsh.specs.Served.{asked_as}
use Rattle.ddpsh.proofs.CallLaws.{broke_none}
use Rattle.ddpsh.proofs.ClockLaws.{clock_failed, clock_read}
use Rattle.ddpsh.proofs.LineOfLaws.{counted_sum}
use Rattle.ddpsh.proofs.session.Session.attempt.Goals as goal

pub returns-in-Err-clause-told : goal.returns-in-Err-clause-told
returns-in-Err-clause-told g c w kept = (0, refl, omega arith, broke_none (item_of (asked_as c.args.asked) c.args.payload.now) c.args.self.now.volume)

pub returns-clause-told : goal.returns-clause-told
returns-clause-told g c w kept = (c.answer-attempt.result.made, counted_sum c.args.self.now.calls c.answer-attempt.result.made _ (omega arith) c.saturating_add-self.ensures, c.answer-attempt.ensures.steady.few, c.answer-attempt.ensures.told w kept)

pub returns-in-Err-clause-idle : goal.returns-in-Err-clause-idle
returns-in-Err-clause-idle g c none = (0, refl, omega arith, broke_none (item_of (asked_as c.args.asked) c.args.payload.now) c.args.self.now.volume)

pub returns-clause-idle : goal.returns-clause-idle
returns-clause-idle g c none = (c.answer-attempt.result.made, counted_sum c.args.self.now.calls c.answer-attempt.result.made _ (omega arith) c.saturating_add-self.ensures, c.answer-attempt.ensures.steady.few, c.answer-attempt.ensures.idle none)

pub returns-in-Err-clause-read : goal.returns-in-Err-clause-read
returns-in-Err-clause-read g c = clock_failed (asked_as c.args.asked) _ _ c.args.self.now.second c.read_clock.result c.in-Err.field-0 c.in-Err.is c.read_clock.ensures.read

pub returns-clause-read : goal.returns-clause-read
returns-clause-read g c = clock_read (asked_as c.args.asked) _ _ c.args.self.now.second c.in-Ok.second c.read_clock.result c.answer-attempt.result.ended c.in-Ok.is c.read_clock.ensures.read c.in-Ok.ensures.kept
