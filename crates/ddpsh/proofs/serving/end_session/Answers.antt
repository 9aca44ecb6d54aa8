use Rattle.ddpsh.proofs.LineOfLaws.{step_end_as, step_end_none}
use Rattle.ddpsh.proofs.serving.end_session.Goals as goal

pub returns-then-is_err-clause-told : goal.returns-then-is_err-clause-told
returns-then-is_err-clause-told g c w kept = step_end_none c.args.session.now c.args.acks.now.items c.reserve.new.self.items c.reserve.ensures.items

pub returns-clause-told : goal.returns-clause-told
returns-clause-told g c w kept =
    step_end_as c.args.session.now c.end-ended.new.self c.end-ended.result c.end_of_session.result c.args.acks.now.items c.reserve.new.self.items c.keep.new.acks.items c.ack.result
    (c.end-ended.ensures.told w kept) c.end_of_session.ensures c.reserve.ensures.items c.ack.ensures c.keep.ensures
