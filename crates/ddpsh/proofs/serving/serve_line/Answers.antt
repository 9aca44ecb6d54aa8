use Rattle.std.proofs.Common.{refl, inl, inr}
use Rattle.cmdlet_line.specs.Lines.{line_of}
use Rattle.script_items.specs.Script.{item_of}
use Rattle.ddpsh.proofs.LineOfLaws.{step_line_as, step_none}
use Rattle.ddpsh.proofs.serving.serve_line.Goals as goal

pub returns-then-is_err-clause-told : goal.returns-then-is_err-clause-told
returns-then-is_err-clause-told g c w kept =
    step_none (item_of (line_of c.args.session.now.text c.args.line.now) c.args.payload.now) c.args.session.now _ c.args.acks.now.items c.reserve.new.self.items c.reserve.ensures.items

pub returns-clause-told : goal.returns-clause-told
returns-clause-told g c w kept =
    step_line_as (item_of (line_of c.args.session.now.text c.args.line.now) c.args.payload.now) c.args.session.now c.line-answered.new.self _ _ c.line-answered.result
    c.args.acks.now.items c.reserve.new.self.items c.keep.new.acks.items c.ack.result (c.line-answered.ensures.told w kept) c.reserve.ensures.items c.ack.ensures c.keep.ensures

pub returns-then-is_err-clause-read : goal.returns-then-is_err-clause-read
returns-then-is_err-clause-read g c = inr (refl, refl)

pub returns-clause-read : goal.returns-clause-read
returns-clause-read g c = inl c.line-answered.ensures.read
