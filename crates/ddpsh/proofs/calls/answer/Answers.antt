use Rattle.std.proofs.Common.{refl}
use Rattle.cmdlet_line.specs.Lines.{refusal_of}
use Rattle.script_items.specs.Script.{Bad}
use Rattle.answer_text.specs.Answers.{Refused, refusal_text}
use Rattle.ddpsh.proofs.CallLaws.{comes_none, plain_exit}
use Rattle.ddpsh.proofs.calls.answer.Goals as goal

pub answer_line-requires-clause-fits : goal.answer_line-requires-clause-fits
answer_line-requires-clause-fits g c = rw c.in-Ok.is at c.requires.fits

pub returns-in-Err-clause-told : goal.returns-in-Err-clause-told
returns-in-Err-clause-told g c w kept =
    rw (c.in-Err.is, c.uncalled.ensures)
    (comes_none (Bad (refusal_of c.in-Err.fault)) c.args.volume.now (λ before. Refused (refusal_text (refusal_of c.in-Err.fault))) _ c.refused_line.result (λ s calls answer h. h) plain_exit refl c.refused_line.ensures.said)

pub returns-in-Ok-clause-told : goal.returns-in-Ok-clause-told
returns-in-Ok-clause-told g c w kept = rw c.in-Ok.is (c.answer_line.ensures.told w kept)

pub returns-in-Err-clause-idle : goal.returns-in-Err-clause-idle
returns-in-Err-clause-idle g c none =
    rw (c.in-Err.is, c.uncalled.ensures)
    (comes_none (Bad (refusal_of c.in-Err.fault)) c.args.volume.now (λ before. Refused (refusal_text (refusal_of c.in-Err.fault))) _ c.refused_line.result (λ s calls answer h. h) plain_exit refl c.refused_line.ensures.said)

pub returns-in-Ok-clause-idle : goal.returns-in-Ok-clause-idle
returns-in-Ok-clause-idle g c = rw c.in-Ok.is c.answer_line.ensures.idle

pub returns-in-Ok-clause-stays : goal.returns-in-Ok-clause-stays
returns-in-Ok-clause-stays g c = rw c.in-Ok.is c.answer_line.ensures.stays
