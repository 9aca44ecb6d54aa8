use Rattle.std.proofs.Common.{subst, ◌∙◌, ap, drop, length}
use Rattle.script_items.specs.Input.{ahead}
use Rattle.script_items.specs.Reading.{IsNewlineAt, HasNoNewline}
use Rattle.script_items.proofs.LineLaws.{passed_more, passed_whole}
use Rattle.script_items.proofs.lines.pass_ahead.Goals as goal

pub returns-in-Some-clause-left : goal.returns-in-Some-clause-left
returns-in-Some-clause-left c source total bytes so =
    passed_whole c.args.input.now _ source total c.in-Some.place bytes so (subst (λ xs. IsNewlineAt xs c.in-Some.place) c.ahead-bytes.ensures.bytes c.in-Some.ensures) c.pass.ensures.bytes c.pass.ensures.came

pub returns-in-None-clause-left : goal.returns-in-None-clause-left
returns-in-None-clause-left c source total bytes so =
    passed_more c.args.input.now _ source total bytes so (subst (λ xs. HasNoNewline xs) c.ahead-bytes.ensures.bytes c.in-None.ensures)
    (c.pass-in-None.ensures.bytes ∙ ap (λ xs. drop (length xs) (ahead c.args.input.now)) c.ahead-bytes.ensures.bytes) c.pass-in-None.ensures.came
