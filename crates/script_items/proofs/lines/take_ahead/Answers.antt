use Rattle.std.proofs.Common.{subst, ◌∙◌, ap, take, drop, length, ◌++◌}
use Rattle.script_items.specs.Input.{ahead}
use Rattle.script_items.specs.Reading.{IsNewlineAt, HasNoNewline}
use Rattle.script_items.proofs.LineLaws.{front_more, front_whole}
use Rattle.script_items.proofs.lines.take_ahead.Goals as goal

pub returns-in-Some-clause-line : goal.returns-in-Some-clause-line
returns-in-Some-clause-line c source total bytes so =
    front_whole c.args.input.now _ source total c.in-Some.place bytes _ _ so (subst (λ xs. IsNewlineAt xs c.in-Some.place) c.ahead-bytes.ensures.bytes c.in-Some.ensures)
    (c.keep.ensures.kept ∙ ap (λ xs. take 4098 (c.args.line.now.items ++ take c.in-Some.place xs)) c.ahead-bytes.ensures.bytes) c.pass.ensures.bytes c.pass.ensures.came

pub returns-in-None-clause-line : goal.returns-in-None-clause-line
returns-in-None-clause-line c source total bytes so =
    front_more c.args.input.now _ source total bytes _ _ so (subst (λ xs. HasNoNewline xs) c.ahead-bytes.ensures.bytes c.in-None.ensures)
    (c.keep-in-None.ensures.kept ∙ ap (λ xs. take 4098 (c.args.line.now.items ++ xs)) c.ahead-bytes.ensures.bytes)
    (c.pass-in-None.ensures.bytes ∙ ap (λ xs. drop (length xs) (ahead c.args.input.now)) c.ahead-bytes.ensures.bytes) c.pass-in-None.ensures.came
