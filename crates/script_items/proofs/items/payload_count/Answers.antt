use Rattle.std.proofs.Common.{subst}
use Rattle.cmdlet_line.specs.declared.lines.Line.{Line}
use Rattle.cmdlet_line.specs.Lines.{ask_of}
use Rattle.cmdlet_line.specs.Spelled.{AreInRange}
use Rattle.script_items.specs.Script.{volume_text}
use Rattle.script_items.proofs.items.payload_count.Goals as goal

pub returns-in-Ok-Write-clause-few : goal.returns-in-Ok-Write-clause-few
returns-in-Ok-Write-clause-few c =
    (subst (λ (line : Line). AreInRange (ask_of line)) c.in-Ok-Write.field-0-is
    (c.what_is_asked_is_in_range.ensures volume_text c.args.line.now (ask_of c.in-Ok-Write.field-0) c.in-Ok-Write.ensures)).1
