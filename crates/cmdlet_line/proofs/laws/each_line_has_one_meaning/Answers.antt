use Rattle.std.proofs.Common.{sym}
use Rattle.cmdlet_line.specs.Lines.{line_of}
use Rattle.cmdlet_line.proofs.laws.each_line_has_one_meaning.Goals as goal

pub returns : goal.returns
returns c = λ volume line. (line_of volume line, λ other. (λ is. sym is, λ is. sym is))
