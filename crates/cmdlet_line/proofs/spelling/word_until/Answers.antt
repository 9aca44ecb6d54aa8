use Rattle.std.proofs.Common.{rules}
use Rattle.cmdlet_line.proofs.WordLaws.{ends_at, ends_nowhere}
use Rattle.cmdlet_line.proofs.spelling.word_until.Goals as goal

pub returns-in-Some : goal.returns-in-Some
returns-in-Some c = ends_at c.args.end c.in-Some.at c.args.text.now (search rules)

pub returns-in-None : goal.returns-in-None
returns-in-None c = ends_nowhere c.args.end c.args.text.now (search rules)
