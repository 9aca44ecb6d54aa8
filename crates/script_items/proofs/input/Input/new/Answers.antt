use Rattle.std.proofs.Common.{rules}
use Rattle.script_items.specs.Input.{ahead}
use Rattle.script_items.proofs.input.Input.new.Goals as goal

pub returns-clause-none : goal.returns-clause-none
unfolding ahead
returns-clause-none c = search rules
