use Rattle.std.proofs.Common.{refl}
use Rattle.script_items.specs.Input.{ahead}
use Rattle.script_items.proofs.input.Input.ahead.Goals as goal

pub returns-clause-bytes : goal.returns-clause-bytes
unfolding ahead
returns-clause-bytes c = rw c.deref.ensures.value refl
