use Rattle.volume_inside.proofs.BaseAppended.{length-content}
use Rattle.volume_inside.proofs.base_laws.containers_hold_the_bytes_that_are_used.Goals as goal

pub returns : goal.returns
returns c = length-content
