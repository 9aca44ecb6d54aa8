use Rattle.byte_map.proofs.Joined.{rest_all}
use Rattle.byte_map.proofs.walk.Walk.over.Goals as goal

pub returns : goal.returns
returns c = rest_all c.args.blocks.now
