use Rattle.plain_volume.proofs.Answers.{taker_lacks}
use Rattle.plain_volume.proofs.laws.only_takers_lack_memory.Goals as goal

pub returns : goal.returns
returns c = taker_lacks
