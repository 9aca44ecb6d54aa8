use Rattle.meta_log.proofs.Lives.{meta_same}
use Rattle.meta_log.proofs.laws.halves_tell_the_map.Goals as goal

pub returns : goal.returns
returns c at half x y same = meta_same at half x y same
