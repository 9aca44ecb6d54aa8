use Rattle.volume_core.proofs.Bounds.{spent}
use Rattle.volume_core.proofs.laws.what_is_wanting_is_spent.Goals as goal

pub returns : goal.returns
returns g c b i call fault has is = spent c.args.volume.now b i has call fault is
