use Rattle.volume_core.proofs.Moving.{wears_last}
use Rattle.volume_core.specs.Volumes.{tables_of}
use Rattle.volume_core.proofs.laws.volumes_wear_at_the_last_epoch.Goals as goal

pub returns : goal.returns
returns g c wears = wears_last (tables_of c.args.volume.now) wears
