use Rattle.ddpsh.proofs.OpenLaws.{is_other}
use Rattle.ddpsh.proofs.opening.end_of_refusal.Goals as goal

pub refused_mount-requires : goal.refused_mount-requires
refused_mount-requires c = is_other c.args.fault c.in_default.not-Failed c.in_default.not-Memory
