use Rattle.vdisk.proofs.Past.{mix_left}
use Rattle.vdisk.proofs.laws.a_write_may_tear_at_every_byte.Goals as goal

pub returns : goal.returns
returns c = mix_left
