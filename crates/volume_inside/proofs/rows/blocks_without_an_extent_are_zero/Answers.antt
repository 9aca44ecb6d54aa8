use Rattle.std.proofs.Common.{refl}
use Rattle.volume_inside.specs.Bases.{base_cell}
use Rattle.volume_inside.proofs.rows.blocks_without_an_extent_are_zero.Goals as goal

pub returns-clause-first : goal.returns-clause-first
unfolding base_cell
returns-clause-first c = refl
