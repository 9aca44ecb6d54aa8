use Rattle.std.proofs.Common.{◌+◌, length}
use Rattle.volume_files.specs.Writing.{blocks_up_to}
use Rattle.volume_files.proofs.blocks.+write_blocks.Given as goal

abbrev pub decreases-write_blocks : goal.decreases-write_blocks
decreases-write_blocks g l = blocks_up_to (l.at + length l.bytes.now) l.index
