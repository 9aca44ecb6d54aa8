use Rattle.std.proofs.Common.{ℕ}
use Rattle.volume_inside.specs.Superblock.{IsSuperblock, HasSuperblock}
use Rattle.volume_tables.proofs.Fronts.{superblock_here, superblock_there, some_then, none_then}
use Rattle.volume_tables.proofs.front.read_clusters.Goals as goal

pub returns-clause-some : goal.returns-clause-some
returns-clause-some g c told =
    let image = (g.D.Disk.state c.args.disk.now).image in
    let bytes = c.read.new.out in
    some_then c.read_superblock.result (λ n. IsSuperblock n bytes) (λ n. HasSuperblock n image)
    (λ n is. superblock_here n bytes image (c.in_ok-read.ensures.bytes told) c.requires is)
    c.read_superblock.ensures.some

pub returns-clause-none : goal.returns-clause-none
returns-clause-none g c told =
    let image = (g.D.Disk.state c.args.disk.now).image in
    let bytes = c.read.new.out in
    none_then c.read_superblock.result ((n : ℕ) → IsSuperblock n bytes → ⊥) ((n : ℕ) → HasSuperblock n image → ⊥)
    (λ never n has. never n (superblock_there n bytes image (c.in_ok-read.ensures.bytes told) has))
    c.read_superblock.ensures.none
