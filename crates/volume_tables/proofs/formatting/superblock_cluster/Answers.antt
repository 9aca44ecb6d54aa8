use Rattle.std.proofs.Common.{◌≡◌, arith, length, rules}
use Rattle.volume_tables.proofs.Committed.{cluster_is}
use Rattle.volume_tables.proofs.formatting.superblock_cluster.Goals as goal

pub returns-clause-is : goal.returns-clause-is
returns-clause-is c =
    let text = c.extend_from_slice.new.self.items in
    let same : text ≡ c.write_superblock.result = search rules in
    let short : length text ≡ 44 = search rules in
    cluster_is c.args.clusters _ c.write_superblock.result text c.resize.new.self.items c.write_superblock.ensures.is
    same (omega (arith, short)) c.in_ok-resize.ensures.items
