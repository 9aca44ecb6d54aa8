use Rattle.std.proofs.Common.{◌∙◌}
use Rattle.volume_tables.specs.Tables.{tables_now, disk_of}
use Rattle.volume_files.proofs.BlockSet.{readable}
use Rattle.volume_files.proofs.EdgeBytes.{named_byte}
use Rattle.volume_files.proofs.Overwritten.{zeros_are_zero}
use Rattle.volume_files.proofs.edges.read_edge.Goals as goal

pub read_block-requires-clause-readable : goal.read_block-requires-clause-readable
read_block-requires-clause-readable g c =
    let t = c.args.tables.now in
    readable t.clusters (tables_now t) (c.args.file, c.args.index) c.get_extent-was.result c.requires.rules.extents
    c.get_extent-was.ensures

pub read_block-requires-clause-zeros : goal.read_block-requires-clause-zeros
read_block-requires-clause-zeros g c o = zeros_are_zero 4096 o

pub returns-then-fills-clause-bytes : goal.returns-then-fills-clause-bytes
returns-then-fills-clause-bytes g c stored is unfilled o low = absurd (unfilled (c.fills.ensures.0 c.if-fills.true))

pub returns-clause-bytes : goal.returns-clause-bytes
returns-clause-bytes g c stored is unfilled o low =
    let t = c.args.tables.now in
    c.in_ok-read_block.ensures.bytes stored is o low
    ∙ named_byte (tables_now t) (disk_of t).image c.args.file c.args.index o c.get_extent-was.result
    c.get_extent-was.ensures low
