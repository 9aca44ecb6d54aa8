use Rattle.std.proofs.Common.{◌≡◌, length, rules}
use Rattle.volume_files.proofs.Overwritten.{laid_over_part}
use Rattle.volume_files.proofs.block.lay_over.Goals as goal

pub returns : goal.returns
returns c o low =
    let whole : length c.args.block.now ≡ 4096 = search rules in
    laid_over_part c.args.block.now c.args.bytes.now c.args.start c.args.at c.saturating_sub-from.result
    c.saturating_sub-skipped.result c.min-count.result whole
    c.saturating_sub-from.ensures c.saturating_sub-skipped.ensures c.min-count.ensures c.requires.before
    c.requires.behind c.put_part.new.block c.put_part.ensures o low
