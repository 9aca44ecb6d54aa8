use Rattle.std.proofs.Common.{arith}
use Rattle.script_items.proofs.LineLaws.{kept_more}
use Rattle.script_items.proofs.lines.keep.Goals as goal

pub returns-clause-kept : goal.returns-clause-kept
returns-clause-kept c =
    rw (c.extend_from_slice.ensures.items, c.unwrap.ensures, c.min-count.ensures) (kept_more c.args.line.now.items c.args.bytes.now _ (omega (arith, c.args.line.now.ok)) (omega (arith, c.args.line.now.ok, c.len-left.ensures)))
