use Rattle.std.proofs.Common.{sym, ◌∙◌}
use Rattle.byte_map.proofs.Search.{ends_at}
use Rattle.byte_map.proofs.block.Block.ends_below.Goals as goal

pub returns-in-Some : goal.returns-in-Some
returns-in-Some c =
    let item = c.in-Some.ensures.item in
    rw (← c.self.view_is, ← c.deref.ensures.value) (c.is_below.ensures ∙ sym (ends_at c.args.key.now c.deref.result.now c.in-Some.pair.now item.3.0 item.1))
