use Rattle.std.proofs.Common.{◌≡◌, ◌-◌, ◌≤◌, suc, ◌∷◌, ◌++◌, length, sym, ap, ◌∙◌, subst, arith}
use Rattle.std.proofs.lemmas.Result.{on_ok_weaker}
use Rattle.byte_map.specs.Words.{Map}
use Rattle.byte_map.specs.Blocks.{block_of, AllFilled}
use Rattle.byte_map.proofs.Joined.{block_read, filled_append}
use Rattle.byte_map.proofs.Edits.{at_last, before_last, pushed}
use Rattle.byte_map.proofs.blocks.push.Goals as goal

pub returns-then-index-lt-BLOCK_PAIRS-clause-ok : goal.returns-then-index-lt-BLOCK_PAIRS-clause-ok
returns-then-index-lt-BLOCK_PAIRS-clause-ok c =
    let blocks = c.args.blocks.now.items in
    let b = c.len-count.result - 1 in
    let i = c.len-index.result in
    let last : suc b ≡ length blocks = omega arith in
    let here = block_read blocks b c.index.result.now (omega (arith, last)) c.index.ensures in
    let long = ap (λ (x : Map). length x) here in
    let past : length (block_of blocks b) ≤ i = omega (arith, long, c.len-index.ensures.len) in
    on_ok_weaker c.insert_in.result
    (λ is. is ∙ (λ k. before_last blocks b i last past k ++ (c.args.pair ∷ at_last blocks b i last past k)))
    c.insert_in.ensures.ok

pub returns-clause-ok : goal.returns-clause-ok
returns-clause-ok c = pushed c.args.blocks.now.items c.push.new.self.items c.in_ok-of.field-0 c.args.pair c.in_ok-push.ensures.items c.in_ok-of.ensures

pub returns-clause-filled : goal.returns-clause-filled
returns-clause-filled c =
    let long = ap (λ (x : Map). length x) c.in_ok-of.ensures in
    subst AllFilled (sym c.in_ok-push.ensures.items) (filled_append c.args.blocks.now.items _ c.requires (omega (arith, long), tt))
