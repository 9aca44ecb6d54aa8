use Rattle.std.proofs.Common.{◌≡◌, ℕ, ◌+◌, length, suc, ◌∙◌, ap, sym, refl, arith}
use Rattle.byte_map.specs.Words.{Map}
use Rattle.byte_map.specs.Blocks.{rest}
use Rattle.byte_map.proofs.Joined.{block_read, rest_next, filled_at}
use Rattle.byte_map.proofs.blocks.next_place.Goals as goal

pub returns-then-place-count-clause-place : goal.returns-then-place-count-clause-place
returns-then-place-count-clause-place c =
    let here = block_read c.args.blocks.now c.args.place.block c.index-blocks-place.result c.requires.pair c.index-blocks-place.is in
    let long = ap (λ (x : Map). length x) here in
    record {
      within = c.requires.place.within;
      inside = λ _. omega (arith, long, c.len-count.ensures.len, c.if-place-count.true);
      end = λ is. absurd (omega (arith, is, c.requires.pair));
    }

pub returns-else-place-count-clause-place : goal.returns-else-place-count-clause-place
returns-else-place-count-clause-place c = record {
  within = omega (arith, c.requires.pair);
  inside = λ more. filled_at c.args.blocks.now (c.args.place.block + 1) c.requires.filled more;
  end = λ _. refl;
}

pub returns-else-place-count-clause-rest : goal.returns-else-place-count-clause-rest
returns-else-place-count-clause-rest c =
    let here = block_read c.args.blocks.now c.args.place.block c.index-blocks-place.result c.requires.pair c.index-blocks-place.is in
    let long = ap (λ (x : Map). length x) here in
    let next : suc c.args.place.block ≡ c.args.place.block + 1 = omega arith in
    sym (rest_next c.args.blocks.now c.args.place.block (c.args.place.index + 1) c.requires.pair (omega (arith, long, c.len-count.ensures.len, c.if-place-count.false))
    ∙ ap (λ (b : ℕ). rest c.args.blocks.now b 0) next)
