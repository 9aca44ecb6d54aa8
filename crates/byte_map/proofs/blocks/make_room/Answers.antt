use Rattle.std.proofs.Common.{◌≡◌, ◌+◌, ◌-◌, ℕ, List, suc, length, sym, ap, subst, arith}
use Rattle.byte_map.specs.Words.{Map}
use Rattle.byte_map.specs.Blocks.{AllFilled, HasRoom, SameParts}
use Rattle.byte_map.proofs.Joined.{block_read, split_parts_low, split_parts_high}
use Rattle.byte_map.proofs.Edits.{room_low, room_high, filled_halves}
use Rattle.byte_map.proofs.blocks.make_room.Goals as goal

pub returns-then-place-le-HALF-clause-ok : goal.returns-then-place-le-HALF-clause-ok
returns-then-place-le-HALF-clause-ok c =
    let blocks = c.args.blocks.now.items in
    let b = c.args.place.block in
    let long = ap (λ (x : Map). length x) (block_read blocks b c.index.result.now c.requires.block c.index.ensures) in
    subst (λ (new : List Map). HasRoom new b c.args.place.index) (sym c.in_ok-split.ensures.ok)
    (room_low blocks b c.requires.block (omega (arith, long, c.len.ensures.len, c.if-len-lt-BLOCK_PAIRS.false)) (omega (arith, long, c.len.ensures.few)) c.args.place.index c.if-place-le-HALF.true)

pub returns-then-place-le-HALF-clause-same : goal.returns-then-place-le-HALF-clause-same
returns-then-place-le-HALF-clause-same c =
    let blocks = c.args.blocks.now.items in
    let b = c.args.place.block in
    subst (λ (new : List Map). SameParts blocks b c.args.place.index new b c.args.place.index) (sym c.in_ok-split.ensures.ok)
    (split_parts_low blocks b 64 c.args.place.index c.requires.block c.if-place-le-HALF.true)

pub returns-then-place-le-HALF-clause-filled : goal.returns-then-place-le-HALF-clause-filled
returns-then-place-le-HALF-clause-filled c =
    let blocks = c.args.blocks.now.items in
    let b = c.args.place.block in
    let long = ap (λ (x : Map). length x) (block_read blocks b c.index.result.now c.requires.block c.index.ensures) in
    subst AllFilled (sym c.in_ok-split.ensures.ok)
    (filled_halves blocks b c.requires.block (omega (arith, long, c.len.ensures.len, c.if-len-lt-BLOCK_PAIRS.false)) (omega (arith, long, c.len.ensures.few)) c.requires.filled)

pub returns-clause-ok : goal.returns-clause-ok
returns-clause-ok c =
    let blocks = c.args.blocks.now.items in
    let b = c.args.place.block in
    let long = ap (λ (x : Map). length x) (block_read blocks b c.index.result.now c.requires.block c.index.ensures) in
    let next : suc b ≡ b + 1 = omega arith in
    subst (λ (n : ℕ). HasRoom c.split.new.blocks.items n (c.args.place.index - 64)) next
    (subst (λ (new : List Map). HasRoom new (suc b) (c.args.place.index - 64)) (sym c.in_ok-split.ensures.ok)
    (room_high blocks b c.requires.block (omega (arith, long, c.len.ensures.len, c.if-len-lt-BLOCK_PAIRS.false)) (omega (arith, long, c.len.ensures.few)) c.args.place.index c.requires.index (omega (arith, c.if-place-le-HALF.false))))

pub returns-clause-same : goal.returns-clause-same
returns-clause-same c =
    let blocks = c.args.blocks.now.items in
    let b = c.args.place.block in
    let next : suc b ≡ b + 1 = omega arith in
    subst (λ (n : ℕ). SameParts blocks b c.args.place.index c.split.new.blocks.items n (c.args.place.index - 64)) next
    (subst (λ (new : List Map). SameParts blocks b c.args.place.index new (suc b) (c.args.place.index - 64)) (sym c.in_ok-split.ensures.ok)
    (split_parts_high blocks b 64 c.args.place.index c.requires.block (omega (arith, c.if-place-le-HALF.false))))

pub returns-clause-filled : goal.returns-clause-filled
returns-clause-filled c =
    let blocks = c.args.blocks.now.items in
    let b = c.args.place.block in
    let long = ap (λ (x : Map). length x) (block_read blocks b c.index.result.now c.requires.block c.index.ensures) in
    subst AllFilled (sym c.in_ok-split.ensures.ok)
    (filled_halves blocks b c.requires.block (omega (arith, long, c.len.ensures.len, c.if-len-lt-BLOCK_PAIRS.false)) (omega (arith, long, c.len.ensures.few)) c.requires.filled)
