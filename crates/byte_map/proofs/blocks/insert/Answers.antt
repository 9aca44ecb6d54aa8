use Rattle.std.proofs.Common.{◌≤◌, ◌∙◌, ◌∷◌, ◌++◌, length, sym, arith}
use Rattle.std.proofs.lemmas.Result.{on_ok_weaker, on_err_weaker}
use Rattle.byte_map.proofs.Joined.{rest_end, before_end}
use Rattle.byte_map.proofs.Edits.{same_joined}
use Rattle.byte_map.proofs.blocks.insert.Goals as goal

pub returns-then-place-len-clause-ok : goal.returns-then-place-len-clause-ok
returns-then-place-len-clause-ok c =
    let blocks = c.args.blocks.now.items in
    let b = c.args.place.block in
    let out : length blocks ≤ b = omega arith in
    let front = sym (before_end blocks b c.args.place.index out) in
    let back = sym (rest_end blocks b c.args.place.index out) in
    on_ok_weaker c.push.result (λ is. is ∙ (λ k. front k ++ (c.args.pair ∷ back k))) c.push.ensures.ok

pub returns-clause-err : goal.returns-clause-err
returns-clause-err c =
    let to = c.in_ok-place.place in
    on_err_weaker c.insert_in.result
    (λ is. is ∙ same_joined c.args.blocks.now.items c.args.place.block c.args.place.index c.make_room.new.blocks.items to.block to.index c.in_ok-place.ensures.same)
    c.insert_in.ensures.err
