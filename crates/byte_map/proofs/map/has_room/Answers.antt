use Rattle.std.proofs.Common.{◌+◌, ◌∙◌, ℕ, List, [], Result, length, get_or, ap, subst, IfOk, IfErr, arith}
use Rattle.std.proofs.lemmas.Bool.{le-leb, leb-true}
use Rattle.byte_map.specs.declared.place.Place.{Place}
use Rattle.byte_map.specs.Words.{Map}
use Rattle.byte_map.specs.Laws.{bytes_with_put_new, bytes_with_put_present}
use Rattle.byte_map.specs.Blocks.{value_at, IsHeld, IsGap}
use Rattle.byte_map.specs.Blocks.{joined}
use Rattle.byte_map.proofs.Joined.{block_read}
use Rattle.byte_map.proofs.Found.{find_held, value_within}
use Rattle.byte_map.proofs.map.has_room.Goals as goal

pub overflow_add-result : goal.overflow_add-result
overflow_add-result c =
    let blocks = c.args.blocks.now in
    let place = c.in-Ok.place in
    let held = subst (λ (r : Result Place Place). IfOk r (λ p. IsHeld blocks c.args.key.now p.block p.index)) c.in-Ok.is c.requires.held in
    let here = block_read blocks place.block c.index-blocks-place.result held.block c.index-blocks-place.is in
    let value = c.value.ensures ∙ ap (λ (e : List ℕ × List ℕ). e.1) (c.at.ensures ∙ ap (λ (x : Map). get_or x place.index ([], [])) here) in
    let long = ap (length {A = ℕ}) value in
    omega (arith, c.requires.fits, value_within blocks c.args.key.now place.block place.index held, long)

pub returns-in-Ok : goal.returns-in-Ok
returns-in-Ok c =
    let blocks = c.args.blocks.now in
    let place = c.in-Ok.place in
    let held = subst (λ (r : Result Place Place). IfOk r (λ p. IsHeld blocks c.args.key.now p.block p.index)) c.in-Ok.is c.requires.held in
    let here = block_read blocks place.block c.index-blocks-place.result held.block c.index-blocks-place.is in
    let value = c.value.ensures ∙ ap (λ (e : List ℕ × List ℕ). e.1) (c.at.ensures ∙ ap (λ (x : Map). get_or x place.index ([], [])) here) in
    let long = ap (length {A = ℕ}) value in
    let bytes = bytes_with_put_present c.args.each c.args.key.now c.args.value.now (value_at blocks place.block place.index) (joined blocks)
    c.requires.sorted (find_held blocks c.args.key.now place.block place.index held) in
    let old = c.value.result.now in (
      (λ fits. let low = leb-true (length c.args.value.now) (c.args.room + length old) fits in omega (arith, low, long, bytes)),
      (λ fits. le-leb (length c.args.value.now) (c.args.room + length old) (omega (arith, fits, long, bytes))),
    )

pub returns-in-Err : goal.returns-in-Err
returns-in-Err c =
    let blocks = c.args.blocks.now in
    let place = c.in-Err.field-0 in
    let gap = subst (λ (r : Result Place Place). IfErr r (λ p. IsGap blocks c.args.key.now p.block p.index)) c.in-Err.is c.requires.gap in
    let bytes = bytes_with_put_new c.args.each c.args.key.now c.args.value.now (joined blocks) c.requires.sorted gap.absent in
    ((λ fits. omega (arith, c.fits_in.ensures.0 fits, bytes)), (λ fits. c.fits_in.ensures.1 (omega (arith, fits, bytes))))
