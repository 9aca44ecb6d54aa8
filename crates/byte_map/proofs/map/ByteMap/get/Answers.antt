use Rattle.std.proofs.Common.{◌∙◌, ℕ, List, [], Some, get_or, ap, sym, subst}
use Rattle.std.specs.FinMap.Entries.{find}
use Rattle.byte_map.specs.Words.{Map, bytes_cmp}
use Rattle.byte_map.specs.Blocks.{IsHeld}
use Rattle.byte_map.proofs.Joined.{block_read}
use Rattle.byte_map.proofs.Found.{find_held}
use Rattle.byte_map.proofs.map.ByteMap.get.Goals as goal

pub returns-in-Ok-clause-value : goal.returns-in-Ok-clause-value
returns-in-Ok-clause-value c =
    let blocks = c.self.inside.blocks.items in
    let place = c.in-Ok.place in
    let held = subst (λ (s : List Map). IsHeld s c.args.key.now place.block place.index) c.deref.ensures.value c.in-Ok.ensures.held in
    let here = block_read blocks place.block c.index.result.now held.block c.index.ensures in
    ap (λ (v : List ℕ). Some v) (c.value.ensures ∙ ap (λ (e : List ℕ × List ℕ). e.1) (c.at.ensures ∙ ap (λ (x : Map). get_or x place.index ([], [])) here))
    ∙ sym (find_held blocks c.args.key.now place.block place.index held)
    ∙ ap (find bytes_cmp c.args.key.now) c.self.view_is
