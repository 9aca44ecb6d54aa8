use Rattle.std.proofs.Common.{◌+◌, ◌*◌, ℕ, List, get_or, ◌∙◌, ap}
use Rattle.volume_files.specs.Writing.{laid}
use Rattle.volume_files.proofs.EdgeBytes.{edge_first, edge_last}
use Rattle.volume_files.proofs.block.block_with.Goals as goal
use Rattle.volume_files.proofs.block.block_with.Goals.{then-index-at, else-index-at}

pub returns : goal.returns
returns c o low =
    let edges = c.args.edges.now in
    let at = c.args.at in
    let index = c.args.index in
    c.lay_over.ensures o low
    ∙ ap (λ (x : ℕ). laid at c.args.bytes.now (4096 * index + o) x) (elim c.if-index-at.branch [
      | then-index-at w ↦ ap (λ (b : List ℕ). get_or b o 0) w.block-is
          ∙ edge_first edges at index o low w.if-index-at.true
      | else-index-at w ↦ ap (λ (b : List ℕ). get_or b o 0) w.block-is
          ∙ edge_last edges at index o low w.if-index-at.false
    ])
