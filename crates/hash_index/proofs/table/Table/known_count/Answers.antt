use Rattle.std.proofs.Common.{◌≡◌, ◌≤◌, ◌<◌, ◌*◌, ℕ, length, get_or, count_by, is_some, cond, true, false, arith, rules, sym, ◌∙◌, ap}
use Rattle.std.proofs.lemmas.List.{get_or_default}
use Rattle.hash_index.specs.Probe.{is_used}
use Rattle.hash_index.proofs.SlotLaws.{counted_known, half_known}
use Rattle.hash_index.proofs.table.Table.known_count.Goals as goal
use Rattle.hash_index.proofs.table.Table.known_count.Goals.{then-is_some, else-is_some}

pub loop-cell-preserved : goal.loop-cell-preserved
loop-cell-preserved g c =
    let lt : c.loop-cell.cell-index < length c.deref-cell-items.result.now = omega arith in
    let at : get_or c.deref-cell-items.result.now c.loop-cell.cell-index 0 ≡ c.id.result =
    get_or_default c.deref-cell-items.result.now c.loop-cell.cell-index 0 c.cell-item.result lt ∙ (sym c.cell-item.is ∙ sym c.id.ensures.value) in
    let counted = counted_known (g.T.Digests.digest_of c.args.tells.now) c.deref-cell-items.result.now c.loop-cell.cell-index c.id.result c.loop-cell.known
    c.known_digest.result lt at c.known_digest.ensures.pair c.loop-cell.invariant.counted in
    elim c.if-is_some.branch [
      | then-is_some w ↦
          (let test : is_some c.known_digest.result ≡ true = search rules in
          let one : cond {A = ℕ} (is_some c.known_digest.result) 1 0 ≡ 1 = ap (λ b. cond {A = ℕ} b 1 0) test in
          record { bound = omega arith; items = c.loop-cell.invariant.items; counted = omega arith })
      | else-is_some w ↦
          (let test : is_some c.known_digest.result ≡ false = search rules in
          let none : cond {A = ℕ} (is_some c.known_digest.result) 1 0 ≡ 0 = ap (λ b. cond {A = ℕ} b 1 0) test in
          record { bound = omega arith; items = c.loop-cell.invariant.items; counted = omega arith })
    ]

pub returns-clause-half : goal.returns-clause-half
returns-clause-half g c =
    let used_is : count_by is_used c.deref-cell-items.result.now ≡ c.self.inside.used = rw c.deref-cell-items.ensures.value c.self.invariant.0 in
    let half : 2 * c.self.inside.used ≤ length c.deref-cell-items.result.now = rw c.deref-cell-items.ensures.value c.self.invariant.1 in
    rw (← c.loop-cell.invariant.items)
    (half_known (g.T.Digests.digest_of c.args.tells.now) c.deref-cell-items.result.now c.loop-cell.cell-index c.self.inside.used c.loop-cell.known
    c.loop-cell.invariant.counted used_is half)
