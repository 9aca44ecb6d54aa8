-- The cells of a file that its base has to give.
use Rattle.std.specs.Prelude.{◌≡◌, ◌<◌, ◌/◌, ◌↔◌, ℕ, None}
use Rattle.std.proofs.Common.{sym, ◌∙◌, ap}
use Rattle.std.specs.FinMap.{find}
use Rattle.table_records.specs.Keys.{pair_cmp}
use Rattle.volume_inside.specs.declared.layout.TheConstants.{CLUSTER_BYTES}
use Rattle.volume_inside.specs.Typed.{Typed}

-- the base covers the place, and the block has no extent
abbrev pub IsHole : Typed → ℕ → ℕ → ℕ → Type 0
IsHole t id covers p = (p < covers) × (find pair_cmp (id, p / CLUSTER_BYTES) t.extents ≡ None)

-- calls that leave the tables leave the holes
pub same_hole : (t u : Typed) → u ≡ t → (id covers p : ℕ) → IsHole t id covers p ↔ IsHole u id covers p
same_hole t u is id covers p =
    let there = ap (λ (v : Typed). find pair_cmp (id, p / CLUSTER_BYTES) v.extents) is in
    (λ hole. (hole.0, there ∙ hole.1), λ hole. (hole.0, sym there ∙ hole.1))
