-- A walk over a list of entries.
use Rattle.std.specs.Prelude.{◌≡◌, ◌+◌, ℕ, zero, suc, All, List, [], ◌∷◌, length}
use Rattle.std.proofs.Common.{◌∙◌, subst, arith}
use Rattle.stream_map.specs.declared.entry.Entry.{Entry}
use Rattle.stream_map.specs.Pieces.{total_length}
use Rattle.stream_map.specs.Walks.{IsLawful, Walked, Walks, after, walk_of}

abbrev end_of : Walked → List Entry → Walked
end_of from es = record { total = from.total; count = from.count + length es; covered = from.covered + total_length es }

all_of : (e : Entry) (es : List Entry) → IsLawful e → All IsLawful es → All IsLawful (e ∷ es)
all_of e es here rest zero d low = here
all_of e es here rest (suc k) d low = rest k d (omega (arith, low))

all_behind : (e : Entry) (es : List Entry) → All IsLawful (e ∷ es) → All IsLawful es
all_behind e es all k d low = all (suc k) d (omega (arith, low))

same_end : (from : Walked) (e : Entry) (es : List Entry) → end_of (after from e) es ≡ end_of from (e ∷ es)
same_end from e es =
    let count : from.count + 1 + length es ≡ from.count + suc (length es) = omega arith in
    let covered : from.covered + e.length + total_length es ≡ from.covered + (e.length + total_length es) = omega arith in
    λ i. record { total = from.total; count = count i; covered = covered i }

pub walks_lawful : (from : Walked) (es : List Entry) (to : Walked) → Walks from es to → All IsLawful es
walks_lawful from [] to is = λ k d low. absurd (omega (arith, low))
walks_lawful from (e ∷ es) to is = all_of e es is.0 (walks_lawful (after from e) es to is.1)

pub walks_end : (from : Walked) (es : List Entry) (to : Walked) → Walks from es to
    → to ≡ record { total = from.total; count = from.count + length es; covered = from.covered + total_length es }
walks_end from [] to is =
    let count : from.count ≡ from.count + 0 = omega arith in
    let covered : from.covered ≡ from.covered + 0 = omega arith in
    is ∙ (λ i. record { total = from.total; count = count i; covered = covered i })
walks_end from (e ∷ es) to is = walks_end (after from e) es to is.1 ∙ same_end from e es

pub walks_accepted : (from : Walked) (es : List Entry) → All IsLawful es
    → Walks from es (record { total = from.total; count = from.count + length es; covered = from.covered + total_length es })
walks_accepted from [] all =
    let count : from.count + 0 ≡ from.count = omega arith in
    let covered : from.covered + 0 ≡ from.covered = omega arith in
    λ i. record { total = from.total; count = count i; covered = covered i }
walks_accepted from (e ∷ es) all =
    (all 0 e (omega arith), subst (λ (to : Walked). Walks (after from e) es to) (same_end from e es) (walks_accepted (after from e) es (all_behind e es all)))

same_whole : (total : ℕ) (es : List Entry) → end_of (walk_of total) es ≡ record { total = total; count = length es; covered = total_length es }
same_whole total es =
    let count : 0 + length es ≡ length es = omega arith in
    let covered : 0 + total_length es ≡ total_length es = omega arith in
    λ i. record { total = total; count = count i; covered = covered i }

pub whole_walk : (total : ℕ) (es : List Entry) (to : Walked) → Walks (walk_of total) es to
    → to ≡ record { total = total; count = length es; covered = total_length es }
whole_walk total es to is = walks_end (walk_of total) es to is ∙ same_whole total es

pub whole_accepted : (total : ℕ) (es : List Entry) → All IsLawful es
    → Walks (walk_of total) es (record { total = total; count = length es; covered = total_length es })
whole_accepted total es all =
    subst (λ (to : Walked). Walks (walk_of total) es to) (same_whole total es) (walks_accepted (walk_of total) es all)
