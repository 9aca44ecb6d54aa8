-- The pairs that an ordered index holds, in order.
use Rattle.std.specs.Prelude.{◌↔◌, ◌<◌, ◌^◌, List, IsTrue, Bool, Contains}
use Rattle.std.specs.Ordering.{nat_cmp, ordering_then}
use Rattle.std.specs.declared.cmp.Ordering.{Ordering}
use Rattle.std.specs.Cmp.Lexicographic.{slice_cmp}
use Rattle.std.specs.List.{list_any}
use Rattle.std.specs.BTreeMap.{is_at}
use Rattle.hash_index.specs.Pairs.{Pair}

-- by the digest's bytes, then by the id
abbrev pub pair_cmp : Pair → Pair → Ordering
pair_cmp p q = ordering_then (slice_cmp nat_cmp p.0 q.0) (nat_cmp p.1 q.1)

-- whether the pair is among those in order
abbrev pub has : List Pair → Pair → Bool
has held p = list_any (is_at (pair_cmp p)) held

-- what is held in order are the pairs, and their ids fit a number of 48 bits
pub record OrderedStandsFor (held pairs : List Pair) : Type 0 where
  pub same : (p : Pair) → IsTrue (has held p) ↔ Contains pairs p
  pub fits : (p : Pair) → Contains pairs p → p.1 < 2 ^ 48
