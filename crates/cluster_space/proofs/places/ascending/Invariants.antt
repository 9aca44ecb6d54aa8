use Rattle.cluster_space.specs.Places.{IsAscending}
use Rattle.cluster_space.proofs.places.ascending.Given as goal

abbrev pub invariant-loop-number : goal.invariant-loop-number
invariant-loop-number l = IsAscending l.number l.numbers.items
