use Rattle.std.specs.Prelude.{◌<◌, ℕ, IsSome}
use Rattle.std.specs.FinMap.{find}
use Rattle.table_records.specs.Codecs.{typed}
use Rattle.table_records.specs.Keys.{pair_cmp}
use Rattle.table_records.specs.Tables.{cluster_codec}
use Rattle.table_rules.proofs.chunks.has_pages.Given as goal

-- the pages so far are there
abbrev pub invariant-loop-index : goal.invariant-loop-index
invariant-loop-index l = (i : ℕ) → i < l.index → IsSome (find pair_cmp (l.id, i) (typed cluster_codec l.map))
