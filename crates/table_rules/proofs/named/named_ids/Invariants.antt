use Rattle.std.proofs.Common.{◌≡◌, ◌++◌, length}
use Rattle.table_records.specs.Codecs.{typed}
use Rattle.table_records.specs.Tables.{name_codec}
use Rattle.table_rules.specs.Ids.{ids_of}
use Rattle.table_rules.proofs.named.named_ids.Given as goal

-- the ids so far, and those of the names that are left
abbrev pub invariant-loop-key : goal.invariant-loop-key
invariant-loop-key l = l.ids.items ++ ids_of (typed name_codec l.walk) ≡ ids_of (typed name_codec l.map)

abbrev pub decreases-loop-key : goal.decreases-loop-key
decreases-loop-key l = length l.walk
