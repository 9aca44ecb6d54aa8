use Rattle.table_records.specs.Tables.{row_codec}
use Rattle.volume_inside.specs.ChunkRules.{FirstCopyHolds}
use Rattle.volume_inside.specs.Typed.{typed_of}
use Rattle.table_rules.proofs.Eaches.{entry_meets}
use Rattle.table_rules.proofs.chunks.FirstCopyRulePairRule.holds.Goals as goal

pub returns-in-Some : goal.returns-in-Some
returns-in-Some c =
    entry_meets row_codec (FirstCopyHolds (typed_of c.args.self.now.map.now).chunks.places) c.args.key.now c.args.value.now
    c.read_key.result c.in-Some.id c.read_value.result c.has_first_copy.result c.read_key.ensures c.in-Some.is
    c.read_value.ensures c.has_first_copy.ensures
