use Rattle.table_records.specs.Tables.{file_codec}
use Rattle.volume_inside.specs.Rules.{FileHolds}
use Rattle.table_rules.proofs.Eaches.{entry_meets}
use Rattle.table_rules.proofs.entries.FileRulePairRule.holds.Goals as goal

pub returns-in-Some : goal.returns-in-Some
returns-in-Some c =
    entry_meets file_codec (FileHolds c.args.self.now.next_id) c.args.key.now c.args.value.now c.read_key.result c.in-Some.id c.read_value.result c.file_holds.result
    c.read_key.ensures c.in-Some.is c.read_value.ensures c.file_holds.ensures
