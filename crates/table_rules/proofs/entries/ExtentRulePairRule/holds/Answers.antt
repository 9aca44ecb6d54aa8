use Rattle.std.proofs.Common.{sym}
use Rattle.table_records.specs.Tables.{extent_codec}
use Rattle.volume_inside.specs.Typed.{typed_of}
use Rattle.volume_inside.specs.Rules.{ExtentHolds}
use Rattle.table_rules.proofs.Eaches.{entry_meets}
use Rattle.table_rules.proofs.entries.ExtentRulePairRule.holds.Goals as goal

pub returns-in-Some : goal.returns-in-Some
returns-in-Some c =
    let files = (typed_of c.args.self.now.map.now).files in
    entry_meets extent_codec (ExtentHolds c.args.self.now.clusters files) c.args.key.now c.args.value.now c.read_key.result c.in-Some.key c.read_value.result c.extent_holds.result
    c.read_key.ensures c.in-Some.is c.read_value.ensures (c.extent_holds.ensures files (sym c.get-file.ensures))
