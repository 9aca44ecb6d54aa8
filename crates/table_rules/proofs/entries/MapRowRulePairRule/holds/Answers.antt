use Rattle.std.proofs.Common.{sym}
use Rattle.table_records.specs.Tables.{file_codec}
use Rattle.volume_inside.specs.ChunkRules.{MapRowHolds}
use Rattle.volume_inside.specs.Typed.{typed_of}
use Rattle.table_rules.proofs.Eaches.{entry_meets}
use Rattle.table_rules.proofs.entries.MapRowRulePairRule.holds.Goals as goal

pub returns-in-Some : goal.returns-in-Some
returns-in-Some c =
    let rows = (typed_of c.args.self.now.map.now).chunks.rows in
    entry_meets file_codec (MapRowHolds rows) c.args.key.now c.args.value.now c.read_key.result c.in-Some.field-0 c.read_value-file.result
    c.map_row_holds.result c.read_key.ensures c.in-Some.is c.read_value-file.ensures
    (c.map_row_holds.ensures rows c.in-Some.field-0 (sym c.get.ensures))
