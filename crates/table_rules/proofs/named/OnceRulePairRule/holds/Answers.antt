use Rattle.std.proofs.Common.{refl}
use Rattle.table_records.specs.Tables.{file_codec}
use Rattle.table_rules.specs.Ids.{IsOnceIn}
use Rattle.table_rules.proofs.Eaches.{entry_meets}
use Rattle.table_rules.proofs.named.OnceRulePairRule.holds.Goals as goal

pub returns-in-Some : goal.returns-in-Some
returns-in-Some c =
    entry_meets file_codec (IsOnceIn c.args.self.now.ids.now) c.args.key.now c.args._value.now c.read_key.result c.in-Some.id
    (file_codec.read_value c.args._value.now) c.stands_once.result c.read_key.ensures c.in-Some.is refl c.stands_once.ensures
