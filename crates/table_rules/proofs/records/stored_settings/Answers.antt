use Rattle.std.proofs.Common.{◌≡◌, [], ◌∷◌, ◌∙◌, rules}
use Rattle.std.specs.Prelude.{Some, None}
use Rattle.std.specs.FinMap.Entries.{find}
use Rattle.std.proofs.lemmas.Result.{IfOk-weaker}
use Rattle.byte_map.specs.Words.{bytes_cmp}
use Rattle.table_records.specs.Codecs.{typed}
use Rattle.table_records.specs.Keys.{single_cmp}
use Rattle.table_records.specs.Settings.{settings_in}
use Rattle.table_records.specs.Tables.{settings_codec}
use Rattle.table_rules.proofs.Kept.{stored_there, none_there}
use Rattle.table_rules.proofs.records.stored_settings.Goals as goal

pub returns-in-Some : goal.returns-in-Some
returns-in-Some c =
    let m = c.args.map.now in
    let there : find bytes_cmp (9 ∷ []) m ≡ Some c.in-Some.value.now = search rules in
    IfOk-weaker c.read_value.result (λ found. found ≡ settings_in c.in-Some.value.now) (λ found. found ≡ find single_cmp tt (typed settings_codec m))
    (λ found is. is ∙ stored_there m c.in-Some.value.now c.requires there) c.read_value.ensures

pub returns-in-None : goal.returns-in-None
returns-in-None c =
    let there : find bytes_cmp (9 ∷ []) c.args.map.now ≡ None = search rules in
    none_there c.args.map.now there
