use Rattle.std.proofs.Common.{◌≡◌, ℕ, List, take, sym, ◌∙◌, ap, rules}
use Rattle.std.specs.Prelude.{Option, Some, None}
use Rattle.std.specs.Option.{option_map}
use Rattle.std.specs.FinMap.Entries.{find}
use Rattle.byte_map.specs.Words.{bytes_cmp}
use Rattle.table_records.specs.Laws.{find_typed}
use Rattle.volume_tables.specs.Log.{log_now}
use Rattle.volume_tables.proofs.raw.get.Goals as goal

pub returns-in-Some : goal.returns-in-Some
returns-in-Some g c =
    let codec = g.T.Table.codec in
    let m = log_now c.args.log.now in
    let b = take c.write_key-length.result c.write_key-length.new.out in
    let found : find bytes_cmp b m ≡ Some c.in-Some.bytes.now = search rules in
    ap (λ (v : g.row.T-Value.Denot). Some v) c.read_value.ensures
    ∙ ap (λ (o : Option (List ℕ)). option_map codec.read_value o) (sym found)
    ∙ sym (find_typed codec b c.args.key c.write_key-length.ensures.spelled m)

pub returns-in-None : goal.returns-in-None
returns-in-None g c =
    let codec = g.T.Table.codec in
    let m = log_now c.args.log.now in
    let b = take c.write_key-length.result c.write_key-length.new.out in
    let found : find bytes_cmp b m ≡ None = search rules in
    ap (λ (o : Option (List ℕ)). option_map codec.read_value o) (sym found)
    ∙ sym (find_typed codec b c.args.key c.write_key-length.ensures.spelled m)
