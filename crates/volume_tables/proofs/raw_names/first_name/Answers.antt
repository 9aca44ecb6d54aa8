use Rattle.std.proofs.Common.{◌≡◌, [], sym, ◌∙◌}
use Rattle.std.specs.Prelude.{Some}
use Rattle.std.specs.FinMap.Entries.{find}
use Rattle.byte_map.specs.Words.{bytes_cmp}
use Rattle.table_records.specs.Codecs.{typed}
use Rattle.table_records.specs.Tables.{name_codec}
use Rattle.table_records.specs.Next.{sorted_typed}
use Rattle.volume_tables.specs.Log.{log_now}
use Rattle.volume_tables.proofs.Empty.{first_empty}
use Rattle.volume_tables.proofs.raw_names.first_name.Goals as goal

pub returns-in-Some : goal.returns-in-Some
returns-in-Some g c keyed =
    let m = log_now c.args.log.now in
    let found : find bytes_cmp [] (typed name_codec m) ≡ Some c.in-Some.id = sym c.get_name.ensures ∙ c.in-Some.is in
    sym (first_empty (typed name_codec m) c.in-Some.id (sorted_typed name_codec m keyed.sorted) found)
