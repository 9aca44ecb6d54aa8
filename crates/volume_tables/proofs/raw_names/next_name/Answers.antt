use Rattle.std.proofs.Common.{◌≡◌, ℕ, List, take, sym, ◌∙◌, ap, rules}
use Rattle.std.specs.Prelude.{Option, Some, None}
use Rattle.byte_map.specs.Words.{bytes_cmp, next_in}
use Rattle.table_records.specs.Tables.{name_codec}
use Rattle.table_records.specs.Next.{next_typed, entry_of, as_entry}
use Rattle.volume_tables.specs.Log.{log_now}
use Rattle.volume_tables.proofs.raw_names.next_name.Goals as goal

pub returns-in-None : goal.returns-in-None
returns-in-None g c keyed =
    let m = log_now c.args.log.now in
    let b = take c.write_key-length.result c.write_key-length.new.out in
    let found : next_in bytes_cmp b m ≡ None = search rules in
    ap (λ (o : Option (List ℕ × List ℕ)). entry_of name_codec o) (sym found)
    ∙ sym (next_typed name_codec b c.args.after.now c.write_key-length.ensures.spelled m keyed.sorted keyed.has)

pub returns-in-None-read_key : goal.returns-in-None-read_key
returns-in-None-read_key g c keyed =
    let m = log_now c.args.log.now in
    let b = take c.write_key-length.result c.write_key-length.new.out in
    let found : next_in bytes_cmp b m ≡ Some (c.in-Some.key.now, c.in-Some.value.now) = search rules in
    let key : name_codec.read_key c.in-Some.key.now ≡ None = search rules in
    ap (λ (o : Option (List ℕ)). as_entry name_codec o c.in-Some.value.now) (sym key)
    ∙ ap (λ (o : Option (List ℕ × List ℕ)). entry_of name_codec o) (sym found)
    ∙ sym (next_typed name_codec b c.args.after.now c.write_key-length.ensures.spelled m keyed.sorted keyed.has)

pub returns-in-Some-read_key : goal.returns-in-Some-read_key
returns-in-Some-read_key g c keyed =
    let m = log_now c.args.log.now in
    let b = take c.write_key-length.result c.write_key-length.new.out in
    let found : next_in bytes_cmp b m ≡ Some (c.in-Some.key.now, c.in-Some.value.now) = search rules in
    let key : name_codec.read_key c.in-Some.key.now ≡ Some c.in-Some-read_key.name.now = search rules in
    ap (λ (v : ℕ). Some (c.in-Some-read_key.name.now, v)) c.read_value.ensures
    ∙ ap (λ (o : Option (List ℕ)). as_entry name_codec o c.in-Some.value.now) (sym key)
    ∙ ap (λ (o : Option (List ℕ × List ℕ)). entry_of name_codec o) (sym found)
    ∙ sym (next_typed name_codec b c.args.after.now c.write_key-length.ensures.spelled m keyed.sorted keyed.has)
