use Rattle.std.proofs.Common.{ℕ, List, sym, subst, Bor}
use Rattle.std.specs.Prelude.{Option}
use Rattle.std.specs.Option.{option_map}
use Rattle.table_records.specs.Tables.{name_codec}
use Rattle.volume_tables.specs.Staging.{IsStagedDrop}
use Rattle.volume_tables.proofs.raw_names.drop_name_range.Goals as goal

pub returns-in-Some : goal.returns-in-Some
returns-in-Some g c =
    subst (λ (o : Option (Bor (List ℕ))). IsStagedDrop name_codec c.args.from.now
    (option_map (λ name. name.now) o) c.args.log.now c.drop_names.new.log) (sym c.in-Some.is) c.drop_names.ensures

pub returns-in-None : goal.returns-in-None
returns-in-None g c =
    subst (λ (o : Option (Bor (List ℕ))). IsStagedDrop name_codec c.args.from.now
    (option_map (λ name. name.now) o) c.args.log.now c.drop_names_from.new.log)
    (sym c.in-None.is) c.drop_names_from.ensures
