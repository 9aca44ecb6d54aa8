use Rattle.std.proofs.Common.{ℕ, List, sym, ◌∙◌, ap, Bor}
use Rattle.std.specs.Prelude.{Option}
use Rattle.std.specs.Option.{option_map}
use Rattle.byte_map.specs.Words.{bytes_cmp}
use Rattle.volume_tables.specs.Tables.{next_after, tables_now}
use Rattle.volume_tables.proofs.Ready.{names_ready}
use Rattle.volume_tables.proofs.tables.Tables.next_name.Goals as goal

pub returns-in-Some : goal.returns-in-Some
returns-in-Some g c =
    let t = c.args.self.now in
    c.next_name.ensures (names_ready t.contents)
    ∙ ap (λ (o : Option (Bor (List ℕ))). next_after bytes_cmp (option_map (λ name. name.now) o) (tables_now t).names)
    (sym c.in-Some.is)

pub returns-in-None : goal.returns-in-None
returns-in-None g c =
    let t = c.args.self.now in
    c.first_name.ensures (names_ready t.contents)
    ∙ ap (λ (o : Option (Bor (List ℕ))). next_after bytes_cmp (option_map (λ name. name.now) o) (tables_now t).names)
    (sym c.in-None.is)
