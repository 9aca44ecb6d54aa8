use Rattle.std.proofs.Common.{sym, ◌∙◌, ap, refl}
use Rattle.std.specs.Prelude.{Option}
use Rattle.table_records.specs.Tables.{place_codec}
use Rattle.volume_tables.specs.Tables.{next_after, tables_now}
use Rattle.volume_tables.proofs.Ready.{places_ready}
use Rattle.volume_tables.proofs.tables.Tables.next_place.Goals as goal

pub returns-in-Some : goal.returns-in-Some
returns-in-Some g c =
    let t = c.args.self.now in
    c.next.ensures (places_ready t.contents)
    ∙ ap (λ (o : Option _). next_after place_codec.cmp o (tables_now t).chunks.places) (sym c.in-Some.is)

pub returns-in-None : goal.returns-in-None
returns-in-None g c =
    let t = c.args.self.now in
    c.first.ensures refl (places_ready t.contents)
    ∙ ap (λ (o : Option _). next_after place_codec.cmp o (tables_now t).chunks.places) (sym c.in-None.is)
