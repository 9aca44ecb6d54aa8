use Rattle.std.proofs.Common.{sym, ◌∙◌, ap, refl}
use Rattle.std.specs.Prelude.{Option}
use Rattle.table_records.specs.Tables.{container_codec}
use Rattle.volume_tables.specs.Tables.{next_after, tables_now}
use Rattle.volume_tables.proofs.Ready.{containers_ready}
use Rattle.volume_tables.proofs.tables.Tables.next_container.Goals as goal

pub returns-in-Some : goal.returns-in-Some
returns-in-Some g c =
    let t = c.args.self.now in
    c.next.ensures (containers_ready t.contents)
    ∙ ap (λ (o : Option _). next_after container_codec.cmp o (tables_now t).chunks.containers) (sym c.in-Some.is)

pub returns-in-None : goal.returns-in-None
returns-in-None g c =
    let t = c.args.self.now in
    c.first.ensures refl (containers_ready t.contents)
    ∙ ap (λ (o : Option _). next_after container_codec.cmp o (tables_now t).chunks.containers) (sym c.in-None.is)
