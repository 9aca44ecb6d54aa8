use Rattle.std.proofs.Common.{◌≡◌, sym, ◌∙◌, subst}
use Rattle.std.specs.Prelude.{Option, IsSome, IsSomeAnd}
use Rattle.table_records.specs.declared.chunk_records.Row.{Row}
use Rattle.row_reading.proofs.Texts.{own_text, other_text, some_and_some}
use Rattle.row_reading.proofs.copies.text_of.Goals as goal

pub returns-then-row-eq0 : goal.returns-then-row-eq0
returns-then-row-eq0 g c =
    own_text (g.D.ChunkDisk.chunks c.args.disk.now) (g.D.ChunkDisk.image c.args.disk.now) c.args.id c.unwrap-row.result
    (sym c.get_row.ensures ∙ c.unwrap-row.ensures) c.if-row-eq0.true

pub unwrap-requires : goal.unwrap-requires
unwrap-requires g c =
    subst IsSome (sym c.get_row-2.ensures) (some_and_some (λ to. to.length ≡ c.unwrap-row.result.length) _
    (c.requires.readable.targets c.args.id c.unwrap-row.result (sym c.get_row.ensures ∙ c.unwrap-row.ensures) c.if-row-eq0.false))

pub returns : goal.returns
returns g c =
    let there = sym c.get_row.ensures ∙ c.unwrap-row.ensures in
    let found = sym c.get_row-2.ensures ∙ c.unwrap.ensures in
    other_text (g.D.ChunkDisk.chunks c.args.disk.now) (g.D.ChunkDisk.image c.args.disk.now) c.args.id c.unwrap-row.result
    there c.unwrap.result c.if-row-eq0.false found
    (subst (λ (o : Option Row). IsSomeAnd o (λ to. to.length ≡ c.unwrap-row.result.length)) found
    (c.requires.readable.targets c.args.id c.unwrap-row.result there c.if-row-eq0.false))
