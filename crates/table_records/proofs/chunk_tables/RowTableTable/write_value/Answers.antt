use Rattle.std.specs.Prelude.{◌≡◌, List, ℕ, take, drop}
use Rattle.std.proofs.Common.{◌∙◌, sym, ap, subst, arith}
use Rattle.std.proofs.lemmas.List.{take_at}
use Rattle.table_records.specs.Values.{row_in, row_bytes}
use Rattle.table_records.proofs.ChunkBytes.{whole_row}
use Rattle.table_records.proofs.chunk_tables.RowTableTable.write_value.Goals as goal

pub returns-clause-whole : goal.returns-clause-whole
returns-clause-whole c =
    whole_row c.args.value c.args.out.now c.put_row.new.out c.put_row.ensures.size c.put_row.ensures.spelled

pub returns-clause-spelled : goal.returns-clause-spelled
returns-clause-spelled c =
    ap (λ (b : List ℕ). row_in (take 50 b)) c.put_row.ensures.spelled
    ∙ ap row_in (take_at (row_bytes c.args.value) (drop 50 c.args.out.now) 50 c.put_row.ensures.size)
    ∙ c.put_row.ensures.back
