use Rattle.std.proofs.Common.{ℕ, List, ◌≤◌, length, ◌∙◌, ap, arith, length-set}
use Rattle.std.specs.Prelude.{slice_set}
use Rattle.table_records.specs.Keys.{kind_key, kind_of}
use Rattle.table_records.proofs.Front.{two_written, kind_back}
use Rattle.table_records.proofs.tables.ResultTableTable.write_key.Goals as goal

pub returns-clause-spelled : goal.returns-clause-spelled
returns-clause-spelled c =
    let out = c.args.out.now in
    let still : 2 ≤ length (slice_set c.args.out.now 0 10) = omega (arith, c.requires, length-set c.args.out.now 0 10) in
    ap (λ (b : List ℕ). kind_key 10 b) (two_written c.args.out.now 10 c.number.result (omega (arith, c.requires)) still)
    ∙ ap kind_of c.number.ensures ∙ kind_back c.args.key
