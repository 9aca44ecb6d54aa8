use Rattle.std.proofs.Common.{◌≡◌, ℕ, List, drop, sym, ◌∙◌, ap, rules}
use Rattle.std.specs.Prelude.{Some}
use Rattle.table_records.specs.Settings.{Read, counted_in, nothing_behind}
use Rattle.table_records.proofs.TextLists.{not_last}
use Rattle.table_records.proofs.settings.read_last.Goals as goal

pub returns-then-end-bytes : goal.returns-then-end-bytes
returns-then-end-bytes c =
    let read : Some (c.in-Some.texts, drop c.in-Some.end c.args.bytes.now) ≡ counted_in c.args.bytes.now = search rules in
    sym (ap (λ (r : Read (List (List ℕ))). nothing_behind r) (sym read) ∙ not_last c.in-Some.texts c.in-Some.end c.args.bytes.now c.if-end-bytes.true)
