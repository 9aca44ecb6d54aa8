use Rattle.std.proofs.Common.{◌≡◌, ◌∷◌, ◌+◌, ℕ, List, length, take, drop, ◌∙◌, ap, arith}
use Rattle.std.proofs.lemmas.List.{take_at}
use Rattle.table_records.specs.Keys.{bytes_key}
use Rattle.table_records.proofs.names.NameTable.write_key.Goals as goal

pub returns-clause-spelled : goal.returns-clause-spelled
returns-clause-spelled c =
    let name = c.args.name.now in
    let spelled : List ℕ = 2 ∷ name in
    let size : length spelled ≡ length name + 1 = omega arith in
    ap (λ (b : List ℕ). bytes_key 2 b)
    (ap (λ (b : List ℕ). take (length name + 1) b) c.put_name.ensures ∙ take_at spelled (drop (length name + 1) c.args.out.now) (length name + 1) size)
