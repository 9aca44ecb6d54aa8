use Rattle.std.proofs.Common.{rules, ◌≡◌, ◌++◌, ◌∷◌, [], List, ℕ, arith, ap, sym}
use Rattle.table_records.specs.Texts.{list_bytes}
use Rattle.table_records.proofs.ListBytes.{list_bytes_append}
use Rattle.table_records.proofs.texts.Texts.push_fitting.Goals as goal

pub invariant_of-self-2 : goal.invariant_of-self-2
invariant_of-self-2 c =
    let grown : c.push.new.self.items ≡ c.self.inside.texts.items ++ c.args.text.now ∷ [] = search rules in
    let sum = list_bytes_append c.self.inside.texts.items c.args.text.now in
    let same : list_bytes c.args.self.now ≡ list_bytes c.self.inside.texts.items = ap (λ (ts : List (List ℕ)). list_bytes ts) (sym c.self.view_is) in
    rw grown (omega (arith, sum, c.self.invariant.0), omega (arith, sum, same, c.requires))
