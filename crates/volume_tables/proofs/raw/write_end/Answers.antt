use Rattle.std.proofs.Common.{◌≡◌, ◌+◌, ℕ, [], ◌∷◌, take, ap, sym, ◌∙◌, slice_set, rules}
use Rattle.std.specs.Prelude.{Option}
use Rattle.std.proofs.Common.{subst}
use Rattle.table_records.specs.Changes.{EndsRange}
use Rattle.volume_tables.proofs.Lists.{one_set}
use Rattle.volume_tables.proofs.raw.write_end.Goals as goal

pub returns-in-None-clause-ends : goal.returns-in-None-clause-ends
returns-in-None-clause-ends g c =
    let codec = g.T.Table.codec in
    let is : c.NUMBER.result ≡ g.T.Table.NUMBER = search rules in
    let numbered : codec.number ≡ g.T.Table.NUMBER = g.met.T.Table.numbered in
    let whole : take 1 (slice_set c.args.out.now 0 (c.NUMBER.result + 1)) ≡ (codec.number + 1) ∷ [] =
    one_set c.args.out.now (c.NUMBER.result + 1) c.requires ∙ ap (λ (n : ℕ). (n + 1) ∷ []) (is ∙ sym numbered) in
    subst (λ (o : Option g.row.T-Key.Denot). EndsRange codec o (take 1 (slice_set c.args.out.now 0 (c.NUMBER.result + 1))))
    (sym c.in-None.is) whole
