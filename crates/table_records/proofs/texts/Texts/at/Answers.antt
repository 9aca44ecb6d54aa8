use Rattle.std.proofs.Common.{◌≡◌, ◌<◌, ℕ, List, [], length, get_or, ◌∙◌, ap, arith, rules}
use Rattle.std.proofs.lemmas.List.{get_or_default}
use Rattle.table_records.proofs.ListBytes.{text_bytes_below}
use Rattle.table_records.proofs.texts.Texts.at.Goals as goal

pub returns-clause-short : goal.returns-clause-short
returns-clause-short c =
    let low : c.args.place < length c.self.inside.texts.items = search rules in
    let is : c.deref.result.now ≡ get_or c.self.inside.texts.items c.args.place c.index.result.now =
    c.deref.ensures.value ∙ c.behind-self.view_is ∙ c.index.ensures in
    let same : get_or c.self.inside.texts.items c.args.place c.index.result.now ≡ get_or c.self.inside.texts.items c.args.place [] =
    get_or_default c.self.inside.texts.items c.args.place c.index.result.now [] low in
    omega (arith, ap (λ (l : List ℕ). length l) (is ∙ same), text_bytes_below c.self.inside.texts.items c.args.place low, c.self.invariant.1)
