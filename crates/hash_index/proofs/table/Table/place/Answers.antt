use Rattle.std.proofs.Common.{◌≡◌, length, rules}
use Rattle.hash_index.proofs.SlotLaws.{placed_in}
use Rattle.hash_index.proofs.table.Table.place.Goals as goal

pub returns-clause-added : goal.returns-clause-added
returns-clause-added c = λ pairs stands.
    let count_is : c.len.result ≡ length c.self.inside.cells.items = search rules in
    placed_in c.deref.result.now c.self.inside.cells.items c.self.inside.used c.len.result c.home-home.result c.vacancy-place.result c.new.result c.args.id
    pairs c.args.digest.now c.deref.ensures.value c.home-home.ensures.value count_is c.new.ensures c.requires.least
    c.vacancy-place.ensures.within c.vacancy-place.ensures.first (rw c.self.view_is stands)
