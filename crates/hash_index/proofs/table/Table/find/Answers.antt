use Rattle.std.proofs.Common.{◌≡◌, length, rules}
use Rattle.hash_index.proofs.SlotLaws.{finds_in}
use Rattle.hash_index.proofs.table.Table.find.Goals as goal

pub returns : goal.returns
returns g c = λ pairs stands agrees.
    let count_is : c.len.result ≡ length c.self.inside.cells.items = search rules in
    finds_in (g.T.Digests.digest_of c.args.tells.now) c.deref.result.now c.self.inside.cells.items c.self.inside.used c.len.result c.home-home.result
    pairs c.args.digest.now c.args.after c.least_in_run.result
    c.deref.ensures.value c.home-home.ensures.value count_is c.least_in_run.ensures (rw c.self.view_is stands) agrees
