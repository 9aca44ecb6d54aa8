use Rattle.std.proofs.Common.{◌≡◌, ◌<◌, length, rules}
use Rattle.std.specs.declared.cmp.Ordering.TheVariants.{Equal, Greater}
use Rattle.std.proofs.lemmas.Map.Lookups.{exact_bytes}
use Rattle.plain_volume.specs.Volume.{name_cmp}
use Rattle.plain_volume.specs.Files.{IsRising, name_at}
use Rattle.plain_volume.proofs.Order.{belongs_before}
use Rattle.plain_volume.proofs.plain_files.PlainFiles.place.Goals as goal

pub returns-in-Equal-clause-found : goal.returns-in-Equal-clause-found
returns-in-Equal-clause-found c =
    let same : name_cmp (name_at c.args.self.now c.loop-i.i) c.args.name.now ≡ Equal = search rules in
    let inside : c.loop-i.i < length c.args.self.now = search rules in
    (inside, exact_bytes _ _ same)

pub returns-in-Greater-clause-absent : goal.returns-in-Greater-clause-absent
returns-in-Greater-clause-absent c =
    let above : name_cmp (name_at c.args.self.now c.loop-i.i) c.args.name.now ≡ Greater = search rules in
    let inside : c.loop-i.i < length c.args.self.now = search rules in
    let up : IsRising c.args.self.now = rw (← c.self.view_is) c.self.invariant in
    belongs_before c.args.self.now c.args.name.now c.loop-i.i up c.loop-i.invariant inside above
