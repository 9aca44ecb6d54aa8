use Rattle.std.proofs.Common.{◌≡◌, ◌<◌, ◌∙◌, true, false, length, rules}
use Rattle.std.specs.Ordering.{is_lt}
use Rattle.plain_volume.specs.Volume.{name_cmp}
use Rattle.plain_volume.specs.Files.{name_at}
use Rattle.plain_volume.proofs.Nexts.{next_past, next_here}
use Rattle.plain_volume.proofs.plain_files.PlainFiles.place_above.Goals as goal

pub returns-then-is_lt-clause-next : goal.returns-then-is_lt-clause-next
returns-then-is_lt-clause-next c =
    let inside : c.loop-i.i < length c.args.self.now = search rules in
    let above : is_lt (name_cmp c.args.name.now (name_at c.args.self.now c.loop-i.i)) ≡ true = search rules in
    c.loop-i.invariant ∙ next_here c.args.name.now c.args.self.now c.loop-i.i inside above

pub loop-i-preserved : goal.loop-i-preserved
loop-i-preserved c =
    let inside : c.loop-i.i < length c.args.self.now = search rules in
    let past : is_lt (name_cmp c.args.name.now (name_at c.args.self.now c.loop-i.i)) ≡ false = search rules in
    c.loop-i.invariant ∙ next_past c.args.name.now c.args.self.now c.loop-i.i inside past
