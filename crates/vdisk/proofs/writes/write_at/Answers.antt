use Rattle.std.proofs.Common.{rules, ◌≡◌, length, take, drop}
use Rattle.vdisk.proofs.writes.write_at.Goals as goal

pub returns-clause-events : goal.returns-clause-events
returns-clause-events c =
    let same : c.in_ok-was.was'.items ≡ take (length c.args.bytes.now) (drop c.args.at c.args.image.now.items) = search rules in
    (c.in_ok-was.was', same, c.in_ok-push.ensures.items)
