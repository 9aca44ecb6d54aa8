use Rattle.std.proofs.Common.{◌≡◌, rules, Err, ap}
use Rattle.script_items.proofs.ItemLaws.{item_bare, item_paid, item_over}
use Rattle.script_items.proofs.items.read_item.Goals as goal
use Rattle.script_items.specs.declared.input.ScriptFault.TheVariants as fault

pub returns-in-None-clause-item : goal.returns-in-None-clause-item
returns-in-None-clause-item g c total s so =
    let read = (rw c.if-not-some.false at c.in-Ok.ensures.line) total s so in
    item_bare s _ _ _ _ total read (search rules)

pub returns-in-Ok-read_payload-clause-item : goal.returns-in-Ok-read_payload-clause-item
returns-in-Ok-read_payload-clause-item g c total s so =
    let read = (rw c.if-not-some.false at c.in-Ok.ensures.line) total s so in
    item_paid s _ _ _ _ _ _ total c.in-Some.count read (search rules) (c.in-Ok-read_payload.ensures.payload total _ read.left)

pub returns-in-Err-read_payload-clause-over : goal.returns-in-Err-read_payload-clause-over
returns-in-Err-read_payload-clause-over g c total s so over =
    let read = (rw c.if-not-some.false at c.in-Ok.ensures.line) total s so in
    let e : c.in-Err-read_payload.fault ≡ fault.TooLong = cc in
    c.in-Err-read_payload.ensures.over total _ read.left (ap Err e)

pub returns-then-not-some-clause-item : goal.returns-then-not-some-clause-item
returns-then-not-some-clause-item g c total s so = item_over s _ _ _ _ total ((rw c.if-not-some.true at c.in-Ok.ensures.line) total s so)

pub returns-in-None-clause-given : goal.returns-in-None-clause-given
returns-in-None-clause-given g c first so = c.in-Ok.ensures.given first so

pub returns-in-Ok-read_payload-clause-given : goal.returns-in-Ok-read_payload-clause-given
returns-in-Ok-read_payload-clause-given g c first so =
    c.in-Ok-read_payload.ensures.given first (c.in-Ok.ensures.given first so)

pub returns-in-Err-read_payload-clause-many : goal.returns-in-Err-read_payload-clause-many
returns-in-Err-read_payload-clause-many g c first so over =
    let e : c.in-Err-read_payload.fault ≡ fault.TooLong = cc in
    c.in-Err-read_payload.ensures.many first (c.in-Ok.ensures.given first so) (ap Err e)

pub returns-then-not-some-clause-given : goal.returns-then-not-some-clause-given
returns-then-not-some-clause-given g c first so = c.in-Ok.ensures.given first so
