use Rattle.std.proofs.Common.{◌≡◌, ◌+◌, ◌∙◌, sym, length, take, Err, ap, arith}
use Rattle.std.proofs.lemmas.List.{with_items_is}
use Rattle.script_items.proofs.PayloadLaws.{payload_whole, payload_spoilt, spoilt_of}
use Rattle.script_items.proofs.payload.read_payload.Goals as goal
use Rattle.script_items.specs.declared.input.ScriptFault.TheVariants as fault

pub returns-in-Err-clause-over : goal.returns-in-Err-clause-over
returns-in-Err-clause-over g c total s so over =
    let e : c.in-Err.fault ≡ fault.TooLong = cc in
    c.in-Err.ensures.over total s so (ap Err e)

pub returns-then-is_spoilt_at-clause-payload : goal.returns-then-is_spoilt_at-clause-payload
returns-then-is_spoilt_at-clause-payload g c total s so =
    let size : length c.read_whole.new.out ≡ c.args.count + 1 = omega (arith, c.if-not-make_room.ensures, c.deref_mut.ensures.len) in
    payload_spoilt c.skip_line.result _ _ _ _ total c.args.count c.in-Ok.got s c.read_whole.new.out _ size (c.in-Ok.ensures.bytes total s so) (c.truncate.ensures.items ∙ ap (take c.in-Ok.got) (with_items_is c.make_room.new.payload c.read_whole.new.out (omega (arith, c.deref_mut.ensures.len)))) (spoilt_of _ _ c.args.count c.deref.ensures.value (sym c.is_spoilt_at.ensures ∙ c.if-is_spoilt_at.true)) (c.skip_line.ensures.left total)

pub returns-then-is_spoilt_at-clause-over : goal.returns-then-is_spoilt_at-clause-over
returns-then-is_spoilt_at-clause-over g c total s so over =
    let so_far = c.in-Ok.ensures.bytes total s so in
    c.skip_line.ensures.over total _ so_far.left over

pub returns-clause-payload : goal.returns-clause-payload
returns-clause-payload g c total s so =
    let size : length c.read_whole.new.out ≡ c.args.count + 1 = omega (arith, c.if-not-make_room.ensures, c.deref_mut.ensures.len) in
    payload_whole _ _ total c.args.count c.in-Ok.got s c.read_whole.new.out _ size (c.in-Ok.ensures.bytes total s so) (c.truncate.ensures.items ∙ ap (take c.in-Ok.got) (with_items_is c.make_room.new.payload c.read_whole.new.out (omega (arith, c.deref_mut.ensures.len)))) (spoilt_of _ _ c.args.count c.deref.ensures.value (sym c.is_spoilt_at.ensures ∙ c.if-is_spoilt_at.false))

pub returns-in-Err-clause-many : goal.returns-in-Err-clause-many
returns-in-Err-clause-many g c first so over =
    let e : c.in-Err.fault ≡ fault.TooLong = cc in
    c.in-Err.ensures.many first so (ap Err e)

pub returns-then-is_spoilt_at-clause-given : goal.returns-then-is_spoilt_at-clause-given
returns-then-is_spoilt_at-clause-given g c first so = c.skip_line.ensures.given first (c.in-Ok.ensures.given first so)

pub returns-then-is_spoilt_at-clause-many : goal.returns-then-is_spoilt_at-clause-many
returns-then-is_spoilt_at-clause-many g c first so over =
    c.skip_line.ensures.many first (c.in-Ok.ensures.given first so) over

pub returns-clause-given : goal.returns-clause-given
returns-clause-given g c first so = c.in-Ok.ensures.given first so
