use Rattle.std.proofs.Common.{refl, arith, ◌≡◌, ◌-◌}
use Rattle.std.proofs.lemmas.List.{with_items_is}
use Rattle.std.proofs.lemmas.Bool.{ltb-false}
use Rattle.script_items.specs.Input.{ahead}
use Rattle.script_items.proofs.InputLaws.{none_ahead, left_read, left_over}
use Rattle.script_items.proofs.input.Input.ready.Goals as goal

pub returns-in-Ok-clause-left : goal.returns-in-Ok-clause-left
unfolding ahead
returns-in-Ok-clause-left g c total s so =
    let whole : c.in-Ok.got - 0 ≡ c.in-Ok.got = omega arith in
    left_read _ _ _ _ total c.in-Ok.got s c.read_piece.new.out (none_ahead c.args.self.now.room.items c.args.self.now.start c.args.self.now.end (omega arith)) so (c.in-Ok.ensures.bytes so.rest so.told)
    (rw (with_items_is c.args.self.now.room c.read_piece.new.out (omega (arith, c.deref_mut.ensures.len)), whole) refl) refl

pub returns-in-Ok-clause-end : goal.returns-in-Ok-clause-end
unfolding ahead
returns-in-Ok-clause-end g c total s so none =
    left_over c.args.self.now _ total s (none_ahead c.args.self.now.room.items c.args.self.now.start c.args.self.now.end (omega arith)) so ((c.in-Ok.ensures.bytes so.rest so.told).3 (omega (arith, ltb-false 0 c.in-Ok.got none)))
