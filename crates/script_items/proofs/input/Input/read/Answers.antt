use Rattle.std.proofs.Common.{refl, arith, ◌≡◌, []}
use Rattle.script_items.specs.Input.{ahead}
use Rattle.script_items.proofs.InputLaws.{none_ahead, left_given}
use Rattle.script_items.proofs.input.Input.read.Goals as goal

pub returns-in-Ok-clause-bytes : goal.returns-in-Ok-clause-bytes
unfolding ahead
returns-in-Ok-clause-bytes g c total s so =
    let none : ahead c.args.self.now ≡ [] = none_ahead c.args.self.now.room.items c.args.self.now.start c.args.self.now.end (omega arith) in
    left_given c.args.self.now _ _ _ total c.in-Ok.got s c.read_piece.new.out none so (c.in-Ok.ensures.bytes so.rest so.told) none refl
