use Rattle.std.proofs.Common.{arith}
use Rattle.script_items.specs.Input.{ahead}
use Rattle.script_items.proofs.InputLaws.{passed}
use Rattle.script_items.proofs.input.Input.pass.Goals as goal

pub returns-clause-bytes : goal.returns-clause-bytes
unfolding ahead
returns-clause-bytes c = passed c.args.self.now.room.items c.args.self.now.start c.args.self.now.end c.args.count (omega arith)
