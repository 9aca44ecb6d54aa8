use Rattle.std.proofs.Common.{arith, take, drop, length, ◌-◌, ◌∙◌, ap, ◌≡◌, length-take}
use Rattle.std.proofs.lemmas.List.{take_at}
use Rattle.script_items.specs.Input.{ahead}
use Rattle.script_items.proofs.InputLaws.{passed}
use Rattle.script_items.proofs.input.Input.take.Goals as goal

pub returns-clause-bytes : goal.returns-clause-bytes
unfolding ahead
returns-clause-bytes c =
    let size : length c.copy_from_slice.new.self ≡ c.min-count.result = omega (arith, c.copy_from_slice.ensures.len, length-take c.min-count.result c.args.out.now, c.min-count.ensures) in
    take_at c.copy_from_slice.new.self _ c.min-count.result size ∙ (c.copy_from_slice.ensures.after ∙ ap (λ xs. take c.min-count.result (take (c.args.self.now.end - c.args.self.now.start) (drop c.args.self.now.start xs))) c.deref.ensures.value)

pub returns-clause-left : goal.returns-clause-left
unfolding ahead
returns-clause-left c = passed c.args.self.now.room.items c.args.self.now.start c.args.self.now.end c.min-count.result (omega arith)
