use Rattle.std.proofs.Common.{◌∙◌, length, take, ap, arith, refl}
use Rattle.std.proofs.lemmas.List.{take_at, with_items_is}
use Rattle.answer_text.proofs.answers.make_room.Goals as goal

pub returns-clause-head : goal.returns-clause-head
returns-clause-head c =
    ap (take (length c.args.head.now)) (with_items_is c.resize.new.self c.put_front.new.text (omega arith) ∙ c.put_front.ensures)
    ∙ take_at c.args.head.now _ (length c.args.head.now) refl
