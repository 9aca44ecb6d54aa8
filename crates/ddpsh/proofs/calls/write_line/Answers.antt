use Rattle.std.proofs.Common.{◌≡◌, ◌∙◌, sym, subst, refl, codes, true, false, true≢false}
use Rattle.std.proofs.lemmas.Bool.{false≢true}
use Rattle.cmdlet_line.specs.Lines.{Write}
use Rattle.script_items.specs.Script.{Item, Cut, Spoilt}
use Rattle.answer_text.specs.Answers.{Refused}
use Rattle.ddpsh.specs.Answers.{makes_none, may_stop}
use Rattle.ddpsh.specs.Served.{Attempts}
use Rattle.ddpsh.proofs.CallLaws.{comes_none, cut_item, spoilt_item, paid_item, plain_exit, steady_none}
use Rattle.ddpsh.proofs.calls.write_line.Goals as goal

pub returns-then-behind-count-clause-told : goal.returns-then-behind-count-clause-told
returns-then-behind-count-clause-told g c w kept =
    rw c.uncalled.ensures
    (subst (λ (i : Item). Attempts i c.args.volume.now c.args.volume.now (record { made = 0; ended = c.refused.result }) c.refused.new.text.items)
    (sym (cut_item (Write c.args.name.now c.args.at c.args.count) c.args.behind.now c.args.count c.if-behind-count.true))
    (comes_none Cut c.args.volume.now (λ before. Refused (codes " Cut")) _ c.refused.result (λ s calls answer h. h) plain_exit refl c.refused.ensures.said))

pub returns-then-is_spoilt_at-clause-told : goal.returns-then-is_spoilt_at-clause-told
returns-then-is_spoilt_at-clause-told g c w kept =
    rw c.uncalled-then-is_spoilt_at.ensures
    (subst (λ (i : Item). Attempts i c.args.volume.now c.args.volume.now (record { made = 0; ended = c.refused-then-is_spoilt_at.result }) c.refused-then-is_spoilt_at.new.text.items)
    (sym (spoilt_item (Write c.args.name.now c.args.at c.args.count) c.args.behind.now c.args.count c.if-behind-count.false (sym c.if-is_spoilt_at.true ∙ c.is_spoilt_at.ensures)))
    (comes_none Spoilt c.args.volume.now (λ before. Refused (codes " PayloadEnd")) _ c.refused-then-is_spoilt_at.result (λ s calls answer h. h) plain_exit refl c.refused-then-is_spoilt_at.ensures.said))

pub returns-clause-told : goal.returns-clause-told
returns-clause-told g c w kept =
    subst (λ (i : Item). Attempts i c.args.volume.now c.write.new.volume c.write.result c.write.new.text.items)
    (sym (paid_item (Write c.args.name.now c.args.at c.args.count) c.args.behind.now c.args.count c.if-behind-count.false (sym c.if-is_spoilt_at.false ∙ c.is_spoilt_at.ensures)))
    (c.write.ensures.told w kept)

pub returns-then-behind-count-clause-steady : goal.returns-then-behind-count-clause-steady
returns-then-behind-count-clause-steady g c =
    rw c.uncalled.ensures (steady_none c.args.volume.now c.refused.result c.requires c.refused.ensures.memory)

pub returns-then-is_spoilt_at-clause-steady : goal.returns-then-is_spoilt_at-clause-steady
returns-then-is_spoilt_at-clause-steady g c =
    rw c.uncalled-then-is_spoilt_at.ensures
    (steady_none c.args.volume.now c.refused-then-is_spoilt_at.result c.requires c.refused-then-is_spoilt_at.ensures.memory)

pub returns-then-behind-count-clause-idle : goal.returns-then-behind-count-clause-idle
returns-then-behind-count-clause-idle g c none =
    rw c.uncalled.ensures
    (subst (λ (i : Item). Attempts i c.args.volume.now c.args.volume.now (record { made = 0; ended = c.refused.result }) c.refused.new.text.items)
    (sym (cut_item (Write c.args.name.now c.args.at c.args.count) c.args.behind.now c.args.count c.if-behind-count.true))
    (comes_none Cut c.args.volume.now (λ before. Refused (codes " Cut")) _ c.refused.result (λ s calls answer h. h) plain_exit refl c.refused.ensures.said))

pub returns-then-is_spoilt_at-clause-idle : goal.returns-then-is_spoilt_at-clause-idle
returns-then-is_spoilt_at-clause-idle g c none =
    rw c.uncalled-then-is_spoilt_at.ensures
    (subst (λ (i : Item). Attempts i c.args.volume.now c.args.volume.now (record { made = 0; ended = c.refused-then-is_spoilt_at.result }) c.refused-then-is_spoilt_at.new.text.items)
    (sym (spoilt_item (Write c.args.name.now c.args.at c.args.count) c.args.behind.now c.args.count c.if-behind-count.false (sym c.if-is_spoilt_at.true ∙ c.is_spoilt_at.ensures)))
    (comes_none Spoilt c.args.volume.now (λ before. Refused (codes " PayloadEnd")) _ c.refused-then-is_spoilt_at.result (λ s calls answer h. h) plain_exit refl c.refused-then-is_spoilt_at.ensures.said))

pub returns-clause-idle : goal.returns-clause-idle
returns-clause-idle g c none =
    let paid = paid_item (Write c.args.name.now c.args.at c.args.count) c.args.behind.now c.args.count c.if-behind-count.false (sym c.if-is_spoilt_at.false ∙ c.is_spoilt_at.ensures) in
    absurd (false≢true (subst (λ (i : Item). makes_none i ≡ true) paid none))

pub returns-clause-stays : goal.returns-clause-stays
returns-clause-stays g c never =
    let paid = paid_item (Write c.args.name.now c.args.at c.args.count) c.args.behind.now c.args.count c.if-behind-count.false (sym c.if-is_spoilt_at.false ∙ c.is_spoilt_at.ensures) in
    absurd (true≢false (subst (λ (i : Item). may_stop i ≡ false) paid never))
