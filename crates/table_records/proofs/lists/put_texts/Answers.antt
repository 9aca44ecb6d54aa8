use Rattle.std.proofs.Common.{◌≡◌, ◌<◌, ◌≤◌, ◌++◌, ℕ, List, [], length, take, get_or, sym, ◌∙◌, ap, arith, rules}
use Rattle.std.proofs.lemmas.List.{append-nil, append_assoc, take_all}
use Rattle.table_records.specs.Settings.{text_bytes, texts_bytes}
use Rattle.table_records.proofs.TextLists.{texts_bytes_more}
use Rattle.table_records.proofs.lists.put_texts.Goals as goal

pub loop-place-init : goal.loop-place-init
loop-place-init c = sym (append-nil c.args.out.now.items)

pub loop-place-preserved : goal.loop-place-preserved
loop-place-preserved c =
    let texts = c.args.texts.now in
    let low : c.loop-place.place < length c.args.texts.now = omega (arith, c.loop-place-test.true, c.count-place-end.ensures.count) in
    let text : c.at.result.now ≡ get_or c.args.texts.now c.loop-place.place [] = c.at.ensures.text in
    let put : c.put_text.new.out.items ≡ c.loop-place.out.items ++ text_bytes c.at.result.now = search rules in
    put
    ∙ (λ i. c.loop-place.invariant i ++ text_bytes (text i))
    ∙ append_assoc c.args.out.now.items (texts_bytes (take c.loop-place.place c.args.texts.now)) (text_bytes (get_or c.args.texts.now c.loop-place.place []))
    ∙ ap (λ (b : List ℕ). c.args.out.now.items ++ b) (sym (texts_bytes_more c.args.texts.now c.loop-place.place low))

pub returns : goal.returns
returns c =
    let all : length c.args.texts.now ≤ c.loop-place.place = omega (arith, c.loop-place-test.false, c.count-place-end.ensures.count) in
    c.loop-place.invariant
    ∙ ap (λ (ts : List (List ℕ)). c.args.out.now.items ++ texts_bytes ts) (take_all c.loop-place.place c.args.texts.now all)
