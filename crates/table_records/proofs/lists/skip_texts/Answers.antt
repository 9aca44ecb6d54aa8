use Rattle.std.proofs.Common.{rules, ◌≡◌, ◌+◌, ◌-◌, ℕ, List, drop, sym, ◌∙◌, ap, arith, length-drop}
use Rattle.std.specs.Prelude.{suc, Some, None}
use Rattle.table_records.specs.Settings.{texts_in, rest_of, fitting_size}
use Rattle.table_records.proofs.TextLists.{cut_none, fitting_fits, skip_more, to_the_end}
use Rattle.table_records.proofs.lists.skip_texts.Goals as goal

pub returns-in_default : goal.returns-in_default
returns-in_default c =
    let one : c.args.count - c.loop.counter ≡ suc (c.args.count - (c.loop.counter + 1)) = omega (arith, c.loop-test.true) in
    let none : c.size_of_first.result ≡ None = search rules in
    let cut : fitting_size c.loop.room (drop c.loop.place c.args.bytes.now) ≡ None =
    ap (λ (b : List ℕ). fitting_size c.loop.room b) (sym (to_the_end c.loop.place c.args.bytes.now)) ∙ sym c.size_of_first.ensures ∙ none in
    sym (c.loop.invariant.1
    ∙ ap (λ (n : ℕ). rest_of (texts_in n c.loop.room (drop c.loop.place c.args.bytes.now))) one
    ∙ ap rest_of (cut_none (c.args.count - (c.loop.counter + 1)) c.loop.room (drop c.loop.place c.args.bytes.now) cut))

pub loop-preserved : goal.loop-preserved
loop-preserved c =
    let one : c.args.count - c.loop.counter ≡ suc (c.args.count - (c.loop.counter + 1)) = omega (arith, c.loop-test.true) in
    let some : c.size_of_first.result ≡ Some c.in-Some.size = search rules in
    let fits : fitting_size c.loop.room (drop c.loop.place c.args.bytes.now) ≡ Some c.in-Some.size =
    ap (λ (b : List ℕ). fitting_size c.loop.room b) (sym (to_the_end c.loop.place c.args.bytes.now)) ∙ sym c.size_of_first.ensures ∙ some in
    let within = fitting_fits c.loop.room c.in-Some.size (drop c.loop.place c.args.bytes.now) fits in (
      omega (arith, within.0, c.loop.invariant.0, length-drop c.loop.place c.args.bytes.now),
      c.loop.invariant.1
          ∙ ap (λ (n : ℕ). rest_of (texts_in n c.loop.room (drop c.loop.place c.args.bytes.now))) one
          ∙ skip_more (c.args.count - (c.loop.counter + 1)) c.loop.room c.loop.place c.in-Some.size c.args.bytes.now fits,
    )

pub returns : goal.returns
returns c =
    let none : c.args.count - c.loop.counter ≡ 0 = omega (arith, c.loop-test.false) in
    ap (λ (b : List ℕ). Some b) (to_the_end c.loop.place c.args.bytes.now)
    ∙ sym (c.loop.invariant.1 ∙ ap (λ (n : ℕ). rest_of (texts_in n c.loop.room (drop c.loop.place c.args.bytes.now))) none)
