use Rattle.std.proofs.Common.{rules, ◌≡◌, ◌+◌, ◌-◌, ◌++◌, ◌∷◌, [], ℕ, List, take, drop, sym, ◌∙◌, ap, arith, length-drop}
use Rattle.std.specs.Prelude.{suc, Some, None, refl}
use Rattle.std.proofs.lemmas.List.{append-nil}
use Rattle.table_records.specs.Texts.{list_bytes}
use Rattle.table_records.specs.Settings.{Read, texts_in, prepend, fitting_size}
use Rattle.table_records.proofs.TextLists.{cut_none, fitting_fits, prepend_none, read_more, to_the_end}
use Rattle.table_records.proofs.lists.read_texts.Goals as goal

pub loop-init : goal.loop-init
loop-init c =
    let none : c.new-texts.result ≡ [] = c.new-texts.ensures in
    let whole : c.args.count ≡ c.args.count - 0 = omega arith in (
      omega arith,
      sym (prepend_none (texts_in c.args.count 8192 c.args.bytes.now))
          ∙ ap (λ (ts : List (List ℕ)). prepend ts (texts_in c.args.count (8192 - list_bytes ts) c.args.bytes.now)) (sym none)
          ∙ ap (λ (n : ℕ). prepend c.new-texts.result (texts_in n (8192 - list_bytes c.new-texts.result) c.args.bytes.now)) whole,
    )

pub returns-in_default-clause-read : goal.returns-in_default-clause-read
returns-in_default-clause-read c =
    let one : c.args.count - c.loop.counter ≡ suc (c.args.count - (c.loop.counter + 1)) = omega (arith, c.loop-test.true) in
    let sum : c.byte_count-room.result ≡ list_bytes c.loop.texts = c.byte_count-room.ensures.sum in
    let none : c.size_of_first.result ≡ None = search rules in
    let cut : fitting_size (8192 - c.byte_count-room.result) (drop c.loop.place c.args.bytes.now) ≡ None =
    ap (λ (b : List ℕ). fitting_size (8192 - c.byte_count-room.result) b) (sym (to_the_end c.loop.place c.args.bytes.now)) ∙ sym c.size_of_first.ensures ∙ none in
    let same : fitting_size (8192 - list_bytes c.loop.texts) (drop c.loop.place c.args.bytes.now) ≡ None =
    ap (λ (n : ℕ). fitting_size (8192 - n) (drop c.loop.place c.args.bytes.now)) (sym sum) ∙ cut in
    sym (c.loop.invariant.1
    ∙ ap (λ (n : ℕ). prepend c.loop.texts (texts_in n (8192 - list_bytes c.loop.texts) (drop c.loop.place c.args.bytes.now))) one
    ∙ ap (λ (r : Read (List (List ℕ))). prepend c.loop.texts r)
    (cut_none (c.args.count - (c.loop.counter + 1)) (8192 - list_bytes c.loop.texts) (drop c.loop.place c.args.bytes.now) same))

pub loop-preserved : goal.loop-preserved
loop-preserved c =
    let one : c.args.count - c.loop.counter ≡ suc (c.args.count - (c.loop.counter + 1)) = omega (arith, c.loop-test.true) in
    let sum : c.byte_count-room.result ≡ list_bytes c.loop.texts = c.byte_count-room.ensures.sum in
    let some : c.size_of_first.result ≡ Some c.in-Some.size = search rules in
    let fits : fitting_size (8192 - c.byte_count-room.result) (drop c.loop.place c.args.bytes.now) ≡ Some c.in-Some.size =
    ap (λ (b : List ℕ). fitting_size (8192 - c.byte_count-room.result) b) (sym (to_the_end c.loop.place c.args.bytes.now)) ∙ sym c.size_of_first.ensures ∙ some in
    let same : fitting_size (8192 - list_bytes c.loop.texts) (drop c.loop.place c.args.bytes.now) ≡ Some c.in-Some.size =
    ap (λ (n : ℕ). fitting_size (8192 - n) (drop c.loop.place c.args.bytes.now)) (sym sum) ∙ fits in
    let within = fitting_fits (8192 - list_bytes c.loop.texts) c.in-Some.size (drop c.loop.place c.args.bytes.now) same in
    let size : (c.loop.place + c.in-Some.size) - (c.loop.place + 2) ≡ c.in-Some.size - 2 = omega arith in
    let pushed : c.push_fitting.new.self ≡ c.loop.texts ++ take ((c.loop.place + c.in-Some.size) - (c.loop.place + 2)) (drop (c.loop.place + 2) c.args.bytes.now) ∷ [] = search rules in
    let taken : c.push_fitting.new.self ≡ c.loop.texts ++ take (c.in-Some.size - 2) (drop (c.loop.place + 2) c.args.bytes.now) ∷ [] =
    pushed ∙ ap (λ (n : ℕ). c.loop.texts ++ take n (drop (c.loop.place + 2) c.args.bytes.now) ∷ []) size in (
      omega (arith, within.0, c.loop.invariant.0, length-drop c.loop.place c.args.bytes.now),
      c.loop.invariant.1
          ∙ ap (λ (n : ℕ). prepend c.loop.texts (texts_in n (8192 - list_bytes c.loop.texts) (drop c.loop.place c.args.bytes.now))) one
          ∙ read_more (c.args.count - (c.loop.counter + 1)) c.loop.place c.in-Some.size c.args.bytes.now c.loop.texts
          (take (c.in-Some.size - 2) (drop (c.loop.place + 2) c.args.bytes.now)) same refl
          ∙ ap (λ (ts : List (List ℕ)). prepend ts (texts_in (c.args.count - (c.loop.counter + 1)) (8192 - list_bytes ts) (drop (c.loop.place + c.in-Some.size) c.args.bytes.now))) (sym taken),
    )

pub returns-clause-read : goal.returns-clause-read
returns-clause-read c =
    let none : c.args.count - c.loop.counter ≡ 0 = omega (arith, c.loop-test.false) in
    sym (c.loop.invariant.1
    ∙ ap (λ (n : ℕ). prepend c.loop.texts (texts_in n (8192 - list_bytes c.loop.texts) (drop c.loop.place c.args.bytes.now))) none
    ∙ ap (λ (ts : List (List ℕ)). Some (ts, drop c.loop.place c.args.bytes.now)) (append-nil c.loop.texts))
