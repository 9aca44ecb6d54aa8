-- What is left of a script once bytes were handed out or read.
use Rattle.std.proofs.Common.{◌≡◌, ◌≤◌, ◌<◌, ◌+◌, ◌-◌, ℕ, List, [], ◌++◌, length, take, drop, Option, Some, refl, sym, ◌∙◌, ap, arith, length-take, length-drop}
use Rattle.std.proofs.lemmas.List.{drop-take, drop-drop, drop-append-le, take-append-drop, take-append-le}
use Rattle.script_items.specs.Input.{ahead, IsLeft, HasRead}
use Rattle.script_items.specs.declared.input.Input.{Input}

pub passed : (items : List ℕ) (s e n : ℕ) → n ≤ e - s → take (e - (s + n)) (drop (s + n) items) ≡ drop n (take (e - s) (drop s items))
passed items s e n h =
    let split : e - s ≡ n + (e - (s + n)) = omega arith in
    ap (take (e - (s + n))) (sym (drop-drop n s items)) ∙ (sym (drop-take n (e - (s + n)) (drop s items)) ∙ ap (λ k. drop n (take k (drop s items))) (sym split))

pub none_ahead : (items : List ℕ) (s e : ℕ) → e ≤ s → take (e - s) (drop s items) ≡ []
none_ahead items s e h = let none : e - s ≡ 0 = omega arith in rw none refl

pub length_ahead : (items : List ℕ) (s e : ℕ) → s ≤ e → e ≤ length items → length (take (e - s) (drop s items)) ≡ e - s
length_ahead items s e h l = omega (arith, length-take (e - s) (drop s items), length-drop s items)

pub left_passed : (old now : Input) (source : Option (List ℕ)) (total n : ℕ) (s : List ℕ) → n ≤ length (ahead old) → ahead now ≡ drop n (ahead old) → now.came ≡ old.came
    → IsLeft old source total s → IsLeft now source total (drop n s)
left_passed old now source total n s h bytes came so = record {
  rest = so.rest;
  told = so.told;
  whole = ap (drop n) so.whole ∙ (drop-append-le n (ahead old) so.rest h ∙ ap (λ x. x ++ so.rest) (sym bytes));
  counted = omega (arith, so.counted);
}

-- bytes of the source stand ahead
pub left_read : (old now : Input) (before after : Option (List ℕ)) (total n : ℕ) (s out : List ℕ) → ahead old ≡ [] → (so : IsLeft old before total s)
    → (after ≡ Some (drop n so.rest)) × (take n out ≡ take n so.rest) × (n ≤ length so.rest) × (n ≡ 0 → length so.rest ≡ 0)
    → ahead now ≡ take n out → now.came ≡ old.came + n → IsLeft now after total s
left_read old now before after total n s out none so read bytes came = record {
  rest = drop n so.rest;
  told = read.0;
  whole = so.whole ∙ (ap (λ x. x ++ so.rest) none ∙ (sym (take-append-drop n so.rest) ∙ ap (λ x. x ++ drop n so.rest) (sym read.1 ∙ sym bytes)));
  counted = omega (arith, so.counted, length-drop n so.rest, read.2);
}

-- bytes of the source were handed out
pub left_given : (old now : Input) (before after : Option (List ℕ)) (total n : ℕ) (s out : List ℕ) → ahead old ≡ [] → (so : IsLeft old before total s)
    → (after ≡ Some (drop n so.rest)) × (take n out ≡ take n so.rest) × (n ≤ length so.rest) × (n ≡ 0 → length so.rest ≡ 0)
    → ahead now ≡ [] → now.came ≡ old.came + n → HasRead n out s now after total
left_given old now before after total n s out none so read bytes came =
    let is : s ≡ so.rest = so.whole ∙ ap (λ x. x ++ so.rest) none in
    record {
      read = read.1 ∙ ap (take n) (sym is);
      over = λ h. ap length is ∙ read.3 h;
      left = record {
        rest = drop n so.rest;
        told = read.0;
        whole = ap (drop n) is ∙ sym (ap (λ x. x ++ drop n so.rest) bytes);
        counted = omega (arith, so.counted, length-drop n so.rest, read.2);
      };
    }

-- bytes that were read ahead were handed out
pub left_taken : (old now : Input) (source : Option (List ℕ)) (total n : ℕ) (s out : List ℕ) → n ≤ length (ahead old) → 0 < n → take n out ≡ take n (ahead old)
    → ahead now ≡ drop n (ahead old) → now.came ≡ old.came → IsLeft old source total s → HasRead n out s now source total
left_taken old now source total n s out h some read bytes came so = record {
  read = read ∙ (sym (take-append-le n (ahead old) so.rest h) ∙ ap (take n) (sym so.whole));
  over = λ none. absurd (omega arith);
  left = left_passed old now source total n s h bytes came so;
}

pub left_over : (old : Input) (source : Option (List ℕ)) (total : ℕ) (s : List ℕ) → ahead old ≡ [] → (so : IsLeft old source total s) → length so.rest ≡ 0 → length s ≡ 0
left_over old source total s none so h = ap length (so.whole ∙ ap (λ x. x ++ so.rest) none) ∙ h
