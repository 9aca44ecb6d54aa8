-- Payloads read piece by piece.
use Rattle.std.proofs.Common.{◌≡◌, ◌≤◌, ◌+◌, ◌==◌, ℕ, Bool, true, false, not, List, [], ◌∷◌, ◌++◌, length, take, drop, get_or, Option, Result, Ok, Err, OnOk, refl, sym, ◌∙◌, ap, subst, arith, length-drop, length-append, inl, inr}
use Rattle.std.proofs.lemmas.Bool.{cases_lt}
use Rattle.std.proofs.lemmas.List.{take_all, drop_all, drop_more, drop-drop, take-append-le, length-take-le, drop-take}
use Rattle.std.proofs.Math.Seq.{take-append-add, take-add}
use borrow.Rule.Slice.PartMut.{put_mid, post_of}
use Rattle.script_items.specs.Input.{IsLeft, HasRead, IsFilled}
use Rattle.script_items.specs.declared.input.Input.{Input}
use Rattle.script_items.specs.Script.{behind_line, ends_well}
use Rattle.script_items.specs.Reading.{IsReadUpTo, IsPayload}

taken_on : (out piece post s : List ℕ) (done n : ℕ) → done ≤ length out → n ≤ length piece → take done out ≡ take done s → take n piece ≡ take n (drop done s)
    → take (done + n) (take done out ++ (piece ++ post)) ≡ take (done + n) s
taken_on out piece post s done n h few first second =
    let size : length (take done out) ≡ done = length-take-le done out h in
    let apart : take (done + n) (take done out ++ (piece ++ post)) ≡ take done out ++ take n (piece ++ post) =
    ap (λ k. take (k + n) (take done out ++ (piece ++ post))) (sym size) ∙ take-append-add (take done out) (piece ++ post) n in
    apart ∙ (ap (λ x. take done out ++ x) (take-append-le n piece post few ∙ second) ∙ (ap (λ x. x ++ take n (drop done s)) first ∙ sym (take-add done n s)))

pub read_on : (old now : Input) (before after : Option (List ℕ)) (total : ℕ) (s out piece : List ℕ) (k done n : ℕ) → done ≤ length out → n ≤ length piece
    → IsReadUpTo done out s old before total → HasRead n piece (drop done s) now after total → IsReadUpTo (done + n) (put_mid done k out piece) s now after total
read_on old now before after total s out piece k done n h few so read = record {
  read = taken_on out piece (post_of done k out) s done n h few so.read read.read;
  left = subst (λ (x : List ℕ). IsLeft now after total x) (drop-drop n done s) read.left;
}

pub put_within : (out piece : List ℕ) (k done n : ℕ) → done ≤ length out → n ≤ length piece → done + n ≤ length (put_mid done k out piece)
put_within out piece k done n h few =
    let size : length (take done out) ≡ done = length-take-le done out h in
    omega (arith, length-append (take done out) (piece ++ post_of done k out), length-append piece (post_of done k out))

pub filled_whole : (input : Input) (source : Option (List ℕ)) (total : ℕ) (s out : List ℕ) (done : ℕ) → done ≡ length out → IsReadUpTo done out s input source total → IsFilled done out s input source total
filled_whole input source total s out done whole so = record {
  read = so.read ∙ ap (λ k. take k s) whole;
  left = subst (λ (k : ℕ). IsLeft input source total (drop k s)) whole so.left;
}

pub filled_over : (old now : Input) (before after : Option (List ℕ)) (total : ℕ) (s out piece : List ℕ) (k done n : ℕ) → done ≤ length out → n ≡ 0
    → IsReadUpTo done out s old before total → HasRead n piece (drop done s) now after total → IsFilled done (put_mid done k out piece) s now after total
filled_over old now before after total s out piece k done n h zero so read =
    let short : length s ≤ done = omega (arith, length-drop done s, read.over zero) in
    let size : length (take done out) ≡ done = length-take-le done out h in
    let wide : done ≤ length (put_mid done k out piece) = omega (arith, length-append (take done out) (piece ++ post_of done k out)) in
    let front : take done (put_mid done k out piece) ≡ take done out = take-append-le done (take done out) (piece ++ post_of done k out) (omega arith) ∙ take_all done (take done out) (omega arith) in
    record {
      read = front ∙ (so.read ∙ (take_all done s short ∙ sym (take_all (length (put_mid done k out piece)) s (omega arith))));
      left = subst (λ (x : List ℕ). IsLeft now after total x) (ap (λ k. drop k (drop done s)) zero ∙ (drop_all done s short ∙ sym (drop_all (length (put_mid done k out piece)) s (omega arith)))) read.left;
    }

-- the payload was not followed by another byte than a newline
behind_well : (s : List ℕ) (count : ℕ) → ends_well (drop count (take (count + 1) s)) ≡ true → behind_line (drop count s) ≡ drop (count + 1) s
behind_well s count h = elim (cases_lt count (length s)) [
  | inl more ↦
      let is : drop count s ≡ get_or s count 0 ∷ drop (count + 1) s = drop_more s count 0 more in
      let one : drop count (take (count + 1) s) ≡ get_or s count 0 ∷ [] = drop-take count 1 s ∙ ap (take 1) is in
      let newline : (get_or s count 0 == 10) ≡ true = sym (ap ends_well one) ∙ h in
      ap behind_line is ∙ rw newline refl
  | inr short ↦ ap behind_line (drop_all count s short) ∙ sym (drop_all (count + 1) s (omega arith))
]

-- it was
behind_spoilt : (s : List ℕ) (count : ℕ) → ends_well (drop count (take (count + 1) s)) ≡ false → behind_line (drop count s) ≡ behind_line (drop (count + 1) s)
behind_spoilt s count h = elim (cases_lt count (length s)) [
  | inl more ↦
      let is : drop count s ≡ get_or s count 0 ∷ drop (count + 1) s = drop_more s count 0 more in
      let one : drop count (take (count + 1) s) ≡ get_or s count 0 ∷ [] = drop-take count 1 s ∙ ap (take 1) is in
      let other : (get_or s count 0 == 10) ≡ false = sym (ap ends_well one) ∙ h in
      ap behind_line is ∙ rw other refl
  | inr short ↦ ap behind_line (drop_all count s short ∙ sym (drop_all (count + 1) s (omega arith)))
]

untrue : (b : Bool) → not b ≡ false → b ≡ true
untrue true h = refl
untrue false h = sym h

true_not : (b : Bool) → not b ≡ true → b ≡ false
true_not true h = sym h
true_not false h = refl

pub payload_whole : (input : Input) (source : Option (List ℕ)) (total count n : ℕ) (s out payload : List ℕ) → length out ≡ count + 1 → IsFilled n out s input source total → payload ≡ take n out
    → not (ends_well (drop count payload)) ≡ false → IsPayload count s payload input source total
payload_whole input source total count n s out payload size so same well =
    let is : payload ≡ take (count + 1) s = same ∙ (so.read ∙ ap (λ k. take k s) size) in
    let good : ends_well (drop count (take (count + 1) s)) ≡ true = sym (ap (λ x. ends_well (drop count x)) is) ∙ untrue (ends_well (drop count payload)) well in
    record {
      payload_is = is;
      left = subst (λ (x : List ℕ). IsLeft input source total x) (ap (λ k. drop k s) size ∙ sym (behind_well s count good)) so.left;
    }

pub payload_spoilt : {E : Type 0} (r : Result (Unit {0}) E) (input now : Input) (source after : Option (List ℕ)) (total count n : ℕ) (s out payload : List ℕ) → length out ≡ count + 1 → IsFilled n out s input source total
    → payload ≡ take n out → not (ends_well (drop count payload)) ≡ true
    → ((bytes : List ℕ) → IsLeft input source total bytes → OnOk r (IsLeft now after total (behind_line bytes))) → OnOk r (IsPayload count s payload now after total)
payload_spoilt (Ok x) input now source after total count n s out payload size so same bad skipped =
    let is : payload ≡ take (count + 1) s = same ∙ (so.read ∙ ap (λ k. take k s) size) in
    let other : ends_well (drop count (take (count + 1) s)) ≡ false = sym (ap (λ x. ends_well (drop count x)) is) ∙ true_not (ends_well (drop count payload)) bad in
    record {
      payload_is = is;
      left = subst (λ (x : List ℕ). IsLeft now after total x) (sym (behind_spoilt s count other)) (skipped (drop (count + 1) s) (subst (λ (k : ℕ). IsLeft input source total (drop k s)) size so.left));
    }
payload_spoilt (Err e) input now source after total count n s out payload size so same bad skipped = tt

pub spoilt_of : (seen payload : List ℕ) (count : ℕ) {test : Bool} → seen ≡ payload → not (ends_well (drop count seen)) ≡ test → not (ends_well (drop count payload)) ≡ test
spoilt_of seen payload count same h = sym (ap (λ xs. not (ends_well (drop count xs))) same) ∙ h
