-- Changes within a range.
use Rattle.std.specs.Prelude.{◌≡◌, ◌⊎◌, ◌≤◌, ◌+◌, ◌-◌, ℕ, List, ◌++◌, length, take, drop, refl}
use Rattle.std.proofs.Common.{inl, inr, sym, ◌∙◌, ap, subst, arith, length-take, length-drop}
use Rattle.std.proofs.lemmas.List.{take-take, drop-drop, drop-take, take_at, drop_at, append_assoc, length-take-le}
use Rattle.std.proofs.Math.Seq.{take-add}
use Rattle.vdisk.specs.Disk.{ChangedWithin, Holds}

pub changed_same : (at n : ℕ) (x : List ℕ) → ChangedWithin at n x x
changed_same at n x = record { before = refl; after = refl; size = refl }

pub changed_then : (at n : ℕ) (x y z : List ℕ) → ChangedWithin at n x y → ChangedWithin at n y z
    → ChangedWithin at n x z
changed_then at n x y z first second = record {
  before = second.before ∙ first.before;
  after = second.after ∙ first.after;
  size = second.size ∙ first.size;
}

pub same_front : (a b : ℕ) (x y : List ℕ) → a ≤ b → take b y ≡ take b x → take a y ≡ take a x
same_front a b x y le same = sym (take-take a b y le) ∙ ap (λ (l : List ℕ). take a l) same ∙ take-take a b x le

pub same_back : (a b : ℕ) (x y : List ℕ) → a ≤ b → drop a y ≡ drop a x → drop b y ≡ drop b x
same_back a b x y le same =
    let whole : a + (b - a) ≡ b = omega (arith, le) in
    let P : ℕ → Type 0 = λ k. drop k y ≡ drop k x in
    subst P whole (sym (drop-drop (b - a) a y) ∙ ap (λ (l : List ℕ). drop (b - a) l) same ∙ drop-drop (b - a) a x)

-- what lies in a range lies in a wider one
pub changed_wider : (a n b m : ℕ) (x y : List ℕ) → b ≤ a → a + n ≤ b + m → ChangedWithin a n x y → ChangedWithin b m x y
changed_wider a n b m x y low high change = record {
  before = same_front b a x y low change.before;
  after = same_back (a + n) (b + m) x y high change.after;
  size = change.size;
}

-- a part of a list, at a place
abbrev pub part : ℕ → ℕ → List ℕ → List ℕ
part at len image = take len (drop at image)

pub length-part : (at len : ℕ) (x : List ℕ) → at + len ≤ length x → length (part at len x) ≡ len
length-part at len x fits = omega (arith, length-take len (drop at x), length-drop at x)

-- a part that a change does not touch
pub part_apart : (a n at len : ℕ) (x y : List ℕ) → (at + len ≤ a) ⊎ (a + n ≤ at) → ChangedWithin a n x y
    → part at len y ≡ part at len x
part_apart a n at len x y apart change = elim apart [
  | inl low ↦ sym (drop-take at len y)
      ∙ ap (λ (l : List ℕ). drop at l) (same_front (at + len) a x y low change.before) ∙ drop-take at len x
  | inr high ↦ ap (λ (l : List ℕ). take len l) (same_back (a + n) at x y high change.after)
]

-- a change inside a part
pub changed_part : (at len k n : ℕ) (x y : List ℕ) → at + len ≤ length x → k + n ≤ len
    → ChangedWithin (at + k) n x y → ChangedWithin k n (part at len x) (part at len y)
changed_part at len k n x y fits within change =
    let rest : (k + n) + (len - (k + n)) ≡ len = omega (arith, within) in
    let tail : (l : List ℕ) → drop (k + n) (part at len l) ≡ take (len - (k + n)) (drop (at + k + n) l) = λ l.
    ap (λ (j : ℕ). drop (k + n) (take j (drop at l))) (sym rest) ∙ drop-take (k + n) (len - (k + n)) (drop at l)
    ∙ ap (λ (q : List ℕ). take (len - (k + n)) q) (drop-drop (k + n) at l)
    ∙ (let same : at + (k + n) ≡ at + k + n = omega arith in ap (λ (j : ℕ). take (len - (k + n)) (drop j l)) same) in
    let head : (l : List ℕ)
    → take k (part at len l) ≡ drop at (take (at + k) l)
    = λ l. take-take k len (drop at l) (omega (arith, within)) ∙ sym (drop-take at k l) in
    record {
      before = head y ∙ ap (λ (l : List ℕ). drop at l) change.before ∙ sym (head x);
      after = tail y ∙ ap (λ (l : List ℕ). take (len - (k + n)) l) change.after ∙ sym (tail x);
      size = length-part at len y (omega (arith, change.size, fits)) ∙ sym (length-part at len x fits);
    }

-- two parts side by side
pub part_more : (at a b : ℕ) (x : List ℕ) → part at (a + b) x ≡ part at a x ++ part (at + a) b x
part_more at a b x = take-add a b (drop at x) ∙ ap (λ (l : List ℕ). take a (drop at x) ++ take b l) (drop-drop a at x)

-- a part of a part
pub part_part : (at len k n : ℕ) (x : List ℕ) → k + n ≤ len → part k n (part at len x) ≡ part (at + k) n x
part_part at len k n x within =
    let whole : k + (len - k) ≡ len = omega (arith, within) in
    ap (λ (j : ℕ). take n (drop k (take j (drop at x)))) (sym whole)
    ∙ ap (λ (l : List ℕ). take n l) (drop-take k (len - k) (drop at x))
    ∙ take-take n (len - k) (drop k (drop at x)) (omega (arith, within))
    ∙ ap (λ (l : List ℕ). take n l) (drop-drop k at x)

-- what was written stands there
pub part_written : (at : ℕ) (x b y : List ℕ) → at + length b ≤ length x → Holds x at b y → part at (length b) y ≡ b
part_written at x b y fits holds =
    ap (λ (l : List ℕ). take (length b) (drop at l)) (holds ∙ append_assoc (take at x) b (drop (at + length b) x))
    ∙ ap (λ (l : List ℕ). take (length b) l)
    (drop_at (take at x) (b ++ drop (at + length b) x) at (length-take-le at x (omega arith)))
    ∙ take_at b (drop (at + length b) x) (length b) refl
