-- Streams go on by pieces, and writes in a range by writes in it.
use Rattle.std.proofs.Common.{◌≡◌, ℕ, ◌+◌, ◌-◌, ◌≤◌, List, [], ◌++◌, length, inl, sym, ◌∙◌, ap, subst, arith, append_assoc, length-append}
use Rattle.std.specs.Prelude.{IsTrue}
use Rattle.std.proofs.lemmas.List.{append-nil}
use Rattle.vdisk.specs.Disk.{DiskState, ChangedWithin, Holds}
use Rattle.vdisk.specs.Ranges.{part, part_more, part_apart, part_written, changed_same, changed_then, changed_wider}
use Rattle.vdisk.specs.Steps.{Keeps, TornWithin, keeps_start, keeps_then, keeps_torn}
use Rattle.meta_log.specs.Stream.{streamed, Advances, WritesWithin}

-- the waiting bytes were written
pub flushed : (place : ℕ) (waiting : List ℕ) (old new : DiskState) → place + length waiting ≤ length old.image
    → (IsTrue old.tells → Holds old.image place waiting new.image) → ChangedWithin place (length waiting) old.image new.image
    → Advances [] place waiting old (place + length waiting) [] new
flushed place waiting old new fits written change = record {
  low = omega arith;
  count = omega arith;
  text = λ told from le.
      let front : from + (place - from) ≡ place = omega (arith, le) in
      let span : place + length waiting - from ≡ (place - from) + length waiting = omega (arith, le) in
      let before : part from (place - from) new.image ≡ part from (place - from) old.image = part_apart place (length waiting) from (place - from) old.image new.image (inl (omega (arith, front))) change in
      let there : part (from + (place - from)) (length waiting) new.image ≡ waiting = ap (λ (k : ℕ). part k (length waiting) new.image) front ∙ part_written place old.image waiting new.image fits (written told) in
      ap (λ (q : List ℕ). q ++ []) (ap (λ (k : ℕ). part from k new.image) span ∙ part_more from (place - from) (length waiting) new.image
      ∙ ap (λ (q : List ℕ). q ++ part (from + (place - from)) (length waiting) new.image) before ∙ ap (λ (q : List ℕ). part from (place - from) old.image ++ q) there);
}

-- one piece, and then another
pub advances_then : (xs ys : List ℕ) (p : ℕ) (w : List ℕ) (s : DiskState) (p₁ : ℕ) (w₁ : List ℕ) (s₁ : DiskState) (p₂ : ℕ) (w₂ : List ℕ) (s₂ : DiskState)
    → s₁.tells ≡ s.tells → Advances xs p w s p₁ w₁ s₁ → Advances ys p₁ w₁ s₁ p₂ w₂ s₂ → Advances (xs ++ ys) p w s p₂ w₂ s₂
advances_then xs ys p w s p₁ w₁ s₁ p₂ w₂ s₂ tells first second = record {
  low = omega (arith, first.low, second.low);
  count = omega (arith, first.count, second.count, length-append xs ys);
  text = λ told from le.
      second.text (subst (λ b. IsTrue b) (sym tells) told) from (omega (arith, le, first.low))
      ∙ ap (λ (q : List ℕ). q ++ ys) (first.text told from le) ∙ append_assoc (streamed from p w s) xs ys;
}

pub within_same : (at n : ℕ) (s : DiskState) → WritesWithin at n s s
within_same at n s =
    let run = keeps_start s (λ c. (d : List ℕ) × s.may_leave d × ChangedWithin at n d c) (λ c left. (c, left, changed_same at n c)) in
    record { change = changed_same at n s.image; torn = record { adds = run.adds; now = run.now; tells = run.tells } }

pub torn_wider : (a n b m : ℕ) (x y : DiskState) → b ≤ a → a + n ≤ b + m → TornWithin a n x y → TornWithin b m x y
torn_wider a n b m x y low high torn =
    let run = keeps_torn x y a n x.may_leave (λ c. (d : List ℕ) × x.may_leave d × ChangedWithin b m d c) torn (λ c left. left)
    (λ d c change left. (d, left, changed_wider a n b m d c low high change)) in
    record { adds = run.adds; now = run.now; tells = run.tells }

pub torn_then : (at n : ℕ) (x y z : DiskState) → TornWithin at n x y → TornWithin at n y z → TornWithin at n x z
torn_then at n x y z first second =
    let P : List ℕ → Type 0 = λ c. (d : List ℕ) × x.may_leave d × ChangedWithin at n d c in
    let one : Keeps x y P = record { adds = first.adds; now = first.now; tells = first.tells } in
    let run = keeps_then x y z P one (keeps_torn y z at n P P second first.now (λ d c change from. (from.0, from.1, changed_then at n from.0 d c from.2 change))) in
    record { adds = run.adds; now = run.now; tells = run.tells }

pub within_wider : (a n b m : ℕ) (x y : DiskState) → b ≤ a → a + n ≤ b + m → WritesWithin a n x y → WritesWithin b m x y
within_wider a n b m x y low high one = record {
  change = changed_wider a n b m x.image y.image low high one.change;
  torn = torn_wider a n b m x y low high one.torn;
}

pub within_then : (at n : ℕ) (x y z : DiskState) → WritesWithin at n x y → WritesWithin at n y z → WritesWithin at n x z
within_then at n x y z first second = record {
  change = changed_then at n x.image y.image z.image first.change second.change;
  torn = torn_then at n x y z first.torn second.torn;
}

-- writes up to some place, and then others from there on
pub within_on : (p a p₁ b n : ℕ) (s s₁ s₂ : DiskState) → p ≤ p₁ → a ≤ n → p₁ + b ≤ p + n → WritesWithin p a s s₁ → WritesWithin p₁ b s₁ s₂ → WritesWithin p n s s₂
within_on p a p₁ b n s s₁ s₂ low first_fits second_fits first second = within_then p n s s₁ s₂ (within_wider p a p n s s₁ (omega arith) (omega (arith, first_fits)) first) (within_wider p₁ b p n s₁ s₂ low second_fits second)

-- no piece
pub advances_none : (p : ℕ) (w : List ℕ) (s : DiskState) → Advances [] p w s p w s
advances_none p w s = record { low = omega arith; count = omega arith; text = λ told from le. sym (append-nil (streamed from p w s)) }

-- a stream from its beginning to its end
pub streamed_whole : (text : List ℕ) (from : ℕ) (s : DiskState) (next : ℕ) (s₁ : DiskState) → Advances text from [] s next [] s₁ → IsTrue s.tells
    → part from (length text) s₁.image ≡ text
streamed_whole text from s next s₁ went told =
    let none : from - from ≡ 0 = omega arith in
    let span : next - from ≡ length text = omega (arith, went.count) in
    ap (λ (k : ℕ). part from k s₁.image) (sym span)
    ∙ sym (append-nil (part from (next - from) s₁.image))
    ∙ went.text told from (omega arith)
    ∙ ap (λ (k : ℕ). (part from k s.image ++ []) ++ text) none
