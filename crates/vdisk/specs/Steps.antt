-- How what a crash may leave goes on from call to call.
use Rattle.std.specs.Prelude.{◌≡◌, ◌⊎◌, ◌≤◌, ◌+◌, ℕ, List, refl}
use Rattle.std.proofs.Common.{inl, inr, ⊎_elim, ◌∙◌, arith}
use Rattle.vdisk.specs.Ranges.{part, part_apart}
use Rattle.vdisk.specs.Disk.{DiskState, Adds, Elapses, Untouched, Follows, ChangedWithin}

-- From old to new a crash at any moment leaves what has P, and so it does at new.
pub record Keeps (old new : DiskState) (P : List ℕ → Type 0) : Type 0 where
  pub adds : Adds old new P
  pub now : (c : List ℕ) → new.may_leave c → P c
  pub tells : new.tells ≡ old.tells

-- before the first call
pub keeps_start : (s : DiskState) (P : List ℕ → Type 0) → ((c : List ℕ) → s.may_leave c → P c) → Keeps s s P
keeps_start s P here = record {
  adds = record { later = omega arith; since = λ t c le left. inl left };
  now = here;
  tells = refl;
}

-- one run, and then another
pub keeps_then : (a b c : DiskState) (P : List ℕ → Type 0) → Keeps a b P → Keeps b c P → Keeps a c P
keeps_then a b c P first second = record {
  adds = record {
    later = omega (arith, first.adds.later, second.adds.later);
    since = λ t image le left.
        ⊎_elim (first.adds.since t image le) (λ p. inr p)
        (second.adds.since t image (omega (arith, le, first.adds.later)) left);
  };
  now = second.now;
  tells = second.tells ∙ first.tells;
}

-- what is kept may be said more weakly
pub keeps_as : (a b : DiskState) (P Q : List ℕ → Type 0) → ((c : List ℕ) → P c → Q c) → Keeps a b P → Keeps a b Q
keeps_as a b P Q weaker run = record {
  adds = record {
    later = run.adds.later;
    since = λ t c le left. ⊎_elim (λ was. inl was) (λ p. inr (weaker c p)) (run.adds.since t c le left);
  };
  now = λ c left. weaker c (run.now c left);
  tells = run.tells;
}

-- one call, after which a crash leaves what has P
pub keeps_call : (a b : DiskState) (P : List ℕ → Type 0) → Elapses a b → ((c : List ℕ) → b.may_leave c → P c)
    → Keeps a b P
keeps_call a b P time here = record {
  adds = record {
    later = time.adds.later;
    since = λ t c le left. ⊎_elim (λ was. inl was) (λ now. inr (here c now)) (time.adds.since t c le left);
  };
  now = here;
  tells = time.tells;
}

-- a read
pub keeps_read : (a b : DiskState) (P : List ℕ → Type 0) → Untouched a b
    → ((c : List ℕ) → a.may_leave c → P c) → Keeps a b P
keeps_read a b P same here = record {
  adds = record {
    later = omega (arith, same.moment);
    since = λ t c le left. inl (same.left_since t c left);
  };
  now = λ c left. here c (same.may_leave c left);
  tells = same.tells;
}

-- a write in a range whose bytes P does not see
pub keeps_write : (a b : DiskState) (at n : ℕ) (P : List ℕ → Type 0) → Elapses a b
    → Follows (ChangedWithin at n) a.may_leave b.may_leave
    → ((d c : List ℕ) → ChangedWithin at n d c → P d → P c) → ((c : List ℕ) → a.may_leave c → P c) → Keeps a b P
keeps_write a b at n P time crash blind here =
    keeps_call a b P time (λ c left. let from = crash c left in blind from.0 c from.2 (here from.0 from.1))

-- What a crash since a run began might have left.
pub keeps_each : (a b : DiskState) (P : List ℕ → Type 0) → Keeps a b P → ((c : List ℕ) → a.may_leave c → P c)
    → (c : List ℕ) → b.left_since a.moment c → P c
keeps_each a b P run here c left =
    ⊎_elim (λ was. here c (a.only_now c was)) (λ p. p) (run.adds.since a.moment c (omega arith) left)

-- The same runs of calls in a range, which end with a sync: a crash leaves what it might have left before, but for
-- bytes of the range.
pub record TornWithin (at n : ℕ) (old new : DiskState) : Type 0 where
  pub adds : Adds old new (λ c. (d : List ℕ) × old.may_leave d × ChangedWithin at n d c)
  pub now : (c : List ℕ) → new.may_leave c → (d : List ℕ) × old.may_leave d × ChangedWithin at n d c
  pub tells : new.tells ≡ old.tells

pub torn_write : (a b : DiskState) (at n : ℕ) → Elapses a b
    → Follows (ChangedWithin at n) a.may_leave b.may_leave → TornWithin at n a b
torn_write a b at n time crash =
    let run = keeps_call a b (λ c. (d : List ℕ) × a.may_leave d × ChangedWithin at n d c) time
    (λ c left. crash c left) in
    record { adds = run.adds; now = run.now; tells = run.tells }

pub torn_sync : (a b c : DiskState) (at n : ℕ) → TornWithin at n a b → Elapses b c
    → ((image : List ℕ) → c.may_leave image → b.may_leave image) → TornWithin at n a c
torn_sync a b c at n torn time crash =
    let P : List ℕ → Type 0 = λ image. (d : List ℕ) × a.may_leave d × ChangedWithin at n d image in
    let first : Keeps a b P = record { adds = torn.adds; now = torn.now; tells = torn.tells } in
    let run = keeps_then a b c P first (keeps_call b c P time (λ image left. torn.now image (crash image left))) in
    record { adds = run.adds; now = run.now; tells = run.tells }

-- a write and its sync, in a range whose bytes take P to Q
pub keeps_torn : (a b : DiskState) (at n : ℕ) (P Q : List ℕ → Type 0) → TornWithin at n a b
    → ((c : List ℕ) → a.may_leave c → P c) → ((d c : List ℕ) → ChangedWithin at n d c → P d → Q c) → Keeps a b Q
keeps_torn a b at n P Q torn here carry = record {
  adds = record {
    later = torn.adds.later;
    since = λ t c le left.
        ⊎_elim (λ was. inl was) (λ from. inr (carry from.0 c from.2 (here from.0 from.1)))
        (torn.adds.since t c le left);
  };
  now = λ c left. let from = torn.now c left in carry from.0 c from.2 (here from.0 from.1);
  tells = torn.tells;
}

-- What a crash since a moment before a call might have left, it might have left by then, or it may leave after the
-- call.
pub since_call : (a b : DiskState) → Elapses a b → (t : ℕ) (c : List ℕ) → t ≤ a.moment → b.left_since t c
    → a.left_since t c ⊎ b.may_leave c
since_call a b time = time.adds.since

-- Time goes on from one call to the next.
pub since_calls : (a b c : DiskState) → Elapses a b → Elapses b c → (t : ℕ) (image : List ℕ) → t ≤ a.moment
    → c.left_since t image → a.left_since t image ⊎ (b.may_leave image ⊎ c.may_leave image)
since_calls a b c first second t image le left =
    ⊎_elim (λ by_b. ⊎_elim (λ by_a. inl by_a) (λ at_b. inr (inl at_b)) (first.adds.since t image le by_b))
    (λ at_c. inr (inr at_c))
    (second.adds.since t image (omega (arith, le, first.adds.later)) left)

-- A write leaves each byte outside its range as a crash before it might have left it: what nobody names may be written.
pub unnamed_stays : (a b : DiskState) (at n place len : ℕ)
    → Follows (ChangedWithin at n) a.may_leave b.may_leave → (place + len ≤ at) ⊎ (at + n ≤ place)
    → (c : List ℕ) → b.may_leave c → (d : List ℕ) × a.may_leave d × (part place len c ≡ part place len d)
unnamed_stays a b at n place len crash apart c left =
    let from = crash c left in (from.0, from.1, part_apart at n place len from.0 c apart from.2)
