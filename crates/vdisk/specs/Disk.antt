-- What a disk means at one moment, and what its calls do to that.
use Rattle.std.specs.Prelude.{◌≡◌, ◌⊎◌, ◌<◌, ◌≤◌, ◌+◌, ◌-◌, ◌^◌, ℕ, Bool, List, ◌++◌, length, take, drop, replicate, Result, IsErr}

-- A disk at one moment: whether it tells what it holds, what reads give, what a crash now may leave, the moment,
-- what a crash at some moment from that one on might have left, and how often the disk has failed.
pub record DiskState : Type 1 where
  pub tells : Bool
  pub image : List ℕ
  pub may_leave : List ℕ → Type 0
  pub moment : ℕ
  pub left_since : ℕ → List ℕ → Type 0
  pub faults : ℕ
  -- a size is a u64
  pub small : length image < 2 ^ 64
  -- so is the moment, and so is the count of faults
  pub timed : moment < 2 ^ 64
  pub counted : faults < 2 ^ 64
  -- a disk as it reads is one of its crash images
  pub reads : may_leave image
  -- this moment is one of those since an earlier one
  pub counts_now : (t : ℕ) (c : List ℕ) → t ≤ moment → may_leave c → left_since t c
  -- since this moment there is no other
  pub only_now : (c : List ℕ) → left_since moment c → may_leave c

-- new is old with these bytes at this place
abbrev pub Holds : List ℕ → ℕ → List ℕ → List ℕ → Type 0
Holds old at bytes new = new ≡ take at old ++ bytes ++ drop (at + length bytes) old

-- new is old but for any bytes in a range of n bytes
pub record ChangedWithin (at n : ℕ) (old new : List ℕ) : Type 0 where
  pub before : take at new ≡ take at old
  pub after : drop (at + n) new ≡ drop (at + n) old
  pub size : length new ≡ length old

-- new is old, or old and any bytes behind it, no longer than this
pub record GrownTo (to : ℕ) (old new : List ℕ) : Type 0 where
  pub front : take (length old) new ≡ old
  pub no_shorter : length old ≤ length new
  pub no_longer : length new ≤ to

-- each new outcome of a crash is an old outcome after a step
abbrev pub Follows : (List ℕ → List ℕ → Type 0) → (List ℕ → Type 0) → (List ℕ → Type 0) → Type 0
Follows step old new = (c : List ℕ) → new c → (d : List ℕ) × old d × step d c

-- a crash leaves this and nothing else
abbrev pub Only : List ℕ → (List ℕ → Type 0) → Type 0
Only image outcomes = (c : List ℕ) → outcomes c → c ≡ image

-- What a crash since a moment that is not after old's might have left, it might have left at old, or it has P.
pub record Adds (old new : DiskState) (P : List ℕ → Type 0) : Type 0 where
  pub later : old.moment ≤ new.moment
  pub since : (t : ℕ) (c : List ℕ) → t ≤ old.moment → new.left_since t c → old.left_since t c ⊎ P c

-- one call that may change the disk: time goes on, and nothing that might have been left is forgotten
pub record Elapses (old new : DiskState) : Type 0 where
  pub adds : Adds old new new.may_leave
  pub keeps : (t : ℕ) (c : List ℕ) → t ≤ old.moment → old.left_since t c → new.left_since t c
  pub tells : new.tells ≡ old.tells
  pub rises : old.moment < 2 ^ 64 - 1 → old.moment < new.moment

-- a call that leaves the disk as it was, but for the count of faults
pub record Untouched (old new : DiskState) : Type 0 where
  pub tells : new.tells ≡ old.tells
  pub image : new.image ≡ old.image
  pub moment : new.moment ≡ old.moment
  pub may_leave : (c : List ℕ) → new.may_leave c → old.may_leave c
  pub left_since : (t : ℕ) (c : List ℕ) → new.left_since t c → old.left_since t c
  pub may_leave_too : (c : List ℕ) → old.may_leave c → new.may_leave c
  pub left_since_too : (t : ℕ) (c : List ℕ) → old.left_since t c → new.left_since t c

-- a call is refused at the last moment
abbrev pub RefusedAtTheEnd : {T E : Type 0} → DiskState → Result T E → Type 0
RefusedAtTheEnd old result = old.moment ≡ 2 ^ 64 - 1 → IsErr result

-- so many bytes 0
abbrev pub zeros : ℕ → List ℕ
zeros n = replicate n 0
