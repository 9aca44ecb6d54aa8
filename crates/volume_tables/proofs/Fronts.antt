-- The superblock in its first 44 bytes, and what a disk that was synced and read may leave.
use Rattle.std.specs.Prelude.{◌≡◌, ◌≤◌, ℕ, List, take, drop, length, Option, Some, None, IfSome, IfNone}
use Rattle.std.proofs.Common.{sym, subst, arith, ◌∙◌}
use Rattle.vdisk.specs.Disk.{DiskState, Untouched, Elapses}
use Rattle.vdisk.specs.Steps.{keeps_call, keeps_read, keeps_then}
use Rattle.meta_log.specs.Opened.{IsOnlyRead}
use Rattle.volume_inside.specs.Superblock.{IsSuperblock, HasSuperblock}
use Rattle.volume_inside.proofs.Superblocks.{superblock_of_front, front_of_superblock}

pub superblock_here : (n : ℕ) (bytes image : List ℕ) → bytes ≡ take 44 (drop 0 image) → 4096 ≤ length image
    → IsSuperblock n bytes → HasSuperblock n image
superblock_here n bytes image read whole is = record {
  whole = whole;
  is = front_of_superblock n 4096 image (omega arith)
      (superblock_of_front n 44 image (omega arith) (subst (λ (b : List ℕ). IsSuperblock n b) read is));
}

pub superblock_there : (n : ℕ) (bytes image : List ℕ) → bytes ≡ take 44 (drop 0 image) → HasSuperblock n image
    → IsSuperblock n bytes
superblock_there n bytes image read has =
    subst (λ (b : List ℕ). IsSuperblock n b) (sym read)
    (front_of_superblock n 44 image (omega arith) (superblock_of_front n 4096 image (omega arith) has.is))

-- a sync is only read after
pub synced : (a b : DiskState) → Elapses a b → ((c : List ℕ) → b.may_leave c → a.may_leave c) → b.image ≡ a.image
    → a.faults ≤ b.faults → IsOnlyRead a b
synced a b time crash image later = record {
  keeps = keeps_call a b a.may_leave time crash;
  image = image;
  later =
      later;
}

pub read_on : (a b c : DiskState) → IsOnlyRead a b → Untouched b c → b.faults ≤ c.faults → IsOnlyRead a c
read_on a b c first same later = record {
  keeps = keeps_then a b c a.may_leave first.keeps (keeps_read b c a.may_leave same first.keeps.now);
  image = same.image ∙ first.image;
  later = omega (arith, first.later, later);
}

pub some_then : (o : Option ℕ) (P Q : ℕ → Type 0) → ((n : ℕ) → P n → Q n) → IfSome o P → IfSome o Q
some_then None P Q then p = tt
some_then (Some n) P Q then p = then n p

pub none_then : (o : Option ℕ) (A B : Type 0) → (A → B) → IfNone o A → IfNone o B
none_then None A B then a = then a
none_then (Some n) A B then a = tt
