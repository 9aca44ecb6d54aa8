-- What a disk in memory means.
use Rattle.std.specs.Prelude.{◌⊎◌, ℕ, List, reverse, get_or, true, refl}
use Rattle.std.proofs.Common.{inl, inr}
use Rattle.vdisk.specs.Disk.{DiskState}
use Rattle.vdisk.specs.Past.{LeftByCrash, Had, byte_at_sync}
use Rattle.vdisk.specs.Picks.{IsPicked}
use Rattle.vdisk.specs.declared.record.Event.{Event}
use Rattle.vdisk.specs.declared.faults.FaultPlan.{FaultPlan}
use Rattle.vdisk.specs.declared.memory_disk.MemoryDisk.{MemoryDisk}

-- its record, the newest event first
abbrev pub past_of : MemoryDisk → List Event
past_of m = reverse m.events.items

abbrev pub only_now : (m : MemoryDisk) (c : List ℕ)
    → LeftByCrash m.bytes.items (past_of m) c ⊎ Had m.moment m.bytes.items (past_of m) c
    → LeftByCrash m.bytes.items (past_of m) c
only_now m c (inl now) = now
only_now m c (inr had) = absurd (m.ends_before_now c had)

abbrev pub memory_state : MemoryDisk → DiskState
memory_state m = record {
  tells = true;
  image = m.bytes.items;
  may_leave = LeftByCrash m.bytes.items (past_of m);
  moment = m.moment;
  left_since = λ t c. LeftByCrash m.bytes.items (past_of m) c ⊎ Had t m.bytes.items (past_of m) c;
  faults = m.faults;
  small = m.small;
  timed = m.timed;
  counted = m.counted;
  reads = record { size = refl; clean = λ i out. refl };
  counts_now = λ t c le now. inl now;
  only_now = only_now m;
}

abbrev pub memory_plan : MemoryDisk → FaultPlan
memory_plan m = m.plan

-- the byte of place i as it was at the last sync, 0 past the size of then
abbrev pub synced_byte : MemoryDisk → ℕ → ℕ
synced_byte m i = byte_at_sync (past_of m) i (get_or m.bytes.items i 0)

-- a crash that leaves this is the one that the pick names
abbrev pub Picks : MemoryDisk → ℕ → List ℕ → Type 0
Picks m pick c = IsPicked m.bytes.items (past_of m) pick c
