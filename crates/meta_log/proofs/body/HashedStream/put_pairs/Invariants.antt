use Rattle.std.proofs.Common.{◌≡◌, ◌≤◌, ◌+◌, ◌*◌, ◌++◌, ℕ, List, true, length, vec_capacity}
use Rattle.byte_map.specs.Words.{bytes_in}
use Rattle.sha2.specs.Hashers.{Holds256}
use Rattle.meta_log.specs.Short.{are_short}
use Rattle.meta_log.specs.Checkpoint.{body_text}
use Rattle.meta_log.specs.Stream.{Advances, WritesWithin}
use Rattle.meta_log.proofs.body.HashedStream.put_pairs.Given as goal

-- what has gone, and the body of what is left, are the whole body
abbrev pub invariant-loop-key : goal.invariant-loop-key
invariant-loop-key g l =
    let first = l.fn.waiting.items in
    record {
      seen : List ℕ;
      whole : body_text l.map ≡ seen ++ body_text l.walk;
      short : are_short l.walk ≡ true;
      went : Advances seen l.fn.self.stream.place first (g.D.Disk.state l.fn.disk) l.self.stream.place l.waiting.items (g.D.Disk.state l.disk);
      hashed : (m : List ℕ) → Holds256 l.fn.self.hasher m → Holds256 l.self.hasher (m ++ seen);
      few : length l.waiting.items ≤ 65536;
      within : WritesWithin l.fn.self.stream.place (length first + (5 * length l.map + bytes_in l.map)) (g.D.Disk.state l.fn.disk) (g.D.Disk.state l.disk);
      room : vec_capacity l.fn.waiting ≤ vec_capacity l.waiting;
      same : g.D.Disk.is_same l.fn.disk l.disk;
      later : (g.D.Disk.state l.fn.disk).faults ≤ (g.D.Disk.state l.disk).faults;
    }

abbrev pub decreases-loop-key : goal.decreases-loop-key
decreases-loop-key g l = length l.walk
