-- A stretch of a file that is read at once.
use Rattle.std.specs.Prelude.{◌≡◌, ◌≤◌, ◌<◌, ◌+◌, ◌/◌, ℕ, List, slice_index}
use Rattle.std.specs.FinMap.{find}
use Rattle.table_records.specs.Keys.{pair_cmp}
use Rattle.volume_inside.specs.declared.layout.TheConstants.{CLUSTER_BYTES}
use Rattle.volume_inside.specs.Inside.{Inside}
use Rattle.volume_inside.specs.Typed.{Typed}
use Rattle.volume_files.specs.Reads.{byte_at}
use Rattle.volume_files.specs.declared.stretches.Stretch.{Stretch}

-- Some bytes of a file from a place on, of at most so many that are wanted. Where they are not all, it has the extent of
-- the block of the byte behind them.
pub record IsStretch (t : Typed) (file place most : ℕ) (s : Stretch) : Type 0 where
  pub some : 0 < s.count
  pub fits : s.count ≤ most
  pub next : s.count < most → s.next ≡ find pair_cmp (file, (place + s.count) / CLUSTER_BYTES) t.extents

-- the first so many bytes are those of a file from a place on
abbrev pub HasBytes : Inside → ℕ → ℕ → ℕ → List ℕ → Type 0
HasBytes i file place count out = (k : ℕ) → k < count → slice_index out k ≡ byte_at i file (place + k)
