-- What a volume has spent, what a call adds to it, and what is spent where nothing is left for a call.
use Rattle.std.specs.Prelude.{◌≡◌, ◌≤◌, ◌<◌, ◌+◌, ◌-◌, ◌*◌, ◌^◌, ℕ, false, true, [], ◌∷◌, length}
use Rattle.groundwork.specs.declared.limits.TheConstants.{LAST_ID}
use Rattle.vdisk.specs.declared.disk.Disk.{Ghosts}
use Rattle.meta_log.specs.Meta.{last_epoch}
use Rattle.plain_volume.specs.Volume.{Volume}
use Rattle.plain_volume.specs.declared.call.Call.{Call}
use Rattle.plain_volume.specs.declared.call.Call.TheVariants.{Create, Write, SetLength, Rename, Delete, Read, Digest}
use Rattle.plain_volume.specs.declared.call.Call.TheVariants.{Stat, Next, Flush}
use Rattle.plain_volume.specs.declared.call.Fault.{Fault}
use Rattle.plain_volume.specs.declared.call.Fault.TheVariants.{BadName, NoFile, Exists, OutsideFile, TooLarge, Worn}
use Rattle.plain_volume.specs.declared.call.Fault.TheVariants.{TableFull, Full, Failed, Damaged, Memory}
use Rattle.volume_inside.specs.Fresh.{fresh_tables}
use Rattle.volume_inside.specs.Layout.{half_bytes, data_clusters}
use Rattle.volume_inside.specs.Named.{clusters_of}
use Rattle.volume_inside.specs.Rules.{next_id_of}
use Rattle.volume_tables.specs.Log.{log_epoch}
use Rattle.volume_tables.specs.Spending.{aside}
use Rattle.volume_tables.specs.Tables.{tables_now}
use Rattle.volume_files.specs.Needs.{touched_at}
use Rattle.volume_core.specs.Volumes.{tables_of, clusters_in, view_now, stopped}
use Rattle.volume_core.specs.declared.volume.Volume.{Volume as Mounted}

-- ---- what a call takes

-- the clusters that a call touches: a write alone touches any
abbrev pub touched_by : Call → ℕ
touched_by (Create name) = 0
touched_by (Write name at bytes) = touched_at at bytes
touched_by (SetLength name len) = 0
touched_by (Rename from to) = 0
touched_by (Delete name) = 0
touched_by (Read name at count) = 0
touched_by (Digest name) = 0
touched_by (Stat name) = 0
touched_by (Next after) = 0
touched_by Flush = 0

-- 1 for a call that may draw an id or take an epoch, 0 for one that only reads
abbrev pub changed_by : Call → ℕ
changed_by (Create name) = 1
changed_by (Write name at bytes) = 1
changed_by (SetLength name len) = 1
changed_by (Rename from to) = 1
changed_by (Delete name) = 1
changed_by (Read name at count) = 0
changed_by (Digest name) = 0
changed_by (Stat name) = 0
changed_by (Next after) = 0
changed_by Flush = 1

-- the bytes of tables that a call asks for, but for clusters: a file and its name, or a further name
abbrev pub named_by : Call → ℕ
named_by (Create name) = 52 + length name
named_by (Write name at bytes) = 0
named_by (SetLength name len) = 0
named_by (Rename from to) = 14 + length to
named_by (Delete name) = 0
named_by (Read name at count) = 0
named_by (Digest name) = 0
named_by (Stat name) = 0
named_by (Next after) = 0
named_by Flush = 0

-- ---- what is spent where a resource is wanting

-- 52 bytes of each file, and those of its name
abbrev pub files_bytes : Volume → ℕ
files_bytes [] = 0
files_bytes (file ∷ files) = 52 + (length file.0 + files_bytes files)

-- WHY A RESOURCE IS WANTING FOR A CALL, over an image of n clusters that holds these files, where b clusters at most
-- were touched before it: `worn` says why ids or epochs are used up; a half of the journal is shorter than 151 bytes,
-- those of the files, of the one that a call makes or of a further name too, and 24 of each cluster that was touched
-- or is now; or there are fewer data clusters than these.
abbrev pub IsSpentIn : Type 0 → ℕ → Volume → ℕ → Call → Fault → Type 0
IsSpentIn worn n files b call Worn = worn
IsSpentIn worn n files b call TableFull =
    half_bytes n < 151 + (files_bytes files + (named_by call + 24 * (b + touched_by call)))
IsSpentIn worn n files b call (Full asked left) = data_clusters n < b + touched_by call
IsSpentIn worn n files b call BadName = ⊥
IsSpentIn worn n files b call NoFile = ⊥
IsSpentIn worn n files b call Exists = ⊥
IsSpentIn worn n files b call (OutsideFile length) = ⊥
IsSpentIn worn n files b call (TooLarge most) = ⊥
IsSpentIn worn n files b call Failed = ⊥
IsSpentIn worn n files b call (Damaged place) = ⊥
IsSpentIn worn n files b call Memory = ⊥

module _ {D : Type 0} {d : Ghosts D} where
  -- What a volume has spent: the tables name b clusters at most; i ids at most were drawn, and as many epochs taken
  -- beside the two of its making; a commit was refused for want of an epoch only where these reach the last one; and
  -- the settings and the tables of chunks are those of a fresh volume.
  pub record HasSpent (v : Mounted D d) (b i : ℕ) : Type 0 where
    pub clusters : length (clusters_of (tables_now (tables_of v))) ≤ b
    pub ids : next_id_of (tables_now (tables_of v)) ≤ i + 1
    pub epochs : log_epoch (tables_of v).log ≤ i + 2
    pub worn : (tables_of v).worn ≡ true → last_epoch ≤ i + 2
    pub same : aside (tables_now (tables_of v)) ≡ aside fresh_tables

  -- the same of a mounted volume that has spent so much: ids and epochs are used up after 2^48 - 2 calls that change,
  -- and no sooner
  abbrev pub IsSpent : Mounted D d → ℕ → ℕ → Call → Fault → Type 0
  IsSpent v b i = IsSpentIn (LAST_ID - 1 ≤ i) (clusters_in v) (view_now v) b

  -- WHAT A CALL ADDS to what was spent, unless it stops the volume
  abbrev pub AddsToSpent : Call → Mounted D d → Mounted D d → Type 0
  AddsToSpent call old new = (b i : ℕ) → HasSpent old b i → stopped new ≡ false
      → HasSpent new (b + touched_by call) (i + changed_by call)
