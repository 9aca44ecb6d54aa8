-- The entries of a range of keys, as their clusters are given up.
use Rattle.std.specs.Prelude.{◌≤◌, ◌-◌, ◌&&◌, ℕ, List, [], ◌∷◌, Option, Some, None}
use Rattle.std.specs.Ordering.{is_lt}
use Rattle.std.specs.FinMap.Entries.{where_key}
use Rattle.cluster_space.specs.declared.state.State.{State}
use Rattle.cluster_space.specs.declared.state.State.TheVariants.{Used}
use Rattle.cluster_space.specs.States.{IsIn}
use Rattle.table_records.specs.Codecs.{Codec}
use Rattle.table_records.specs.Changes.{is_in_range, is_under}
use Rattle.table_records.specs.Keys.{pair_cmp}
use Rattle.table_records.specs.declared.records.Extent.{Extent}
use Rattle.volume_inside.specs.ChunkTables.{PageKey}
use Rattle.volume_inside.specs.Typed.{FileBlock}
use Rattle.volume_inside.specs.Named.{extent_clusters}
use Rattle.volume_inside.specs.Lists.{IsOut}

-- the entries of a table with the keys of a range
abbrev pub in_range : {K V : Type 0} → Codec K V → K → Option K → List (K × V) → List (K × V)
in_range c from to es = where_key c.cmp (λ k. is_in_range c.cmp from to k) es

-- the bytes of the end of a range: those of the key behind its last one, or of the next table's number
abbrev pub end_bytes : {K : Type 0} → (K → ℕ) → Option K → ℕ
end_bytes size None = 1
end_bytes size (Some key) = size key

-- of entries whose keys are pairs of numbers: those of a range
abbrev pub entries_in : {V : Type 0} → ℕ × ℕ → Option (ℕ × ℕ) → List ((ℕ × ℕ) × V) → List ((ℕ × ℕ) × V)
entries_in from to es = where_key pair_cmp (λ k. is_in_range pair_cmp from to k) es

-- those above a key, and below the end of the range
abbrev pub entries_above : {V : Type 0} → ℕ × ℕ → Option (ℕ × ℕ) → List ((ℕ × ℕ) × V) → List ((ℕ × ℕ) × V)
entries_above after to es = where_key pair_cmp (λ k. is_lt (pair_cmp after k) && is_under pair_cmp to k) es

-- an entry, if there is one, with those behind it
abbrev pub entries_left : {V : Type 0} → Option ((ℕ × ℕ) × V) → Option (ℕ × ℕ) → List ((ℕ × ℕ) × V)
    → List ((ℕ × ℕ) × V)
entries_left None to es = []
entries_left (Some e) to es = e ∷ entries_above e.0 to es

-- the same of extents
abbrev pub extents_in : FileBlock → Option FileBlock → List (FileBlock × Extent) → List (FileBlock × Extent)
extents_in from to es = entries_in from to es

abbrev pub extents_above : FileBlock → Option FileBlock → List (FileBlock × Extent) → List (FileBlock × Extent)
extents_above after to es = entries_above after to es

abbrev pub extents_left : Option (FileBlock × Extent) → Option FileBlock → List (FileBlock × Extent)
    → List (FileBlock × Extent)
extents_left first to es = entries_left first to es

-- and of pages of containers
abbrev pub pages_in : PageKey → Option PageKey → List (PageKey × ℕ) → List (PageKey × ℕ)
pages_in from to es = entries_in from to es

-- these clusters are used, and none stands twice
abbrev pub AreUsed : ℕ → List State → List ℕ → Type 0
AreUsed first states [] = Unit {0}
AreUsed first states (c ∷ cs) =
    (first ≤ c) × (IsIn states (c - first) Used × (IsOut c cs × AreUsed first states cs))

-- those of extents
abbrev pub AreUsedOnce : ℕ → List State → List (FileBlock × Extent) → Type 0
AreUsedOnce first states es = AreUsed first states (extent_clusters es)
