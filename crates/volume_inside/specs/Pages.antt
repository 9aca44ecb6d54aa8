-- The bytes of containers. A page is a cluster of a container, as far as it is used.
use Rattle.std.specs.Prelude.{◌+◌, ◌*◌, ◌-◌, ◌/◌, ℕ, zero, suc, min, List, [], ◌∷◌, ◌++◌, Option, Some, None}
use Rattle.std.specs.Ordering.{nat_cmp}
use Rattle.std.specs.FinMap.{find}
use Rattle.vdisk.specs.Ranges.{part}
use Rattle.table_records.specs.Keys.{pair_cmp}
use Rattle.table_records.specs.declared.chunk_records.Container.{Container}
use Rattle.volume_inside.specs.declared.layout.TheConstants.{CLUSTER_BYTES}
use Rattle.volume_inside.specs.ChunkTables.{ChunkTables, PageKey}

abbrev pub used_or_none : Option Container → ℕ
used_or_none None = 0
used_or_none (Some c) = c.used

-- how many bytes of a container, from the first, are used: none where it is not there
abbrev pub used_of : List (ℕ × Container) → ℕ → ℕ
used_of containers c = used_or_none (find nat_cmp c containers)

-- of the bytes of a cluster of a container, how many are used
abbrev pub page_length : List (ℕ × Container) → PageKey → ℕ
page_length containers k = min (used_of containers k.0 - CLUSTER_BYTES * k.1) CLUSTER_BYTES

abbrev pub page_range : List (ℕ × Container) → PageKey → ℕ → ℕ × ℕ
page_range containers k cluster = (CLUSTER_BYTES * cluster, page_length containers k)

abbrev pub page_ranges : List (ℕ × Container) → List (PageKey × ℕ) → List (ℕ × ℕ)
page_ranges containers [] = []
page_ranges containers (e ∷ es) = page_range containers e.0 e.1 ∷ page_ranges containers es

abbrev pub page_clusters : List (PageKey × ℕ) → List ℕ
page_clusters [] = []
page_clusters (e ∷ es) = e.1 ∷ page_clusters es

abbrev pub page_bytes : Option ℕ → ℕ → List ℕ → List ℕ
page_bytes None length image = []
page_bytes (Some cluster) length image = part (CLUSTER_BYTES * cluster) length image

-- the page of a key
abbrev pub page : ChunkTables → PageKey → List ℕ → List ℕ
page t k image = page_bytes (find pair_cmp k t.clusters) (page_length t.containers k) image

-- so many pages of a container, from one on
abbrev pub pages_from : ChunkTables → ℕ → List ℕ → ℕ → ℕ → List ℕ
pages_from t c image index zero = []
pages_from t c image index (suc n) = page t (c, index) image ++ pages_from t c image (suc index) n

-- how many clusters so many bytes take
abbrev pub pages_of : ℕ → ℕ
pages_of bytes = (bytes + (CLUSTER_BYTES - 1)) / CLUSTER_BYTES

-- the bytes of a container that are used
abbrev pub content : ChunkTables → ℕ → List ℕ → List ℕ
content t c image = pages_from t c image 0 (pages_of (used_of t.containers c))
