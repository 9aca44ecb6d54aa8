-- Which bytes of containers may be written: those behind what is used, which the stored tables do not name.
use Rattle.std.specs.Prelude.{◌≡◌, ◌≤◌, ◌+◌, ◌*◌, ◌-◌, ℕ, Some}
use Rattle.std.specs.FinMap.{find}
use Rattle.table_records.specs.Keys.{pair_cmp}
use Rattle.volume_inside.specs.declared.layout.TheConstants.{CLUSTER_BYTES}
use Rattle.volume_inside.specs.ChunkTables.{ChunkTables, PageKey}
use Rattle.volume_inside.specs.Typed.{Typed}
use Rattle.volume_inside.specs.Pages.{page_length}
use Rattle.volume_inside.specs.Ranges.{IsApart}
use Rattle.volume_inside.specs.Named.{named}

-- THE TAILS: behind what the tables now use of a container's cluster, the stored tables, which each crash image
-- spells, name no byte of it
pub record AreTailsFree (stored : Typed) (now : ChunkTables) : Type 0 where
  pub tail : (k : PageKey) (cluster : ℕ) → find pair_cmp k now.clusters ≡ Some cluster
      → IsApart (CLUSTER_BYTES * cluster + page_length now.containers k) (CLUSTER_BYTES - page_length now.containers k) (named stored)

-- a place in a cluster of a container that is behind what is used of it
pub record IsBehind (cluster from : ℕ) (t : ChunkTables) : Type 0 where
  pub key : PageKey
  pub names : find pair_cmp key t.clusters ≡ Some cluster
  pub behind : page_length t.containers key ≤ from
