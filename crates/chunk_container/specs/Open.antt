-- Which container bytes of a kind are appended to.
use Rattle.std.specs.Prelude.{◌+◌, ◌&&◌, ℕ, Bool, true, false, nat_eq, nat_le, if◌then◌else◌, List, [], ◌∷◌, Option, Some, None}
use Rattle.std.specs.Ordering.{nat_cmp}
use Rattle.std.specs.FinMap.{find}
use Rattle.table_records.specs.declared.chunk_records.Container.{Container}
use Rattle.volume_inside.specs.declared.chunk_rules.TheConstants.{DATA_ROW, MAP_ROW, MOST_CONTAINER_BYTES}
use Rattle.chunk_container.specs.declared.containers.OpenContainers.{OpenContainers}
use Rattle.chunk_container.specs.declared.containers.Target.{Target}

-- the open container of a kind, if there is one: 1 of chunks, 2 of maps, 3 of second copies
abbrev pub open_of : OpenContainers → ℕ → Option ℕ
open_of opens kind = if nat_eq kind DATA_ROW then opens.chunks else (if nat_eq kind MAP_ROW then opens.maps else opens.hot)

-- the same but for one kind
abbrev pub with_open : ℕ → Option ℕ → OpenContainers → OpenContainers
with_open kind o opens =
    if nat_eq kind DATA_ROW then record opens { chunks = o }
    else (if nat_eq kind MAP_ROW then record opens { maps = o } else record opens { hot = o })

abbrev pub none_open : OpenContainers
none_open = record { chunks = None; maps = None; hot = None }

-- the last one of each kind in the order of their ids
abbrev pub opened_by : OpenContainers → List (ℕ × Container) → OpenContainers
opened_by opens [] = opens
opened_by opens (e ∷ es) = opened_by (with_open e.1.kind (Some e.0) opens) es

-- the container of each kind with the greatest id
abbrev pub last_containers : List (ℕ × Container) → OpenContainers
last_containers es = opened_by none_open es

-- a container that is there is of the kind, and has room for so many bytes more
abbrev pub takes : ℕ → ℕ → Container → Bool
takes kind count c = nat_eq c.kind kind && nat_le (c.used + count) MOST_CONTAINER_BYTES

abbrev pub new_target : ℕ → Target
new_target next = record { container = next; offset = 0; made = true }

abbrev pub target_at : ℕ → ℕ → ℕ → ℕ → Option Container → Target
target_at kind count next id None = new_target next
target_at kind count next id (Some c) =
    if takes kind count c then record { container = id; offset = c.used; made = false } else new_target next

abbrev pub target_in : ℕ → ℕ → ℕ → List (ℕ × Container) → Option ℕ → Target
target_in kind count next containers None = new_target next
target_in kind count next containers (Some id) = target_at kind count next id (find nat_cmp id containers)

-- so many bytes of a kind go behind what is used of the open container, where they fit, or else into a new one, whose
-- id is drawn next
abbrev pub target_of : ℕ → ℕ → ℕ → List (ℕ × Container) → OpenContainers → Target
target_of kind count next containers opens = target_in kind count next containers (open_of opens kind)
