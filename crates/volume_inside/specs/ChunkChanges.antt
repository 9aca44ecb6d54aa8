-- Changes of the tables of chunks, and damage.
use Rattle.std.specs.Prelude.{◌≡◌, ◌⊎◌, ◌≤◌, ◌<◌, ◌+◌, ◌*◌, ℕ, List, length, Option, Some, None, IsSome}
use Rattle.std.specs.Ordering.{nat_cmp}
use Rattle.std.specs.FinMap.{find}
use Rattle.table_records.specs.Keys.{pair_cmp}
use Rattle.table_records.specs.declared.chunk_records.Row.{Row}
use Rattle.volume_inside.specs.declared.layout.TheConstants.{CLUSTER_BYTES}
use Rattle.volume_inside.specs.ChunkTables.{ChunkTables}
use Rattle.volume_inside.specs.Pages.{used_of}
use Rattle.volume_inside.specs.Chunks.{Bases, if_sound, own_chunk}

-- u has the pages of t, and may use more bytes
pub record Grows (t u : ChunkTables) (c : ℕ) : Type 0 where
  pub used : used_of t.containers c ≤ used_of u.containers c
  pub clusters : (index : ℕ) → CLUSTER_BYTES * index < used_of t.containers c
      → find pair_cmp (c, index) u.clusters ≡ find pair_cmp (c, index) t.clusters

-- each page of a container is there, and lies in the image
abbrev pub HasPages : ChunkTables → ℕ → List ℕ → Type 0
HasPages t c image = (index : ℕ) → CLUSTER_BYTES * index < used_of t.containers c
    → (cluster : ℕ) × (find pair_cmp (c, index) t.clusters ≡ Some cluster) × (CLUSTER_BYTES * cluster + CLUSTER_BYTES ≤ length image)

-- c has the rows that b has, each with the copies that it has there
pub record Extends (b c : Bases) : Type 0 where
  pub rows : (id : ℕ) (row : Row) → find nat_cmp id b.rows ≡ Some row → find nat_cmp id c.rows ≡ Some row
  pub copies : (id copy : ℕ) → IsSome (find nat_cmp id b.rows)
      → find pair_cmp (id, copy) c.copies ≡ find pair_cmp (id, copy) b.copies
  -- a redirect of b names a row of b
  pub targets : (id : ℕ) (row : Row) → find nat_cmp id b.rows ≡ Some row
      → (row.redirect ≡ 0) ⊎ IsSome (find nat_cmp row.redirect b.rows)

-- c is b, but that a row is redirected to another one that has the same bytes; no redirect of b names the row
pub record IsRedirected (b c : Bases) (id to : ℕ) (row target : Row) : Type 0 where
  pub was : find nat_cmp id b.rows ≡ Some row
  pub own : row.redirect ≡ 0
  pub now : find nat_cmp id c.rows ≡ Some (record row { redirect = to })
  pub some_to : to ≡ 0 → ⊥
  pub other : to ≡ id → ⊥
  pub target_is : find nat_cmp to b.rows ≡ Some target
  pub alike : own_chunk b to target ≡ own_chunk b id row
  pub rows : (x : ℕ) → (x ≡ id → ⊥) → find nat_cmp x c.rows ≡ find nat_cmp x b.rows
  pub copies : (x copy : ℕ) → (x ≡ id → ⊥) → find pair_cmp (x, copy) c.copies ≡ find pair_cmp (x, copy) b.copies
  pub untargeted : (x : ℕ) (r : Row) → find nat_cmp x b.rows ≡ Some r → r.redirect ≡ id → ⊥

-- ---- damage

-- a copy of a row stays, or no longer has its digest
abbrev pub IsDamagedCopy : List ℕ → Option (List ℕ) → Option (List ℕ) → Type 0
IsDamagedCopy digest old new = (new ≡ old) ⊎ (if_sound digest new ≡ None)

-- two copies of a row that both have its digest hold the same bytes
abbrev pub AreAlike : List ℕ → Option (List ℕ) → Option (List ℕ) → Type 0
AreAlike digest one two =
    (x y : List ℕ) → if_sound digest one ≡ Some x → if_sound digest two ≡ Some y → x ≡ y

-- THE DAMAGE: the rows stay, and of each row the copies stay or no longer have its digest
pub record IsDamaged (b c : Bases) : Type 0 where
  pub rows : c.rows ≡ b.rows
  pub copies : (id copy : ℕ) (row : Row) → find nat_cmp id b.rows ≡ Some row
      → IsDamagedCopy row.digest (find pair_cmp (id, copy) b.copies) (find pair_cmp (id, copy) c.copies)

-- no row has two sound copies with different bytes
abbrev pub HasOneText : Bases → Type 0
HasOneText b = (id : ℕ) (row : Row) → find nat_cmp id b.rows ≡ Some row
    → AreAlike row.digest (find pair_cmp (id, 0) b.copies) (find pair_cmp (id, 1) b.copies)
