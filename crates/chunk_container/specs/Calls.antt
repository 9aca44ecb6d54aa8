-- What a call on rows does, in one record.
use Rattle.std.specs.Prelude.{◌≡◌, ◌⊎◌, ◌+◌, ℕ, true, false, length, None, IsSome, IsTrue, Result, OnOk, OnErr, IfErr, IsErrOf}
use Rattle.std.specs.Ordering.{nat_cmp}
use Rattle.std.specs.FinMap.{find}
use Rattle.vdisk.specs.declared.disk.Disk.{Ghosts}
use Rattle.cluster_space.specs.States.{free_in, deferred_in}
use Rattle.plain_volume.specs.declared.call.Fault.{Fault}
use Rattle.plain_volume.specs.declared.call.Fault.TheVariants.{Failed, Memory}
use Rattle.volume_inside.specs.ChunkRules.{MapsHold}
use Rattle.volume_inside.specs.Chunks.{chunk}
use Rattle.volume_inside.specs.Inside.{inside_at}
use Rattle.volume_inside.specs.Layout.{data_clusters}
use Rattle.volume_inside.specs.Named.{clusters_of}
use Rattle.volume_inside.specs.Rules.{RulesHold}
use Rattle.volume_inside.specs.Typed.{Typed}
use Rattle.volume_tables.specs.Pending.{IsPending}
use Rattle.volume_tables.specs.Sound.{IsSound, Endures, Spares}
use Rattle.volume_tables.specs.Tables.{tables_now, inside_now, view_now, states_of, staged_of, disk_of, clusters_in, stopped}
use Rattle.volume_tables.specs.Tables.{Leaves}
use Rattle.volume_tables.specs.Wants.{Needs, wanting, IsWanting}
use Rattle.volume_tables.specs.declared.tables.Tables.{Tables}
use Rattle.chunk_container.specs.Bases.{bases_now}
use Rattle.chunk_container.specs.Rows.{without_copies}

module _ {D : Type 0} {d : Ghosts D} where
  -- WHAT PUTTING ITS RECORDS DOES, once room was made: after Ok the tables are changed so and records of so many bytes
  -- are staged, after a refusal the tables are as before. It is refused for want of memory alone, and where it may take
  -- some.
  pub record ArePut (takes : Type 0) (change : Typed → Typed) (bytes : ℕ) (old new : Tables D d)
      (result : Result (Unit {0}) Fault) : Type 0 where
    pub ok : OnOk result (tables_now new ≡ change (tables_now old))
    pub err : OnErr result (tables_now new ≡ tables_now old)
    pub refused : OnErr result (IsErrOf result Memory × takes)
    pub staged : OnOk result (staged_of new ≡ staged_of old + bytes)
    pub leaves : Leaves old new
    pub states : states_of new ≡ states_of old
    pub image : (disk_of new).image ≡ (disk_of old).image
    pub running : stopped new ≡ stopped old

  -- WHAT A CALL DOES that has these needs, changes the tables so and stages records of so many bytes. It is refused for
  -- what is wanting, because the device failed, or for want of memory where it may take some; then the tables are as
  -- before.
  pub record IsRowCall (takes : Type 0) (change : Typed → Typed) (n : Needs) (bytes : ℕ) (old new : Tables D d)
      (result : Result (Unit {0}) Fault) : Type 0 where
    pub ok : OnOk result (tables_now new ≡ change (tables_now old))
    pub err : OnErr result (tables_now new ≡ tables_now old)
    pub inside : OnOk result (inside_now new ≡ inside_at (change (tables_now old)) (disk_of old).image)
    pub unchanged : OnErr result (inside_now new ≡ inside_now old)
    pub none : OnOk result (wanting old n ≡ None)
    pub refused : IfErr result (λ fault. IsWanting old new n fault
        ⊎ ((fault ≡ Memory) × takes × (wanting old n ≡ None)))
    -- where each row that was there has the chunk that it had, and the disk tells what it holds, all files are seen as
    -- they were
    pub seen : IsTrue (disk_of old).tells → ((id : ℕ) → IsSome (find nat_cmp id (tables_now old).chunks.rows)
        → chunk (bases_now new) id ≡ chunk (bases_now old) id) → view_now new ≡ view_now old
    -- sound, where the maps of files are as they should be in the changed tables
    pub sound : (IsTrue (disk_of old).tells → MapsHold (inside_at (change (tables_now old)) (disk_of old).image))
        → IsSound new
    pub endures : Endures old new
    -- whether the tables are stopped then: just where it failed
    pub stops : stopped new ≡ true → IsErrOf result Failed
    pub halts : IsErrOf result Failed → stopped new ≡ true
    -- what a refusal leaves, and what waits for a commit then
    pub spares : Spares old new result
    pub pending : IsPending n bytes old new result

  -- The tables are sound but for the copies of a row, which may be gone.
  pub record IsSoundWithout (id : ℕ) (t : Tables D d) : Type 0 where
    pub rules : RulesHold (clusters_in t) (without_copies id (tables_now t))
    pub maps : IsTrue (disk_of t).tells → MapsHold (inside_at (without_copies id (tables_now t)) (disk_of t).image)
    pub counted : stopped t ≡ false →
        free_in (states_of t) + deferred_in (states_of t) + length (clusters_of (tables_now t))
        ≡ data_clusters (clusters_in t)
