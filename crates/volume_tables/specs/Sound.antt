-- What holds between two calls on the files of a volume, and what each call keeps at every moment.
use Rattle.std.specs.Prelude.{◌≡◌, ◌⊎◌, ◌≤◌, ◌+◌, ℕ, true, false, IsTrue, length, Result, Err}
use Rattle.vdisk.specs.Steps.{Keeps}
use Rattle.vdisk.specs.declared.disk.Disk.{Ghosts}
use Rattle.cluster_space.specs.States.{free_in, deferred_in}
use Rattle.plain_volume.specs.Volume.{Volume}
use Rattle.plain_volume.specs.declared.call.Fault.{Fault}
use Rattle.plain_volume.specs.declared.call.Fault.TheVariants.{BadName, NoFile, Exists, OutsideFile, TooLarge, Worn}
use Rattle.plain_volume.specs.declared.call.Fault.TheVariants.{TableFull, Full, Failed, Damaged, Memory}
use Rattle.volume_inside.specs.Layout.{data_clusters}
use Rattle.volume_inside.specs.Typed.{Typed}
use Rattle.volume_inside.specs.Named.{clusters_of}
use Rattle.volume_inside.specs.Rules.{RulesHold}
use Rattle.volume_inside.specs.Shows.{Kept, ShowsEither}
use Rattle.volume_tables.specs.Log.{log_epoch, IsSameLog}
use Rattle.volume_tables.specs.Tables.{tables_now, view_now, states_of, disk_of, area_of, clusters_in, stopped}
use Rattle.volume_tables.specs.Tables.{would_wear, IsTables, HasMaps}
use Rattle.volume_tables.specs.declared.tables.Tables.{Tables}

-- WHAT A REFUSAL LEAVES of what has an epoch, as tables have, or the state of a volume: all, where it comes before
-- anything is done; the epoch, where a commit is refused as worn.
abbrev pub IsSpared : {S : Type 0} → (S → ℕ) → Fault → S → S → Type 0
IsSpared epoch Worn old new = epoch new ≡ epoch old
IsSpared epoch BadName old new = new ≡ old
IsSpared epoch NoFile old new = new ≡ old
IsSpared epoch Exists old new = new ≡ old
IsSpared epoch (OutsideFile length) old new = new ≡ old
IsSpared epoch (TooLarge most) old new = new ≡ old
IsSpared epoch TableFull old new = new ≡ old
IsSpared epoch (Full asked left) old new = new ≡ old
IsSpared epoch Failed old new = Unit {0}
IsSpared epoch (Damaged place) old new = Unit {0}
IsSpared epoch Memory old new = Unit {0}

module _ {D : Type 0} {d : Ghosts D} where
  -- what a call with its result leaves of the tables, where it is refused
  abbrev pub Spares : Tables D d → Tables D d → Result (Unit {0}) Fault → Type 0
  Spares old new result =
      (fault : Fault) → result ≡ Err fault → IsSpared (λ (t : Tables D d). log_epoch t.log) fault old new

  -- Between two calls the tables and the maps of their bases meet the rules, and each cluster that they do not name is
  -- free, or will be free after the next commit. A call that a failed device stopped may leave clusters that nobody names.
  pub record IsSound (t : Tables D d) : Type 0 where
    pub rules : RulesHold (clusters_in t) (tables_now t)
    pub maps : HasMaps t
    pub counted : stopped t ≡ false →
        free_in (states_of t) + deferred_in (states_of t) + length (clusters_of (tables_now t))
        ≡ data_clusters (clusters_in t)

  -- THE STRONGER INVARIANT: w is kept as the definition says (`Kept`: each image that a crash now may leave has an
  -- inside and shows w), and each of these images spells the stored tables, which name no free cluster.
  pub record IsKept (t : Tables D d) (w : Volume) : Type 0 where
    pub stored : Typed
    pub tables : IsTables t stored
    pub kept : Kept (area_of t) (disk_of t) w

  -- WHAT EVERY CALL KEEPS: at any moment of it a crash shows what was kept before it, or what the tables showed before
  -- it; and one of these two is kept after it, unless the volume is stopped.
  pub record Endures (old new : Tables D d) : Type 0 where
    pub clusters : clusters_in new ≡ clusters_in old
    pub moments : (w : Volume) → IsKept old w →
        Keeps (disk_of old) (disk_of new) (ShowsEither (area_of old) w (view_now old))
    pub kept : (w : Volume) → IsKept old w → stopped new ≡ false → IsKept new w ⊎ IsKept new (view_now old)
    pub later : (disk_of old).faults ≤ (disk_of new).faults
    pub same : IsSameLog old.log new.log
    -- no epoch falls
    pub stands : log_epoch old.log ≤ log_epoch new.log
    -- a call commits once at most, and a commit takes one epoch at most
    pub epoch : stopped new ≡ false → log_epoch new.log ≤ log_epoch old.log + 1
    -- and a commit is refused as worn only where it would have been refused so before the call
    pub worn : stopped new ≡ false → new.worn ≡ true → IsTrue (would_wear old)
