-- Where the journal of the tables goes on, as the images tell it, and what a commit spends.
use Rattle.std.specs.Prelude.{◌≡◌, ℕ, List, Ok}
use Rattle.std.proofs.Common.{sym, ◌∙◌}
use Rattle.vdisk.specs.declared.disk.Disk.{Ghosts}
use Rattle.meta_log.specs.Log as journal
use Rattle.meta_log.specs.Meta.{meta_of, place_in, epoch_in}
use Rattle.meta_log.specs.Ready.{GoesOnFrom}
use Rattle.meta_log.proofs.Lives.{image_goes_on, stands_goes_on, image_spells, stands_spells}
use Rattle.volume_inside.specs.Typed.{Typed}
use Rattle.volume_tables.specs.Log.{log_state, log_place, log_epoch}
use Rattle.volume_tables.specs.Mounted.{AreTablesOf}
use Rattle.volume_tables.specs.Tables.{disk_of, IsToldBy, IsTables}
use Rattle.volume_tables.specs.declared.tables.Tables.{Tables}

module _ {D : Type 0} {d : Ghosts D} (t : Tables D d) where
  placed : (image : List ℕ) → GoesOnFrom t.log.at t.log.half (log_place t.log) (log_epoch t.log) image
      → IsToldBy t image
  placed image from = record {
    next = from.next ∙ (λ i. place_in (t.place i) (t.half i) image);
    counts = from.counts ∙ (λ i. epoch_in (t.place i) (t.half i) image);
  }

  pub told_by_image : (stored : Typed) → IsTables t stored → IsToldBy t (disk_of t).image
  told_by_image stored is =
      placed (disk_of t).image (image_goes_on (journal.layout_of t.log) (log_state t.log) is.map is.log.stands)

  pub told_by_crash : (stored : Typed) → IsTables t stored → (c : List ℕ) → (disk_of t).may_leave c → IsToldBy t c
  told_by_crash stored is c left =
      placed c (stands_goes_on (journal.layout_of t.log) (log_state t.log) is.map is.log.stands c left)

  -- an image that spells the stored map has all its tables
  held : (stored : Typed) (is : IsTables t stored) (image : List ℕ) → meta_of t.log.at t.log.half image ≡ Ok is.map
      → AreTablesOf t.clusters image stored
  held stored is image spells = record {
    stored = is.map;
    spells = (λ i. meta_of (sym t.place i) (sym t.half i) image) ∙ spells;
    is = is.is;
  }

  pub held_by_image : (stored : Typed) → IsTables t stored → AreTablesOf t.clusters (disk_of t).image stored
  held_by_image stored is =
      held stored is (disk_of t).image (image_spells (journal.layout_of t.log) (log_state t.log) is.map is.log.stands)

  pub held_by_crash : (stored : Typed) → IsTables t stored → (c : List ℕ) → (disk_of t).may_leave c
      → AreTablesOf t.clusters c stored
  held_by_crash stored is c left =
      held stored is c (stands_spells (journal.layout_of t.log) (log_state t.log) is.map is.log.stands c left)
