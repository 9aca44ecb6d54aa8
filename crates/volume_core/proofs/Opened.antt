-- Tables that were just made or mounted are sound.
use Rattle.std.specs.Prelude.{◌≡◌, ◌+◌, ◌-◌, ◌*◌, ℕ, List, [], length, Ok, refl}
use Rattle.std.proofs.Common.{ap, ◌∙◌, subst, arith}
use Rattle.vdisk.specs.Disk.{DiskState}
use Rattle.vdisk.specs.declared.disk.Disk.{Ghosts}
use Rattle.meta_log.specs.Opened.{IsOnlyRead}
use Rattle.volume_inside.specs.Fresh.{fresh_tables}
use Rattle.volume_inside.specs.Inside.{inside_at}
use Rattle.volume_inside.specs.InsideOf.{InsideOf}
use Rattle.volume_inside.specs.Layout.{data_clusters}
use Rattle.volume_inside.specs.Named.{clusters_of}
use Rattle.volume_inside.specs.Typed.{Typed}
use Rattle.volume_inside.specs.View.{view}
use Rattle.volume_inside.proofs.Journals.{rules_data}
use Rattle.volume_tables.specs.Log.{log_epoch, log_place}
use Rattle.volume_tables.specs.Pending.{settled, pending_of}
use Rattle.volume_tables.specs.Sizes.{tables_bytes}
use Rattle.volume_tables.specs.Mount.{read_meta}
use Rattle.volume_tables.specs.Mounted.{IsOpened}
use Rattle.volume_tables.specs.Tables.{tables_now, inside_now, view_now, states_of, disk_of, clusters_in}
use Rattle.volume_tables.specs.Tables.{IsToldBy, HasMaps}
use Rattle.volume_tables.specs.declared.tables.Tables.{Tables}
use Rattle.volume_tables.specs.Sound.{IsSound}
use Rattle.volume_core.specs.States.{state_at, left_in, IsStateOf, IsFreshState}
use Rattle.volume_core.proofs.Counted.{filled_counts, filled_deferred}
use Rattle.volume_core.proofs.Settled.{settled_pending, told_pending}

fresh_view : (image : List ℕ) → view (inside_at fresh_tables image) ≡ []
unfolding view
fresh_view image = refl

module _ {D : Type 0} {d : Ghosts D} (t : Tables D d) where
  pub found_sound : IsOpened t → HasMaps t → IsSound t
  found_sound opened maps = record {
    rules = opened.rules;
    maps = maps;
    counted = λ runs. filled_counts (clusters_in t) (clusters_of (tables_now t)) (states_of t)
        (rules_data (clusters_in t) (tables_now t) opened.rules) opened.rules.clusters opened.space;
  }

  pub shows_no_file : tables_now t ≡ fresh_tables → view_now t ≡ []
  shows_no_file now = ap (λ (q : Typed). view (inside_at q (disk_of t).image)) now ∙ fresh_view (disk_of t).image

module _ {D : Type 0} {d : Ghosts D} (t : Tables D d) (opened : IsOpened t) (maps : HasMaps t) where
  opened_pending : pending_of t ≡ settled (log_epoch t.log) (log_place t.log) (left_in (state_at t))
  opened_pending = settled_pending t (found_sound t opened maps) opened.runs opened.fresh opened.due
      (filled_deferred (clusters_in t) (clusters_of (tables_now t)) (states_of t)
      (rules_data (clusters_in t) (tables_now t) opened.rules) opened.rules.clusters opened.space)

  all_left : (n : ℕ) → clusters_in t ≡ n → tables_now t ≡ fresh_tables → left_in (state_at t) ≡ data_clusters n
  all_left n clusters now =
      let left : left_in (state_at t) ≡ data_clusters n - 0 =
      λ i. data_clusters (clusters i)
      - (length (inside_at (now i) (disk_of t).image).blocks + length (inside_at (now i) (disk_of t).image).pages) in
      omega (arith, left)

  pub fresh_state : (n : ℕ) → clusters_in t ≡ n → tables_now t ≡ fresh_tables → log_epoch t.log ≡ 1
      → log_place t.log ≡ tables_bytes fresh_tables + 37 → IsFreshState n (state_at t)
  fresh_state n clusters now epoch place = let left = all_left n clusters now in record {
    clusters = clusters;
    inside = ap (λ (q : Typed). inside_at q (disk_of t).image) now;
    pending = opened_pending ∙ (λ i. settled (epoch i) (place i) (left i));
  }

  pub mounted_state : (old : DiskState) → IsOnlyRead old (disk_of t) → IsToldBy t old.image
      → InsideOf read_meta old.image (Ok (inside_now t)) → IsStateOf old.image (state_at t)
  mounted_state old read told inside = record {
    clusters = subst (λ (c : List ℕ). length c ≡ 4096 * clusters_in t) read.image t.size;
    inside = inside;
    pending = told_pending t (log_epoch t.log) (log_place t.log) (left_in (state_at t)) old.image opened_pending refl
        told;
  }
