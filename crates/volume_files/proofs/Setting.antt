-- An extent over a cluster that was taken, as the tables' calls tell of it.
use Rattle.std.specs.Prelude.{◌≡◌, ℕ, T, List, Result, Ok, Err, IsOk, OnOk}
use Rattle.std.proofs.Common.{◌∙◌, ap}
use Rattle.std.specs.FinMap.{find, is_sorted}
use Rattle.vdisk.specs.declared.disk.Disk.{Ghosts}
use Rattle.cluster_space.specs.declared.state.State.{State}
use Rattle.table_records.specs.Keys.{pair_cmp}
use Rattle.table_records.specs.Next.{sorted_typed}
use Rattle.table_records.specs.Tables.{extent_codec}
use Rattle.volume_inside.specs.Typed.{FileBlock}
use Rattle.volume_tables.specs.Clusters.{AreHeld, used_at, with_replaced, with_refused}
use Rattle.volume_tables.specs.Tables.{tables_now, states_of}
use Rattle.volume_tables.specs.declared.tables.Tables.{Tables}
use Rattle.volume_tables.proofs.Answers.{as_true}
use Rattle.volume_files.proofs.Taking.{used_twice}

module _ {D : Type 0} {d : Ghosts D} where
  -- the extents are in the order of their keys
  pub sorted_now : (t : Tables D d) → T (is_sorted pair_cmp (tables_now t).extents)
  sorted_now t = sorted_typed extent_codec t.log.map (as_true t.contents.sorted)

  -- and their clusters are used
  pub held_now : (t : Tables D d) → AreHeld t.clusters (states_of t) (tables_now t)
  held_now t = (
    t.held.0,
    record {
      free_stored = t.held.1.free_stored;
      free_now = t.held.1.free_now;
      deferred_now = t.held.1.deferred_now;
      once = t.held.1.once;
    },
  )

  module _ (t u : Tables D d) (k : FileBlock) (c : ℕ) (clusters : u.clusters ≡ t.clusters)
      (now : tables_now u ≡ tables_now t) where
    pub replaced_from : states_of u ≡ used_at t.clusters c (states_of t)
        → with_replaced u.clusters (find pair_cmp k (tables_now u).extents) c (used_at u.clusters c (states_of u))
        ≡ with_replaced t.clusters (find pair_cmp k (tables_now t).extents) c (used_at t.clusters c (states_of t))
    replaced_from used =
        (λ i. with_replaced (clusters i) (find pair_cmp k (now i).extents) c (used_at (clusters i) c (used i)))
        ∙ ap (λ (xs : List State). with_replaced t.clusters (find pair_cmp k (tables_now t).extents) c xs)
        (used_twice t.clusters c (states_of t))

    pub refused_from : states_of u ≡ used_at t.clusters c (states_of t)
        → with_refused u.clusters (find pair_cmp k (tables_now u).extents) c (used_at u.clusters c (states_of u))
        ≡ with_refused t.clusters (find pair_cmp k (tables_now t).extents) c (used_at t.clusters c (states_of t))
    refused_from used =
        (λ i. with_refused (clusters i) (find pair_cmp k (now i).extents) c (used_at (clusters i) c (used i)))
        ∙ ap (λ (xs : List State). with_refused t.clusters (find pair_cmp k (tables_now t).extents) c xs)
        (used_twice t.clusters c (states_of t))

-- a call that answered Ok
pub on_ok_there : {A E : Type 0} {P : Type 0} (r : Result A E) → IsOk r → OnOk r P → P
on_ok_there (Ok a) is holds = holds
on_ok_there (Err e) is holds = absurd (cc)
