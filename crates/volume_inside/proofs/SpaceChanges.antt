-- How the space goes on where the clusters that tables name change, by whichever table.
use Rattle.std.specs.Prelude.{◌≡◌, ◌≢◌, ◌+◌, ℕ, Bool, true, false, not, T, List, Option, refl}
use Rattle.std.proofs.Common.{sym, ◌∙◌, ap, subst, arith}
use Rattle.std.specs.Prelude.{slice_index_or}
use Rattle.std.specs.FinMap.{is_sorted}
use Rattle.cluster_space.specs.declared.state.State.{State}
use Rattle.cluster_space.specs.declared.state.State.TheVariants.{Free, Used, Deferred}
use Rattle.cluster_space.specs.States.{IsIn}
use Rattle.table_records.specs.Keys.{pair_cmp}
use Rattle.volume_inside.specs.Changes.{with_cluster, keep_clusters}
use Rattle.volume_inside.specs.ChunkTables.{PageKey}
use Rattle.volume_inside.specs.Lists.{IsOut, IsOnce}
use Rattle.volume_inside.specs.Named.{clusters_of}
use Rattle.volume_inside.specs.Space.{IsSpaced}
use Rattle.volume_inside.specs.Typed.{Typed}
use Rattle.volume_inside.proofs.Naming.{IsPutIn, IsParted, put_out, put_once, parted_out, parted_once}
use Rattle.volume_inside.proofs.Naming.{page_put_in, pages_parted}

free_is_not_used : Free ≢ Used
free_is_not_used same = cc

deferred_is_not_used : Deferred ≢ Used
deferred_is_not_used same = cc

not_not : (b : Bool) → not (not b) ≡ b
not_not true = refl
not_not false = refl

module _ (first : ℕ) (states : List State) (stored now : Typed) (s : IsSpaced first states stored now) where
  module _ (next : Typed) where
    -- a used cluster that nobody names is put
    pub spaced_put : (was : Option ℕ) (c k : ℕ) → IsPutIn (clusters_of now) (clusters_of next) was c → c ≡ first + k
        → IsIn states k Used → IsOut c (clusters_of now) → IsSpaced first states stored next
    spaced_put was c k p is used out =
        let other : (j : ℕ) (r : State) → r ≢ Used → IsIn states j r → c ≡ first + j → ⊥ =
        λ j r differ at same. (let one : j ≡ k = omega (arith, same, is) in
        differ (sym at.state ∙ ap (λ (i : ℕ). slice_index_or states i Used) one ∙ used.state)) in
        record {
          free_stored = s.free_stored;
          free_now = λ j at. put_out p (first + j) (s.free_now j at) (other j Free free_is_not_used at);
          deferred_now = λ j at. put_out p (first + j) (s.deferred_now j at) (other j Deferred deferred_is_not_used at);
          once = put_once p s.once out;
        }

    -- the same clusters are named
    pub spaced_as : clusters_of next ≡ clusters_of now → IsSpaced first states stored next
    spaced_as same = record {
      free_stored = s.free_stored;
      free_now = λ j at. subst (IsOut (first + j)) (sym same) (s.free_now j at);
      deferred_now = λ j at. subst (IsOut (first + j)) (sym same) (s.deferred_now j at);
      once = subst IsOnce (sym same) s.once;
    }

    -- some clusters are named no more
    pub spaced_parted : (gone : List ℕ) → IsParted (clusters_of now) (clusters_of next) gone
        → IsSpaced first states stored next
    spaced_parted gone p = record {
      free_stored = s.free_stored;
      free_now = λ j at. parted_out p (first + j) (s.free_now j at);
      deferred_now = λ j at. parted_out p (first + j) (s.deferred_now j at);
      once = parted_once p s.once;
    }

  pub spaced_page : (key : PageKey) (cluster k : ℕ) → T (is_sorted pair_cmp now.chunks.clusters)
      → cluster ≡ first + k → IsIn states k Used → IsOut cluster (clusters_of now)
      → IsSpaced first states stored (with_cluster key cluster now)
  spaced_page key cluster k sorted is used out =
      spaced_put (with_cluster key cluster now) _ cluster k (page_put_in now key cluster sorted) is used out

  pub spaced_pages : (test : PageKey → Bool) → IsSpaced first states stored (keep_clusters test now)
  spaced_pages test = subst (λ (q : PageKey → Bool). IsSpaced first states stored (keep_clusters q now))
      (λ i k. not_not (test k) i)
      (spaced_parted (keep_clusters (λ k. not (not (test k))) now) _ (pages_parted now (λ k. not (test k))))
