-- The clusters that entries of tables name, in their order: one is put, in the place of another if one stood there, or
-- some are dropped. What holds of the lists alone holds of extents and of pages.
use Rattle.std.specs.Prelude.{◌≡◌, ℕ, Bool, true, false, cond, not, T, List, [], ◌∷◌, ◌++◌, Option, Some, None, refl}
use Rattle.std.proofs.Common.{sym, ◌∙◌, ap, subst}
use Rattle.std.proofs.lemmas.List.{append_assoc}
use Rattle.std.specs.declared.cmp.Ordering.{Ordering}
use Rattle.std.specs.declared.cmp.Ordering.TheVariants.{Less, Equal, Greater}
use Rattle.std.specs.Option.{option_map}
use Rattle.std.specs.Ordering.{is_lt, is_eq}
use Rattle.std.specs.FinMap.{find, put, is_sorted}
use Rattle.std.specs.FinMap.Entries.{by_order, below_all, where_key}
use Rattle.groundwork.proofs.Bools.{first_true, second_true}
use Rattle.groundwork.proofs.Orders.{is_less}
use Rattle.table_records.specs.Keys.{pair_cmp}
use Rattle.table_records.specs.Orders.{pair_total}
use Rattle.table_records.specs.declared.records.Extent.{Extent}
use Rattle.volume_inside.specs.ChunkTables.{PageKey}
use Rattle.volume_inside.specs.Layout.{IsDataCluster, AreData}
use Rattle.volume_inside.specs.Lists.{IsOut, IsOnce}
use Rattle.volume_inside.specs.Named.{extent_clusters, clusters_of}
use Rattle.volume_inside.specs.Pages.{page_clusters}
use Rattle.volume_inside.specs.Typed.{Typed, FileBlock}
use Rattle.volume_inside.specs.Bases.{base_clusters}
use Rattle.volume_inside.specs.Changes.{with_extent, with_cluster, keep_extents, keep_clusters}

-- ---- a cluster is put

abbrev listed : Option ℕ → List ℕ
listed None = []
listed (Some o) = o ∷ []

-- c is put into a list of clusters, in the place of another if one stood there
pub record IsPutIn (old new : List ℕ) (was : Option ℕ) (c : ℕ) : Type 0 where
  pub front : List ℕ
  pub back : List ℕ
  pub old_is : old ≡ front ++ (listed was ++ back)
  pub new_is : new ≡ front ++ (c ∷ back)

stands : (c : ℕ) (front back : List ℕ) → IsOut c (front ++ (c ∷ back)) → ⊥
stands c [] back out = out.0 refl
stands c (y ∷ front) back out = stands c front back out.1

module _ (c : ℕ) (back : List ℕ) where
  out_after : (front : List ℕ) (was : Option ℕ) (x : ℕ) → IsOut x (front ++ (listed was ++ back)) → (c ≡ x → ⊥)
      → IsOut x (front ++ (c ∷ back))
  out_after [] None x out differ = (differ, out)
  out_after [] (Some o) x out differ = (differ, out.1)
  out_after (y ∷ front) was x out differ = (out.0, out_after front was x out.1 differ)

  once_after : (front : List ℕ) (was : Option ℕ) → IsOnce (front ++ (listed was ++ back))
      → IsOut c (front ++ (listed was ++ back)) → IsOnce (front ++ (c ∷ back))
  once_after [] None once out = (out, once)
  once_after [] (Some o) once out = (out.1, once.1)
  once_after (y ∷ front) was once out =
      (out_after front was y once.0 (λ same. out.0 (sym same)), once_after front was once.1 out.1)

  data_after : (n : ℕ) (front : List ℕ) (was : Option ℕ) → IsDataCluster n c → AreData n (front ++ (listed was ++ back))
      → AreData n (front ++ (c ∷ back))
  data_after n [] None one all = (one, all)
  data_after n [] (Some o) one all = (one, all.1)
  data_after n (y ∷ front) was one all = (all.0, data_after n front was one all.1)

  gone_after : (front : List ℕ) (o : ℕ) → IsOnce (front ++ (o ∷ back)) → (c ≡ o → ⊥) → IsOut o (front ++ (c ∷ back))
  gone_after [] o once differ = (differ, once.0)
  gone_after (y ∷ front) o once differ = (
    λ same. stands o front back (subst (λ (x : ℕ). IsOut x (front ++ (o ∷ back))) same once.0),
    gone_after front o once.1 differ,
  )

module _ {old new : List ℕ} {was : Option ℕ} {c : ℕ} (p : IsPutIn old new was c) where
  -- what was not named, and is not c, is not named
  pub put_out : (x : ℕ) → IsOut x old → (c ≡ x → ⊥) → IsOut x new
  put_out x out differ = subst (λ (l : List ℕ). IsOut x l) (sym p.new_is)
      (out_after c p.back p.front was x (subst (λ (l : List ℕ). IsOut x l) p.old_is out) differ)

  pub put_once : IsOnce old → IsOut c old → IsOnce new
  put_once once out = subst (λ (l : List ℕ). IsOnce l) (sym p.new_is)
      (once_after c p.back p.front was (subst (λ (l : List ℕ). IsOnce l) p.old_is once)
      (subst (λ (l : List ℕ). IsOut c l) p.old_is out))

  pub put_data : (n : ℕ) → IsDataCluster n c → AreData n old → AreData n new
  put_data n one all = subst (λ (l : List ℕ). AreData n l) (sym p.new_is)
      (data_after c p.back n p.front was one (subst (λ (l : List ℕ). AreData n l) p.old_is all))

  -- the lists that stand before these two, and behind them
  pub put_behind : (xs : List ℕ) → IsPutIn (xs ++ old) (xs ++ new) was c
  put_behind xs = record {
    front = xs ++ p.front;
    back = p.back;
    old_is = ap (λ (l : List ℕ). xs ++ l) p.old_is ∙ sym (append_assoc xs p.front (listed was ++ p.back));
    new_is = ap (λ (l : List ℕ). xs ++ l) p.new_is ∙ sym (append_assoc xs p.front (c ∷ p.back));
  }

  pub put_before : (ss : List ℕ) → IsPutIn (old ++ ss) (new ++ ss) was c
  put_before ss = record {
    front = p.front;
    back = p.back ++ ss;
    old_is = ap (λ (l : List ℕ). l ++ ss) p.old_is ∙ append_assoc p.front (listed was ++ p.back) ss
        ∙ ap (λ (l : List ℕ). p.front ++ l) (append_assoc (listed was) p.back ss);
    new_is = ap (λ (l : List ℕ). l ++ ss) p.new_is ∙ append_assoc p.front (c ∷ p.back) ss;
  }

-- the cluster that is replaced is named no more
pub put_gone : {old new : List ℕ} {o c : ℕ} → IsPutIn old new (Some o) c → IsOnce old → (c ≡ o → ⊥) → IsOut o new
put_gone {o = o} {c = c} p once differ = subst (λ (l : List ℕ). IsOut o l) (sym p.new_is)
    (gone_after c p.back p.front o (subst (λ (l : List ℕ). IsOnce l) p.old_is once) differ)

-- it is named before
pub put_stood : {old new : List ℕ} {o c : ℕ} → IsPutIn old new (Some o) c → IsOut o old → ⊥
put_stood {o = o} p out = stands o p.front p.back (subst (λ (l : List ℕ). IsOut o l) p.old_is out)

-- where it is put over itself, the same clusters are named
pub put_same : {old new : List ℕ} {o c : ℕ} → IsPutIn old new (Some o) c → c ≡ o → new ≡ old
put_same p same = p.new_is ∙ ap (λ (x : ℕ). p.front ++ (x ∷ p.back)) same ∙ sym p.old_is

-- ---- clusters are dropped

-- clusters in their order, each with whether it is dropped; all of them, those that are kept, and those that are gone
abbrev pub Marks : Type 0
Marks = List (Bool × ℕ)

abbrev pub all_of : Marks → List ℕ
all_of [] = []
all_of (m ∷ ms) = m.1 ∷ all_of ms

abbrev pub kept_of : Marks → List ℕ
kept_of [] = []
kept_of (m ∷ ms) = cond (not m.0) (m.1 ∷ kept_of ms) (kept_of ms)

abbrev pub gone_of : Marks → List ℕ
gone_of [] = []
gone_of (m ∷ ms) = cond m.0 (m.1 ∷ gone_of ms) (gone_of ms)

pub record IsParted (all kept gone : List ℕ) : Type 0 where
  pub marks : Marks
  pub all_is : all ≡ all_of marks
  pub kept_is : kept ≡ kept_of marks
  pub gone_is : gone ≡ gone_of marks

-- each of some clusters is none of the others
abbrev pub AreOut : List ℕ → List ℕ → Type 0
AreOut [] cs = Unit {0}
AreOut (x ∷ xs) cs = IsOut x cs × AreOut xs cs

kept_out : (c : ℕ) (ms : Marks) → IsOut c (all_of ms) → IsOut c (kept_of ms)
kept_out c [] out = tt
kept_out c (m ∷ ms) out =
    elim m.0 as (λ b. IsOut c (cond (not b) (m.1 ∷ kept_of ms) (kept_of ms))) [
      | true ↦ kept_out c ms out.1
      | false ↦ (out.0, kept_out c ms out.1)
    ]

pub gone_out : (c : ℕ) (ms : Marks) → IsOut c (all_of ms) → IsOut c (gone_of ms)
gone_out c [] out = tt
gone_out c (m ∷ ms) out =
    elim m.0 as (λ b. IsOut c (cond b (m.1 ∷ gone_of ms) (gone_of ms))) [
      | true ↦ (out.0, gone_out c ms out.1)
      | false ↦ gone_out c ms out.1
    ]

kept_once : (ms : Marks) → IsOnce (all_of ms) → IsOnce (kept_of ms)
kept_once [] once = tt
kept_once (m ∷ ms) once =
    elim m.0 as (λ b. IsOnce (cond (not b) (m.1 ∷ kept_of ms) (kept_of ms))) [
      | true ↦ kept_once ms once.1
      | false ↦ (kept_out m.1 ms once.0, kept_once ms once.1)
    ]

kept_data : (n : ℕ) (ms : Marks) → AreData n (all_of ms) → AreData n (kept_of ms)
kept_data n [] all = tt
kept_data n (m ∷ ms) all =
    elim m.0 as (λ b. AreData n (cond (not b) (m.1 ∷ kept_of ms) (kept_of ms))) [
      | true ↦ kept_data n ms all.1
      | false ↦ (all.0, kept_data n ms all.1)
    ]

out_one : (c : ℕ) (xs cs : List ℕ) → IsOut c xs → AreOut xs cs → AreOut xs (c ∷ cs)
out_one c [] cs apart out = tt
out_one c (x ∷ xs) cs apart out = ((λ same. apart.0 (sym same), out.0), out_one c xs cs apart.1 out.1)

gone_apart : (ms : Marks) → IsOnce (all_of ms) → AreOut (gone_of ms) (kept_of ms)
gone_apart [] once = tt
gone_apart (m ∷ ms) once =
    elim m.0 as (λ b. AreOut (cond b (m.1 ∷ gone_of ms) (gone_of ms)) (cond (not b) (m.1 ∷ kept_of ms) (kept_of ms))) [
      | true ↦ (kept_out m.1 ms once.0, gone_apart ms once.1)
      | false ↦ out_one m.1 (gone_of ms) (kept_of ms) (gone_out m.1 ms once.0) (gone_apart ms once.1)
    ]

module _ {all kept gone : List ℕ} (p : IsParted all kept gone) where
  pub parted_out : (c : ℕ) → IsOut c all → IsOut c kept
  parted_out c out = subst (λ (l : List ℕ). IsOut c l) (sym p.kept_is)
      (kept_out c p.marks (subst (λ (l : List ℕ). IsOut c l) p.all_is out))

  pub parted_once : IsOnce all → IsOnce kept
  parted_once once = subst (λ (l : List ℕ). IsOnce l) (sym p.kept_is)
      (kept_once p.marks (subst (λ (l : List ℕ). IsOnce l) p.all_is once))

  pub parted_data : (n : ℕ) → AreData n all → AreData n kept
  parted_data n data_clusters = subst (λ (l : List ℕ). AreData n l) (sym p.kept_is)
      (kept_data n p.marks (subst (λ (l : List ℕ). AreData n l) p.all_is data_clusters))

  -- what is gone is named no more
  pub parted_apart : IsOnce all → AreOut gone kept
  parted_apart once = subst (λ (x : List ℕ × List ℕ). AreOut x.0 x.1) (λ i. (sym p.gone_is i, sym p.kept_is i))
      (gone_apart p.marks (subst (λ (l : List ℕ). IsOnce l) p.all_is once))

  -- clusters that stay stand before these
  parted_behind : (xs : List ℕ) → IsParted (xs ++ all) (xs ++ kept) gone
  parted_behind [] = p
  parted_behind (x ∷ xs) =
      let rest = parted_behind xs in
      record {
        marks = (false, x) ∷ rest.marks;
        all_is = ap (λ (l : List ℕ). x ∷ l) rest.all_is;
        kept_is = ap (λ (l : List ℕ). x ∷ l) rest.kept_is;
        gone_is = rest.gone_is;
      }

-- clusters that all stay
abbrev stay : List ℕ → Marks
stay [] = []
stay (s ∷ ss) = (false, s) ∷ stay ss

module _ (ss : List ℕ) where
  stay_all : (xs : List ℕ) → all_of (stay xs) ≡ xs
  stay_all [] = refl
  stay_all (x ∷ xs) = ap (λ (l : List ℕ). x ∷ l) (stay_all xs)

  stay_kept : (xs : List ℕ) → kept_of (stay xs) ≡ xs
  stay_kept [] = refl
  stay_kept (x ∷ xs) = ap (λ (l : List ℕ). x ∷ l) (stay_kept xs)

  stay_gone : (xs : List ℕ) → gone_of (stay xs) ≡ []
  stay_gone [] = refl
  stay_gone (x ∷ xs) = stay_gone xs

  all_then : (ms : Marks) → all_of (ms ++ stay ss) ≡ all_of ms ++ ss
  all_then [] = stay_all ss
  all_then (m ∷ ms) = ap (λ (l : List ℕ). m.1 ∷ l) (all_then ms)

  kept_then : (ms : Marks) → kept_of (ms ++ stay ss) ≡ kept_of ms ++ ss
  kept_then [] = stay_kept ss
  kept_then (m ∷ ms) =
      elim m.0 as (λ b. cond (not b) (m.1 ∷ kept_of (ms ++ stay ss)) (kept_of (ms ++ stay ss))
      ≡ cond (not b) (m.1 ∷ kept_of ms) (kept_of ms) ++ ss) [
        | true ↦ kept_then ms
        | false ↦ ap (λ (l : List ℕ). m.1 ∷ l) (kept_then ms)
      ]

  gone_then : (ms : Marks) → gone_of (ms ++ stay ss) ≡ gone_of ms
  gone_then [] = stay_gone ss
  gone_then (m ∷ ms) =
      elim m.0 as (λ b. cond b (m.1 ∷ gone_of (ms ++ stay ss)) (gone_of (ms ++ stay ss))
      ≡ cond b (m.1 ∷ gone_of ms) (gone_of ms)) [
        | true ↦ ap (λ (l : List ℕ). m.1 ∷ l) (gone_then ms)
        | false ↦ gone_then ms
      ]

  -- clusters that stay stand behind these
  parted_before : {all kept gone : List ℕ} → IsParted all kept gone → IsParted (all ++ ss) (kept ++ ss) gone
  parted_before p = record {
    marks = p.marks ++ stay ss;
    all_is = ap (λ (l : List ℕ). l ++ ss) p.all_is ∙ sym (all_then p.marks);
    kept_is = ap (λ (l : List ℕ). l ++ ss) p.kept_is ∙ sym (kept_then p.marks);
    gone_is = p.gone_is ∙ sym (gone_then p.marks);
  }

-- ---- the entries of a table name a cluster each

module _ {V : Type 0} (cluster : V → ℕ) where
  abbrev Entries : Type 0
  Entries = List ((ℕ × ℕ) × V)

  abbrev clusters_by : Entries → List ℕ
  clusters_by [] = []
  clusters_by (e ∷ es) = cluster e.1 ∷ clusters_by es

  none_below : (k y : ℕ × ℕ) (es : Entries) → pair_cmp k y ≡ Less → T (below_all pair_cmp y es)
      → find pair_cmp k es ≡ None
  none_below k y [] less low = refl
  none_below k y (e ∷ es) less low =
      ap (λ (r : Ordering). cond (is_eq r) (Some e.1) (find pair_cmp k es))
      (pair_total.trans k y e.0 less (is_less (pair_cmp y e.0) (first_true _ _ low)))
      ∙ none_below k y es less (second_true (is_lt (pair_cmp y e.0)) _ low)

  put_in : (k : ℕ × ℕ) (v : V) (es : Entries) → T (is_sorted pair_cmp es)
      → IsPutIn (clusters_by es) (clusters_by (put pair_cmp k v es)) (option_map cluster (find pair_cmp k es)) (cluster v)
  put_in k v [] sorted = record { front = []; back = []; old_is = refl; new_is = refl }
  put_in k v (x ∷ es) sorted =
      by (pair_cmp k x.0) refl (put_in k v es (second_true (below_all pair_cmp x.0 es) _ sorted))
    where
      by : (r : Ordering) → pair_cmp k x.0 ≡ r
          → IsPutIn (clusters_by es) (clusters_by (put pair_cmp k v es)) (option_map cluster (find pair_cmp k es))
          (cluster v)
          → IsPutIn (clusters_by (x ∷ es))
          (clusters_by (by_order r ((k, v) ∷ x ∷ es) ((x.0, v) ∷ es) (x ∷ put pair_cmp k v es)))
          (option_map cluster (cond (is_eq r) (Some x.1) (find pair_cmp k es))) (cluster v)
      by Less is rest = subst
          (λ (o : Option V). IsPutIn (clusters_by (x ∷ es)) (clusters_by ((k, v) ∷ x ∷ es)) (option_map cluster o)
          (cluster v))
          (sym (none_below k x.0 es is (first_true _ _ sorted)))
          (record { front = []; back = clusters_by (x ∷ es); old_is = refl; new_is = refl })
      by Equal is rest = record { front = []; back = clusters_by es; old_is = refl; new_is = refl }
      by Greater is rest = record {
        front = cluster x.1 ∷ rest.front;
        back = rest.back;
        old_is = ap (λ (l : List ℕ). cluster x.1 ∷ l) rest.old_is;
        new_is = ap (λ (l : List ℕ). cluster x.1 ∷ l) rest.new_is;
      }

  parted_by : (test : ℕ × ℕ → Bool) (es : Entries)
      → IsParted (clusters_by es) (clusters_by (where_key pair_cmp (λ k. not (test k)) es))
      (clusters_by (where_key pair_cmp test es))
  parted_by test [] = record { marks = []; all_is = refl; kept_is = refl; gone_is = refl }
  parted_by test (e ∷ es) =
      let rest = parted_by test es in
      let kept = where_key pair_cmp (λ k. not (test k)) es in
      let gone = where_key pair_cmp test es in
      record {
        marks = (test e.0, cluster e.1) ∷ rest.marks;
        all_is = ap (λ (l : List ℕ). cluster e.1 ∷ l) rest.all_is;
        kept_is =
            elim (test e.0) as (λ b. clusters_by (cond (not b) (e ∷ kept) kept)
            ≡ cond (not b) (cluster e.1 ∷ kept_of rest.marks) (kept_of rest.marks)) [
              | true ↦ rest.kept_is
              | false ↦ ap (λ (l : List ℕ). cluster e.1 ∷ l) rest.kept_is
            ];
        gone_is =
            elim (test e.0) as (λ b. clusters_by (cond b (e ∷ gone) gone)
            ≡ cond b (cluster e.1 ∷ gone_of rest.marks) (gone_of rest.marks)) [
              | true ↦ ap (λ (l : List ℕ). cluster e.1 ∷ l) rest.gone_is
              | false ↦ rest.gone_is
            ];
      }

-- ---- extents and pages

abbrev of_extent : Extent → ℕ
of_extent e = e.cluster

-- the cluster of an extent, if there is one
abbrev pub cluster_at : Option Extent → Option ℕ
cluster_at was = option_map of_extent was

extents_by : (es : List (FileBlock × Extent)) → clusters_by of_extent es ≡ extent_clusters es
extents_by [] = refl
extents_by (e ∷ es) = ap (λ (l : List ℕ). e.1.cluster ∷ l) (extents_by es)

abbrev of_page : ℕ → ℕ
of_page c = c

pages_by : (es : List (PageKey × ℕ)) → clusters_by of_page es ≡ page_clusters es
pages_by [] = refl
pages_by (e ∷ es) = ap (λ (l : List ℕ). e.1 ∷ l) (pages_by es)

page_was : (o : Option ℕ) → option_map of_page o ≡ o
page_was None = refl
page_was (Some c) = refl

module _ (t : Typed) where
  pub extent_put_in : (k : FileBlock) (e : Extent) → T (is_sorted pair_cmp t.extents)
      → IsPutIn (clusters_of t) (clusters_of (with_extent k e t)) (cluster_at (find pair_cmp k t.extents)) e.cluster
  extent_put_in k e sorted = put_before
      (subst (λ (x : List ℕ × List ℕ). IsPutIn x.0 x.1 (cluster_at (find pair_cmp k t.extents)) e.cluster)
      (λ i. (extents_by t.extents i, extents_by (put pair_cmp k e t.extents) i)) (put_in of_extent k e t.extents sorted))
      (base_clusters t)

  pub page_put_in : (k : PageKey) (c : ℕ) → T (is_sorted pair_cmp t.chunks.clusters)
      → IsPutIn (clusters_of t) (clusters_of (with_cluster k c t)) (find pair_cmp k t.chunks.clusters) c
  page_put_in k c sorted = put_behind
      (subst (λ (x : (List ℕ × List ℕ) × Option ℕ). IsPutIn x.0.0 x.0.1 x.1 c)
      (λ i. (
        (pages_by t.chunks.clusters i, pages_by (put pair_cmp k c t.chunks.clusters) i),
        page_was (find pair_cmp k t.chunks.clusters) i,
      )) (put_in of_page k c t.chunks.clusters sorted))
      (extent_clusters t.extents)

  pub extents_parted : (test : FileBlock → Bool)
      → IsParted (clusters_of t) (clusters_of (keep_extents (λ k. not (test k)) t))
      (extent_clusters (where_key pair_cmp test t.extents))
  extents_parted test = parted_before (base_clusters t)
      (subst (λ (x : (List ℕ × List ℕ) × List ℕ). IsParted x.0.0 x.0.1 x.1)
      (λ i. (
        (extents_by t.extents i, extents_by (where_key pair_cmp (λ k. not (test k)) t.extents) i),
        extents_by (where_key pair_cmp test t.extents) i,
      )) (parted_by of_extent test t.extents))

  pub pages_parted : (test : PageKey → Bool)
      → IsParted (clusters_of t) (clusters_of (keep_clusters (λ k. not (test k)) t))
      (page_clusters (where_key pair_cmp test t.chunks.clusters))
  pages_parted test = parted_behind
      (subst (λ (x : (List ℕ × List ℕ) × List ℕ). IsParted x.0.0 x.0.1 x.1)
      (λ i. (
        (pages_by t.chunks.clusters i, pages_by (where_key pair_cmp (λ k. not (test k)) t.chunks.clusters) i),
        pages_by (where_key pair_cmp test t.chunks.clusters) i,
      )) (parted_by of_page test t.chunks.clusters))
      (extent_clusters t.extents)
