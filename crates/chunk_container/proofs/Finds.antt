-- What is found in a table once an entry is put or only some are kept, and what holds of each entry then.
use Rattle.std.specs.Prelude.{◌≡◌, ◌&&◌, Bool, true, false, cond, T, List, [], ◌∷◌, Option, Some, None, IsSome, IsSomeAnd, refl}
use Rattle.std.proofs.Common.{◌∙◌, ap, sym, subst}
use Rattle.std.specs.declared.cmp.Ordering.{Ordering}
use Rattle.std.specs.declared.cmp.Ordering.TheVariants.{Less, Equal, Greater}
use Rattle.std.specs.Ordering.{is_eq, is_lt, eq_by_cmp}
use Rattle.std.specs.Cmp.{IsTotalOrder, tied_itself}
use Rattle.std.specs.FinMap.{find, put, is_sorted}
use Rattle.std.specs.FinMap.Entries.{by_order, where_key, below_all, find-put, find-where_key}
use Rattle.groundwork.proofs.Bools.{first_true, second_true}
use Rattle.volume_inside.specs.Entries.{Each}

pub some_and : {A : Type 0} (P : A → Type 0) (o : Option A) → IsSomeAnd o P → IsSome o
some_and P None none = absurd none
some_and P (Some x) holds = refl

-- of two facts on each entry
pub each_both : {K V : Type 0} (P Q R : K → V → Type 0) (es : List (K × V)) → ((k : K) (v : V) → P k v → Q k v → R k v)
    → Each P es → Each Q es → Each R es
each_both P Q R [] both one two = tt
each_both P Q R (e ∷ es) both one two =
    (both e.0 e.1 one.0 two.0, each_both P Q R es both one.1 two.1)

module _ {K V : Type 0} (cmp : K → K → Ordering) where
  -- of the entries that are kept, more is known
  pub each_kept : (P Q : K → V → Type 0) (test : K → Bool) (es : List (K × V))
      → ((k : K) (v : V) → test k ≡ true → P k v → Q k v) → Each P es → Each Q (where_key cmp test es)
  each_kept P Q test [] more each = tt
  each_kept P Q test (e ∷ es) more each =
      let rest = each_kept P Q test es more each.1 in
      elim (test e.0) as (λ b. test e.0 ≡ b → Each Q (cond b (e ∷ where_key cmp test es) (where_key cmp test es))) [
        | true ↦ λ is. (more e.0 e.1 is each.0, rest)
        | false ↦ λ is. rest
      ] refl

module _ {K V : Type 0} (cmp : K → K → Ordering) (total : IsTotalOrder cmp) where
  pub found_put : (k : K) (v : V) (es : List (K × V)) → find cmp k (put cmp k v es) ≡ Some v
  found_put k v es =
      find-put cmp total k k v es ∙ ap (λ (r : Ordering). cond (is_eq r) (Some v) (find cmp k es)) (tied_itself total k)

  pub found_other : (x k : K) (v : V) (es : List (K × V)) → (cmp x k ≡ Equal → ⊥)
      → find cmp x (put cmp k v es) ≡ find cmp x es
  found_other x k v es differ = find-put cmp total x k v es ∙ by (cmp x k) differ
    where
      by : (r : Ordering) → (r ≡ Equal → ⊥) → cond (is_eq r) (Some v) (find cmp x es) ≡ find cmp x es
      by Less other = refl
      by Equal other = absurd (other refl)
      by Greater other = refl

  -- an entry is there after any put, if it was there
  pub there_put : (x k : K) (v : V) (es : List (K × V)) → IsSome (find cmp x es) → IsSome (find cmp x (put cmp k v es))
  there_put x k v es there = subst IsSome (sym (find-put cmp total x k v es)) (by (eq_by_cmp cmp x k))
    where
      by : (t : Bool) → IsSome (cond t (Some v) (find cmp x es))
      by true = refl
      by false = there

module _ {K V : Type 0} (cmp : K → K → Ordering) (exact : (x y : K) → cmp x y ≡ Equal → x ≡ y) where
  found_kept_as : (test : K → Bool) (x : K) (es : List (K × V))
      → find cmp x (where_key cmp test es) ≡ cond (test x) (find cmp x es) None
  found_kept_as test x es =
      find-where_key cmp test x (λ y tie. ap test (sym (exact x y tie))) es

  pub found_kept : (test : K → Bool) (x : K) (es : List (K × V)) → test x ≡ true
      → find cmp x (where_key cmp test es) ≡ find cmp x es
  found_kept test x es is =
      found_kept_as test x es ∙ ap (λ (b : Bool). cond b (find cmp x es) None) is

  pub found_dropped : (test : K → Bool) (x : K) (es : List (K × V)) → test x ≡ false
      → find cmp x (where_key cmp test es) ≡ None
  found_dropped test x es is =
      found_kept_as test x es ∙ ap (λ (b : Bool). cond b (find cmp x es) None) is

-- once an entry is put in the place of another, the fact need hold of the others alone
module _ {K V : Type 0} (cmp : K → K → Ordering) (total : IsTotalOrder cmp)
    (exact : (x y : K) → cmp x y ≡ Equal → x ≡ y) (k : K) (P : K → V → Type 0) where
  abbrev IsOther : K → V → Type 0
  IsOther x v = (x ≡ k → ⊥) → P x v

  above_differs : (x : K) → cmp k x ≡ Less → x ≡ k → ⊥
  above_differs x less same =
      let tie : Less ≡ Equal = sym less ∙ ap (λ (y : K). cmp k y) same ∙ tied_itself total k in
      cc

  below_differs : (x : K) → cmp k x ≡ Greater → x ≡ k → ⊥
  below_differs x more same =
      let tie : Greater ≡ Equal = sym more ∙ ap (λ (y : K). cmp k y) same ∙ tied_itself total k in
      cc

  all_above : (es : List (K × V)) → T (below_all cmp k es) → Each IsOther es → Each P es
  all_above [] above each = tt
  all_above (e ∷ es) above each = (
    each.0 (above_differs e.0 (less (cmp k e.0) (first_true (is_lt (cmp k e.0)) (below_all cmp k es) above))),
    all_above es (second_true (is_lt (cmp k e.0)) (below_all cmp k es) above) each.1,
  )
    where
      less : (r : Ordering) → T (is_lt r) → r ≡ Less
      less Less is = refl
      less Equal is = absurd is
      less Greater is = absurd is

  pub each_replaced : (v : V) (es : List (K × V)) → T (is_sorted cmp es) → P k v
      → Each (λ x w. (x ≡ k → ⊥) → P x w) es → Each P (put cmp k v es)
  each_replaced v [] sorted one each = (one, tt)
  each_replaced v (e ∷ es) sorted one each =
      let low = first_true (below_all cmp e.0 es) (is_sorted cmp es) sorted in
      let rest = second_true (below_all cmp e.0 es) (is_sorted cmp es) sorted in
      elim (cmp k e.0) as (λ r. cmp k e.0 ≡ r
      → Each P (by_order r ((k, v) ∷ e ∷ es) ((e.0, v) ∷ es) (e ∷ put cmp k v es))) [
        | Less ↦ λ is. (one, (each.0 (above_differs e.0 is), all_above es (lower es is low) each.1))
        | Equal ↦ λ is. (
          let here : K → Type 0 = λ x. P x v in
              subst here (exact k e.0 is) one,
          all_above es (subst (λ (x : K). T (below_all cmp x es)) (sym (exact k e.0 is)) low) each.1,
        )
        | Greater ↦ λ is. (each.0 (below_differs e.0 is), each_replaced v es rest one each.1)
      ] refl
    where
      lower : (es : List (K × V)) → cmp k e.0 ≡ Less → T (below_all cmp e.0 es) → T (below_all cmp k es)
      lower [] is above = tt
      lower (x ∷ es) is above =
          let first = first_true (is_lt (cmp e.0 x.0)) (below_all cmp e.0 es) above in
          let more = second_true (is_lt (cmp e.0 x.0)) (below_all cmp e.0 es) above in
          both (is_lt (cmp k x.0)) (below_all cmp k es)
          (ap is_lt (total.trans k e.0 x.0 is (less (cmp e.0 x.0) first)))
          (lower es is more)
        where
          less : (r : Ordering) → T (is_lt r) → r ≡ Less
          less Less is = refl
          less Equal is = absurd is
          less Greater is = absurd is

          both : (a b : Bool) → a ≡ true → T b → T (a && b)
          both true b is p = p
          both false b is p = absurd (cc)
