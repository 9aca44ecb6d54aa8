-- What a table has at a key, and what a put and a filter of the map are for it.
use Rattle.std.specs.Prelude.{◌≡◌, ℕ, List, [], ◌∷◌, Bool, true, false, cond, T, ◌&&◌, Option, Some, None, refl}
use Rattle.std.proofs.Common.{sym, ◌∙◌, ap, subst}
use Rattle.std.specs.declared.cmp.Ordering.{Ordering}
use Rattle.std.specs.declared.cmp.Ordering.TheVariants.{Less, Equal, Greater}
use Rattle.std.specs.Option.{option_map}
use Rattle.std.specs.Ordering.{is_lt, is_eq, eq_by_cmp}
use Rattle.std.specs.FinMap.Entries.{find, put, where_key, is_sorted, below_all, by_order}
use Rattle.std.proofs.lemmas.Map.Lookups.{exact_bytes}
use Rattle.byte_map.specs.Words.{Map, bytes_cmp}
use Rattle.byte_map.specs.Laws.{lower}
use Rattle.table_records.specs.Codecs.{Codec, typed, with_key}
use Rattle.groundwork.proofs.Bools.{both_true, first_true, second_true}
use Rattle.groundwork.proofs.Orders.{is_less}

some_and_none : {A : Type 0} (x : A) (o : Option A) → o ≡ Some x → o ≡ None → ⊥
some_and_none x o p q = let clash : Some x ≡ None = sym p ∙ q in cc

module _ {K V : Type 0} (c : Codec K V) where
  -- a look-up in the table is a look-up of the bytes that spell the key
  pub find_typed : (b : List ℕ) (k : K) → c.read_key b ≡ Some k → (m : Map) → find c.cmp k (typed c m) ≡ option_map c.read_value (find bytes_cmp b m)
  find_typed b k is [] = refl
  find_typed b k is (e ∷ m) =
      elim (c.read_key e.0) as (λ o. c.read_key e.0 ≡ o → find c.cmp k (with_key c o e.1 (typed c m)) ≡ option_map c.read_value (cond (eq_by_cmp bytes_cmp b e.0) (Some e.1) (find bytes_cmp b m))) [
        | Some j ↦ λ o. ap (λ (r : Ordering). cond (is_eq r) (Some (c.read_value e.1)) (find c.cmp k (typed c m))) (sym (c.ordered b e.0 k j is o))
            ∙ elim (eq_by_cmp bytes_cmp b e.0) as (λ t. cond t (Some (c.read_value e.1)) (find c.cmp k (typed c m)) ≡ option_map c.read_value (cond t (Some e.1) (find bytes_cmp b m))) [
              | true ↦ refl
              | false ↦ find_typed b k is m
            ]
        | None ↦ λ o. find_typed b k is m
            ∙ elim (bytes_cmp b e.0) as (λ r. bytes_cmp b e.0 ≡ r → option_map c.read_value (find bytes_cmp b m) ≡ option_map c.read_value (cond (is_eq r) (Some e.1) (find bytes_cmp b m))) [
              | Less ↦ λ r. refl
              | Equal ↦ λ r. absurd (some_and_none k (c.read_key b) is (ap c.read_key (exact_bytes b e.0 r) ∙ o))
              | Greater ↦ λ r. refl
            ] refl
      ] refl

  -- a key below all others goes to the front
  put_front : (b : List ℕ) (k : K) (v : V) → c.read_key b ≡ Some k → (m : Map) → T (below_all bytes_cmp b m) → put c.cmp k v (typed c m) ≡ (k, v) ∷ typed c m
  put_front b k v is [] low = refl
  put_front b k v is (e ∷ m) low =
      elim (c.read_key e.0) as (λ o. c.read_key e.0 ≡ o → put c.cmp k v (with_key c o e.1 (typed c m)) ≡ (k, v) ∷ with_key c o e.1 (typed c m)) [
        | Some j ↦ λ o. ap (λ (r : Ordering). by_order r ((k, v) ∷ (j, c.read_value e.1) ∷ typed c m) ((j, v) ∷ typed c m) ((j, c.read_value e.1) ∷ put c.cmp k v (typed c m)))
            (sym (c.ordered b e.0 k j is o) ∙ is_less _ (first_true _ _ low))
        | None ↦ λ o. put_front b k v is m (second_true _ _ low)
      ] refl

  -- a put of a key of the table is a put in the table
  pub put_typed : (b value : List ℕ) (k : K) → c.read_key b ≡ Some k → (m : Map) → T (is_sorted bytes_cmp m) → typed c (put bytes_cmp b value m) ≡ put c.cmp k (c.read_value value) (typed c m)
  put_typed b value k is [] sorted = ap (λ (o : Option K). with_key c o value []) is
  put_typed b value k is (e ∷ m) sorted =
      let v = c.read_value value in
      elim (bytes_cmp b e.0) as (λ r. bytes_cmp b e.0 ≡ r → typed c (by_order r ((b, value) ∷ e ∷ m) ((e.0, value) ∷ m) (e ∷ put bytes_cmp b value m)) ≡ put c.cmp k v (typed c (e ∷ m))) [
        | Less ↦ λ r. ap (λ (o : Option K). with_key c o value (typed c (e ∷ m))) is
            ∙ sym (put_front b k v is (e ∷ m) (both_true _ _ (subst (λ (q : Ordering). T (is_lt q)) (sym r) tt) (lower b e.0 m r (first_true _ _ sorted))))
        | Equal ↦ λ r.
            let here : c.read_key e.0 ≡ Some k = ap c.read_key (sym (exact_bytes b e.0 r)) ∙ is in
            ap (λ (o : Option K). with_key c o value (typed c m)) here
            ∙ sym (ap (λ (q : Ordering). by_order q ((k, v) ∷ (k, c.read_value e.1) ∷ typed c m) ((k, v) ∷ typed c m) ((k, c.read_value e.1) ∷ put c.cmp k v (typed c m)))
            (sym (c.ordered b e.0 k k is here) ∙ r))
            ∙ ap (λ (o : Option K). put c.cmp k v (with_key c o e.1 (typed c m))) (sym here)
        | Greater ↦ λ r. ap (λ (es : List (K × V)). with_key c (c.read_key e.0) e.1 es) (put_typed b value k is m (second_true _ _ sorted))
            ∙ elim (c.read_key e.0) as (λ o. c.read_key e.0 ≡ o → with_key c o e.1 (put c.cmp k v (typed c m)) ≡ put c.cmp k v (with_key c o e.1 (typed c m))) [
              | Some j ↦ λ o. sym (ap (λ (q : Ordering). by_order q ((k, v) ∷ (j, c.read_value e.1) ∷ typed c m) ((j, v) ∷ typed c m) ((j, c.read_value e.1) ∷ put c.cmp k v (typed c m)))
                  (sym (c.ordered b e.0 k j is o) ∙ r))
              | None ↦ λ o. refl
            ] refl
      ] refl

  -- a put of another key leaves the table
  pub put_other : (b value : List ℕ) → c.read_key b ≡ None → (m : Map) → typed c (put bytes_cmp b value m) ≡ typed c m
  put_other b value is [] = ap (λ (o : Option K). with_key c o value []) is
  put_other b value is (e ∷ m) =
      elim (bytes_cmp b e.0) as (λ r. bytes_cmp b e.0 ≡ r → typed c (by_order r ((b, value) ∷ e ∷ m) ((e.0, value) ∷ m) (e ∷ put bytes_cmp b value m)) ≡ typed c (e ∷ m)) [
        | Less ↦ λ r. ap (λ (o : Option K). with_key c o value (typed c (e ∷ m))) is
        | Equal ↦ λ r.
            let here : c.read_key e.0 ≡ None = ap c.read_key (sym (exact_bytes b e.0 r)) ∙ is in
            ap (λ (o : Option K). with_key c o value (typed c m)) here ∙ ap (λ (o : Option K). with_key c o e.1 (typed c m)) (sym here)
        | Greater ↦ λ r. ap (λ (es : List (K × V)). with_key c (c.read_key e.0) e.1 es) (put_other b value is m)
      ] refl

  -- a filter of the map's keys is a filter of the table's, where the two tests agree on the keys of the table
  pub where_typed : (p : List ℕ → Bool) (q : K → Bool) → ((b : List ℕ) (k : K) → c.read_key b ≡ Some k → p b ≡ q k) → (m : Map) → typed c (where_key bytes_cmp p m) ≡ where_key c.cmp q (typed c m)
  where_typed p q alike [] = refl
  where_typed p q alike (e ∷ m) =
      let rest = where_typed p q alike m in
      elim (c.read_key e.0) as (λ o. c.read_key e.0 ≡ o → typed c (cond (p e.0) (e ∷ where_key bytes_cmp p m) (where_key bytes_cmp p m)) ≡ where_key c.cmp q (with_key c o e.1 (typed c m))) [
        | Some k ↦ λ o. elim (p e.0) as (λ t. p e.0 ≡ t → typed c (cond t (e ∷ where_key bytes_cmp p m) (where_key bytes_cmp p m)) ≡ cond (q k) ((k, c.read_value e.1) ∷ where_key c.cmp q (typed c m)) (where_key c.cmp q (typed c m))) [
          | true ↦ λ t. ap (λ (s : Option K). with_key c s e.1 (typed c (where_key bytes_cmp p m))) o ∙ ap (λ (es : List (K × V)). (k, c.read_value e.1) ∷ es) rest
              ∙ ap (λ (t : Bool). cond t ((k, c.read_value e.1) ∷ where_key c.cmp q (typed c m)) (where_key c.cmp q (typed c m))) (sym t ∙ alike e.0 k o)
          | false ↦ λ t. rest ∙ ap (λ (t : Bool). cond t ((k, c.read_value e.1) ∷ where_key c.cmp q (typed c m)) (where_key c.cmp q (typed c m))) (sym t ∙ alike e.0 k o)
        ] refl
        | None ↦ λ o. elim (p e.0) as (λ t. typed c (cond t (e ∷ where_key bytes_cmp p m) (where_key bytes_cmp p m)) ≡ where_key c.cmp q (typed c m)) [
          | true ↦ ap (λ (s : Option K). with_key c s e.1 (typed c (where_key bytes_cmp p m))) o ∙ rest
          | false ↦ rest
        ]
      ] refl
