-- The keys of a range that is dropped: those of one row, or one copy.
use Rattle.std.specs.Prelude.{◌≡◌, ◌<◌, ◌+◌, ◌&&◌, ◌==◌, ℕ, Bool, true, false, cond, not, List, [], ◌∷◌, Some, refl}
use Rattle.std.proofs.Common.{◌∙◌, ap, sym, arith, eq-eqb, ne_eqb, inl, inr}
use Rattle.std.proofs.lemmas.Bool.{cases_eq, cases_lt}
use Rattle.std.specs.declared.cmp.Ordering.{Ordering}
use Rattle.std.specs.declared.cmp.Ordering.TheVariants.{Less, Equal, Greater}
use Rattle.std.specs.Ordering.{nat_cmp, ordering_then, is_eq, is_le, is_lt, eq_by_cmp}
use Rattle.std.specs.Cmp.{nat_cmp_is}
use Rattle.std.specs.FinMap.{put}
use Rattle.std.specs.FinMap.Entries.{by_order, where_key}
use Rattle.table_records.specs.Changes.{is_in_range}
use Rattle.table_records.specs.Keys.{pair_cmp}
use Rattle.volume_inside.specs.Entries.{Each}

less : (a b : ℕ) → a < b → nat_cmp a b ≡ Less
less a b low = sym (nat_cmp_is a b Less low)

equal : (a b : ℕ) → a ≡ b → nat_cmp a b ≡ Equal
equal a b same = sym (nat_cmp_is a b Equal same)

greater : (a b : ℕ) → b < a → nat_cmp a b ≡ Greater
greater a b high = sym (nat_cmp_is a b Greater high)

-- three ways two numbers compare
module _ (P : Type 0) (a b : ℕ) where
  by_rank : (a < b → P) → (a ≡ b → P) → (b < a → P) → P
  by_rank low same high = elim (cases_lt a b) [
    | inl is ↦ low is
    | inr is ↦ elim (cases_eq a b) [
      | inl one ↦ same one
      | inr two ↦ high (omega (arith, is, two))
    ]
  ]

-- the range of one id
pub id_range : (id x : ℕ) → is_in_range nat_cmp id (Some (id + 1)) x ≡ (x == id)
id_range id x =
    by_rank (is_in_range nat_cmp id (Some (id + 1)) x ≡ (x == id)) id x
    (λ low. (λ i. is_le (less id x low i) && is_lt (nat_cmp x (id + 1))) ∙ past low
    ∙ sym (ne_eqb x id (λ same. omega (arith, low, same))))
    (λ same. (λ i. is_le (equal id x same i) && is_lt (less x (id + 1) (omega (arith, same)) i))
    ∙ sym (eq-eqb x id (sym same)))
    (λ high. (λ i. is_le (greater id x high i) && is_lt (nat_cmp x (id + 1)))
    ∙ sym (ne_eqb x id (λ same. omega (arith, high, same))))
  where
    past : id < x → is_lt (nat_cmp x (id + 1)) ≡ false
    past low =
        by_rank (is_lt (nat_cmp x (id + 1)) ≡ false) x (id + 1)
        (λ under. absurd (omega (arith, low, under)))
        (λ same. ap is_lt (equal x (id + 1) same))
        (λ over. ap is_lt (greater x (id + 1) over))

-- the range of the copies of a row
pub copies_range : (id : ℕ) (k : ℕ × ℕ) → is_in_range pair_cmp (id, 0) (Some (id + 1, 0)) k ≡ (k.0 == id)
copies_range id k =
    by_rank (is_in_range pair_cmp (id, 0) (Some (id + 1, 0)) k ≡ (k.0 == id)) id k.0
    (λ low. (λ i. is_le (ordering_then (less id k.0 low i) (nat_cmp 0 k.1)) && is_lt (pair_cmp k (id + 1, 0)))
    ∙ past low ∙ sym (ne_eqb k.0 id (λ same. omega (arith, low, same))))
    (λ same. (λ i. is_le (ordering_then (equal id k.0 same i) (nat_cmp 0 k.1))
    && is_lt (ordering_then (less k.0 (id + 1) (omega (arith, same)) i) (nat_cmp k.1 0)))
    ∙ from_zero ∙ sym (eq-eqb k.0 id (sym same)))
    (λ high. (λ i. is_le (ordering_then (greater id k.0 high i) (nat_cmp 0 k.1)) && is_lt (pair_cmp k (id + 1, 0)))
    ∙ sym (ne_eqb k.0 id (λ same. omega (arith, high, same))))
  where
    never_under : is_lt (nat_cmp k.1 0) ≡ false
    never_under =
        by_rank (is_lt (nat_cmp k.1 0) ≡ false) k.1 0
        (λ under. absurd (omega (arith, under)))
        (λ same. ap is_lt (equal k.1 0 same))
        (λ over. ap is_lt (greater k.1 0 over))

    from_zero : (is_le (nat_cmp 0 k.1) && true) ≡ true
    from_zero =
        by_rank ((is_le (nat_cmp 0 k.1) && true) ≡ true) 0 k.1
        (λ low. ap (λ (r : Ordering). is_le r && true) (less 0 k.1 low))
        (λ same. ap (λ (r : Ordering). is_le r && true) (equal 0 k.1 same))
        (λ high. absurd (omega (arith, high)))

    past : id < k.0 → is_lt (pair_cmp k (id + 1, 0)) ≡ false
    past low =
        by_rank (is_lt (pair_cmp k (id + 1, 0)) ≡ false) k.0 (id + 1)
        (λ under. absurd (omega (arith, low, under)))
        (λ same. ap (λ (r : Ordering). is_lt (ordering_then r (nat_cmp k.1 0))) (equal k.0 (id + 1) same) ∙ never_under)
        (λ over. ap (λ (r : Ordering). is_lt (ordering_then r (nat_cmp k.1 0))) (greater k.0 (id + 1) over))

abbrev IsOneCopy : ℕ × ℕ → ℕ × ℕ → Type 0
IsOneCopy k q = is_in_range pair_cmp k (Some (k.0, k.1 + 1)) q ≡ eq_by_cmp pair_cmp k q

-- the range of one copy
pub copy_range : (k q : ℕ × ℕ) → is_in_range pair_cmp k (Some (k.0, k.1 + 1)) q ≡ eq_by_cmp pair_cmp k q
copy_range k q =
    by_rank (IsOneCopy k q) k.0 q.0
    (λ low. outer Less Greater (less k.0 q.0 low) (greater q.0 k.0 low) refl refl)
    (λ same. by_rank (IsOneCopy k q) k.1 q.1
    (λ low. by_rank (IsOneCopy k q) q.1 (k.1 + 1)
    (λ under. absurd (omega (arith, low, under)))
    (λ next. inner Less Equal same (less k.1 q.1 low) (equal q.1 (k.1 + 1) next) refl)
    (λ over. inner Less Greater same (less k.1 q.1 low) (greater q.1 (k.1 + 1) over) refl))
    (λ one. inner Equal Less same (equal k.1 q.1 one) (less q.1 (k.1 + 1) (omega (arith, one))) refl)
    (λ high. inner Greater Less same (greater k.1 q.1 high) (less q.1 (k.1 + 1) (omega (arith, high))) refl))
    (λ high. outer Greater Less (greater k.0 q.0 high) (less q.0 k.0 high) refl refl)
  where
    outer : (r s : Ordering) → nat_cmp k.0 q.0 ≡ r → nat_cmp q.0 k.0 ≡ s
        → (is_le (ordering_then r (nat_cmp k.1 q.1)) && is_lt (ordering_then s (nat_cmp q.1 (k.1 + 1)))) ≡ false
        → is_eq (ordering_then r (nat_cmp k.1 q.1)) ≡ false
        → is_in_range pair_cmp k (Some (k.0, k.1 + 1)) q ≡ eq_by_cmp pair_cmp k q
    outer r s one two none never =
        (λ i. is_le (ordering_then (one i) (nat_cmp k.1 q.1)) && is_lt (ordering_then (two i) (nat_cmp q.1 (k.1 + 1))))
        ∙ none ∙ sym never ∙ sym (λ i. is_eq (ordering_then (one i) (nat_cmp k.1 q.1)))

    inner : (r s : Ordering) → k.0 ≡ q.0 → nat_cmp k.1 q.1 ≡ r → nat_cmp q.1 (k.1 + 1) ≡ s
        → (is_le r && is_lt s) ≡ is_eq r → is_in_range pair_cmp k (Some (k.0, k.1 + 1)) q ≡ eq_by_cmp pair_cmp k q
    inner r s same three four agree =
        let one = equal k.0 q.0 same in
        let two = equal q.0 k.0 (sym same) in
        (λ i. is_le (ordering_then (one i) (three i)) && is_lt (ordering_then (two i) (four i)))
        ∙ agree ∙ sym (λ i. is_eq (ordering_then (one i) (three i)))

-- an entry that was just put, above all others, is dropped
module _ {V : Type 0} (id : ℕ) (v : V) where
  abbrev kept : ℕ → Bool
  kept x = not (is_in_range nat_cmp id (Some (id + 1)) x)

  lower_kept : (x : ℕ) → x < id → kept x ≡ true
  lower_kept x low = ap not (id_range id x ∙ ne_eqb x id (λ same. omega (arith, low, same)))

  itself_dropped : kept id ≡ false
  itself_dropped = ap not (id_range id id ∙ eq-eqb id id refl)

  pub taken_back : (es : List (ℕ × V)) → Each (λ x w. x < id) es → where_key nat_cmp kept (put nat_cmp id v es) ≡ es
  taken_back [] low = ap (λ (b : Bool). cond b ((id, v) ∷ []) []) itself_dropped
  taken_back (e ∷ es) low =
      ap (λ (r : Ordering). where_key nat_cmp kept
      (by_order r ((id, v) ∷ e ∷ es) ((e.0, v) ∷ es) (e ∷ put nat_cmp id v es))) (greater id e.0 low.0)
      ∙ ap (λ (b : Bool). cond b (e ∷ where_key nat_cmp kept (put nat_cmp id v es))
      (where_key nat_cmp kept (put nat_cmp id v es))) (lower_kept e.0 low.0)
      ∙ ap (λ (rest : List (ℕ × V)). e ∷ rest) (taken_back es low.1)
