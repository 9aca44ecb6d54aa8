-- Files at places of a list, and the volume that they are.
use Rattle.std.specs.List.{remove}
use Rattle.std.proofs.Common.{◌≡◌, ℕ, zero, suc, ◌<◌, ◌≤◌, List, [], ◌∷◌, length, cond, Some, None, slice_set, insert, refl, ap, subst, ◌∙◌, arith, Bool, T, ◌&&◌, true, false, not, sym}
use Rattle.std.specs.declared.cmp.Ordering.TheVariants.{Less, Greater}
use Rattle.std.specs.Ordering.{is_eq, is_lt, eq_by_cmp}
use Rattle.std.specs.Cmp.{tied_itself}
use Rattle.std.specs.Cmp.Lexicographic.{nat_list_cmp_total}
use Rattle.std.specs.FinMap.Entries.{find, put, by_order, below_all, is_sorted}
use Rattle.groundwork.proofs.Bools.{both_true}
use Rattle.plain_volume.specs.Volume.{name_cmp, cells_of, with_file, cells_from, without_file}
use Rattle.plain_volume.specs.Files.{Named, IsBelow, IsRising, BelongsAt, name_at, bytes_at, volume_of}
use Rattle.plain_volume.proofs.Order.{below_flipped}

-- what `find` and `put` do at an entry, by how the name compares to its name
find_past : (name : List ℕ) (e : Named) (es : List Named) → name_cmp name e.0 ≡ Greater → find name_cmp name (volume_of (e ∷ es)) ≡ find name_cmp name (volume_of es)
find_past name e es is = ap (λ o. cond (is_eq o) (Some (cells_from e.1)) (find name_cmp name (volume_of es))) is

find_before : (name : List ℕ) (e : Named) (es : List Named) → name_cmp name e.0 ≡ Less → find name_cmp name (volume_of (e ∷ es)) ≡ find name_cmp name (volume_of es)
find_before name e es is = ap (λ o. cond (is_eq o) (Some (cells_from e.1)) (find name_cmp name (volume_of es))) is

put_past : (name bytes : List ℕ) (e : Named) (es : List Named) → name_cmp name e.0 ≡ Greater → put name_cmp name (cells_from bytes) (volume_of (e ∷ es)) ≡ (e.0, cells_from e.1) ∷ put name_cmp name (cells_from bytes) (volume_of es)
put_past name bytes e es is = ap (λ o. by_order o ((name, cells_from bytes) ∷ volume_of (e ∷ es)) ((e.0, cells_from bytes) ∷ volume_of es) ((e.0, cells_from e.1) ∷ put name_cmp name (cells_from bytes) (volume_of es))) is

put_before : (name bytes : List ℕ) (e : Named) (es : List Named) → name_cmp name e.0 ≡ Less → put name_cmp name (cells_from bytes) (volume_of (e ∷ es)) ≡ (name, cells_from bytes) ∷ volume_of (e ∷ es)
put_before name bytes e es is = ap (λ o. by_order o ((name, cells_from bytes) ∷ volume_of (e ∷ es)) ((e.0, cells_from bytes) ∷ volume_of es) ((e.0, cells_from e.1) ∷ put name_cmp name (cells_from bytes) (volume_of es))) is

-- ---- a name that has its file at a place

module _ (name : List ℕ) where
  find_at : (es : List Named) (i : ℕ) → ((j : ℕ) → j < i → IsBelow (name_at es j) name) → i < length es → name_at es i ≡ name → cells_of name (volume_of es) ≡ Some (cells_from (bytes_at es i))
  find_at [] i before inside here = absurd (omega arith)
  find_at (e ∷ es) zero before inside here =
      ap (λ o. cond (is_eq o) (Some (cells_from e.1)) (find name_cmp name (volume_of es))) (ap (name_cmp name) here ∙ tied_itself nat_list_cmp_total name)
  find_at (e ∷ es) (suc i) before inside here =
      find_past name e es (below_flipped e.0 name (before 0 (omega arith))) ∙ find_at es i (λ j less. before (suc j) (omega arith)) (omega arith) here

  put_at : (bytes : List ℕ) (es : List Named) (i : ℕ) → ((j : ℕ) → j < i → IsBelow (name_at es j) name) → i < length es → name_at es i ≡ name → with_file name (cells_from bytes) (volume_of es) ≡ volume_of (slice_set es i (name, bytes))
  put_at bytes [] i before inside here = absurd (omega arith)
  put_at bytes (e ∷ es) zero before inside here =
      ap (λ o. by_order o ((name, cells_from bytes) ∷ volume_of (e ∷ es)) ((e.0, cells_from bytes) ∷ volume_of es) ((e.0, cells_from e.1) ∷ put name_cmp name (cells_from bytes) (volume_of es)))
      (ap (name_cmp name) here ∙ tied_itself nat_list_cmp_total name)
      ∙ ap (λ n. (n, cells_from bytes) ∷ volume_of es) here
  put_at bytes (e ∷ es) (suc i) before inside here =
      put_past name bytes e es (below_flipped e.0 name (before 0 (omega arith)))
      ∙ ap (λ v. (e.0, cells_from e.1) ∷ v) (put_at bytes es i (λ j less. before (suc j) (omega arith)) (omega arith) here)

  -- ---- a name that has no file

  find_none : (es : List Named) → ((j : ℕ) → j < length es → IsBelow name (name_at es j)) → cells_of name (volume_of es) ≡ None
  find_none [] above = refl
  find_none (e ∷ es) above = find_before name e es (above 0 (omega arith)) ∙ find_none es (λ j less. above (suc j) (omega arith))

  find_gap : (es : List Named) (i : ℕ) → ((j : ℕ) → j < i → IsBelow (name_at es j) name) → ((j : ℕ) → i ≤ j → j < length es → IsBelow name (name_at es j)) → i ≤ length es → cells_of name (volume_of es) ≡ None
  find_gap es zero before from inside = find_none es (λ j less. from j (omega arith) less)
  find_gap [] (suc i) before from inside = refl
  find_gap (e ∷ es) (suc i) before from inside =
      find_past name e es (below_flipped e.0 name (before 0 (omega arith))) ∙ find_gap es i (λ j less. before (suc j) (omega arith)) (λ j low less. from (suc j) (omega arith) (omega arith)) (omega arith)

  put_gap : (bytes : List ℕ) (es : List Named) (i : ℕ) → ((j : ℕ) → j < i → IsBelow (name_at es j) name) → ((j : ℕ) → i ≤ j → j < length es → IsBelow name (name_at es j)) → i ≤ length es → with_file name (cells_from bytes) (volume_of es) ≡ volume_of (insert es i (name, bytes))
  put_gap bytes [] zero before from inside = refl
  put_gap bytes (e ∷ es) zero before from inside = put_before name bytes e es (from 0 (omega arith) (omega arith))
  put_gap bytes [] (suc i) before from inside = absurd (omega arith)
  put_gap bytes (e ∷ es) (suc i) before from inside =
      put_past name bytes e es (below_flipped e.0 name (before 0 (omega arith)))
      ∙ ap (λ v. (e.0, cells_from e.1) ∷ v) (put_gap bytes es i (λ j less. before (suc j) (omega arith)) (λ j low less. from (suc j) (omega arith) (omega arith)) (omega arith))

  pub found_cells : (es : List Named) (i : ℕ) → IsRising es → i < length es → name_at es i ≡ name → cells_of name (volume_of es) ≡ Some (cells_from (bytes_at es i))
  found_cells es i up inside here = find_at es i (λ j less. subst (λ n. IsBelow (name_at es j) n) here (up j i less inside)) inside here

  pub set_cells : (bytes : List ℕ) (es : List Named) (i : ℕ) → IsRising es → i < length es → name_at es i ≡ name → with_file name (cells_from bytes) (volume_of es) ≡ volume_of (slice_set es i (name, bytes))
  set_cells bytes es i up inside here = put_at bytes es i (λ j less. subst (λ n. IsBelow (name_at es j) n) here (up j i less inside)) inside here

  pub absent_cells : (es : List Named) (i : ℕ) → BelongsAt es name i → cells_of name (volume_of es) ≡ None
  absent_cells es i gap = find_gap es i gap.before gap.from gap.in_range

  pub insert_cells : (bytes : List ℕ) (es : List Named) (i : ℕ) → BelongsAt es name i → with_file name (cells_from bytes) (volume_of es) ≡ volume_of (insert es i (name, bytes))
  insert_cells bytes es i gap = put_gap bytes es i gap.before gap.from gap.in_range

-- ---- a file that is dropped

kept : (name : List ℕ) (e : Named) (es : List Named) → eq_by_cmp name_cmp name e.0 ≡ false → without_file name (volume_of (e ∷ es)) ≡ (e.0, cells_from e.1) ∷ without_file name (volume_of es)
kept name e es is = ap (λ b. cond (not b) ((e.0, cells_from e.1) ∷ without_file name (volume_of es)) (without_file name (volume_of es))) is

dropped : (name : List ℕ) (e : Named) (es : List Named) → eq_by_cmp name_cmp name e.0 ≡ true → without_file name (volume_of (e ∷ es)) ≡ without_file name (volume_of es)
dropped name e es is = ap (λ b. cond (not b) ((e.0, cells_from e.1) ∷ without_file name (volume_of es)) (without_file name (volume_of es))) is

module _ (name : List ℕ) where
  none_dropped : (es : List Named) → ((j : ℕ) → j < length es → IsBelow name (name_at es j)) → without_file name (volume_of es) ≡ volume_of es
  none_dropped [] above = refl
  none_dropped (e ∷ es) above = kept name e es (ap is_eq (above 0 (omega arith))) ∙ ap (λ v. (e.0, cells_from e.1) ∷ v) (none_dropped es (λ j less. above (suc j) (omega arith)))

  gap_dropped : (es : List Named) (i : ℕ) → ((j : ℕ) → j < i → IsBelow (name_at es j) name) → ((j : ℕ) → i ≤ j → j < length es → IsBelow name (name_at es j)) → i ≤ length es → without_file name (volume_of es) ≡ volume_of es
  gap_dropped es zero before from inside = none_dropped es (λ j less. from j (omega arith) less)
  gap_dropped [] (suc i) before from inside = refl
  gap_dropped (e ∷ es) (suc i) before from inside =
      kept name e es (ap is_eq (below_flipped e.0 name (before 0 (omega arith))))
      ∙ ap (λ v. (e.0, cells_from e.1) ∷ v) (gap_dropped es i (λ j less. before (suc j) (omega arith)) (λ j low less. from (suc j) (omega arith) (omega arith)) (omega arith))

  drop_at : (es : List Named) (i : ℕ) → ((j : ℕ) → j < i → IsBelow (name_at es j) name) → ((j : ℕ) → i < j → j < length es → IsBelow name (name_at es j)) → i < length es → name_at es i ≡ name → without_file name (volume_of es) ≡ volume_of (remove es i)
  drop_at [] i before after inside here = absurd (omega arith)
  drop_at (e ∷ es) zero before after inside here =
      dropped name e es (ap is_eq (ap (name_cmp name) here ∙ tied_itself nat_list_cmp_total name)) ∙ none_dropped es (λ j less. after (suc j) (omega arith) (omega arith))
  drop_at (e ∷ es) (suc i) before after inside here =
      kept name e es (ap is_eq (below_flipped e.0 name (before 0 (omega arith))))
      ∙ ap (λ v. (e.0, cells_from e.1) ∷ v) (drop_at es i (λ j less. before (suc j) (omega arith)) (λ j low less. after (suc j) (omega arith) (omega arith)) (omega arith) here)

  pub remove_cells : (es : List Named) (i : ℕ) → IsRising es → i < length es → name_at es i ≡ name → without_file name (volume_of es) ≡ volume_of (remove es i)
  remove_cells es i up inside here = drop_at es i
      (λ j less. subst (λ n. IsBelow (name_at es j) n) here (up j i less inside))
      (λ j low less. subst (λ n. IsBelow n (name_at es j)) here (up i j low less)) inside here

  pub absent_dropped : (es : List Named) (i : ℕ) → BelongsAt es name i → without_file name (volume_of es) ≡ volume_of es
  absent_dropped es i gap = gap_dropped es i gap.before gap.from gap.in_range

-- ---- names that rise

below_rest : (name : List ℕ) (es : List Named) → ((j : ℕ) → j < length es → IsBelow name (name_at es j)) → T (below_all name_cmp name (volume_of es))
below_rest name [] above = tt
below_rest name (e ∷ es) above = both_true _ _ (subst (λ o. T (is_lt o)) (sym (above 0 (omega arith))) tt) (below_rest name es (λ j less. above (suc j) (omega arith)))

pub rising_sorted : (es : List Named) → IsRising es → T (is_sorted name_cmp (volume_of es))
rising_sorted [] up = tt
rising_sorted (e ∷ es) up = both_true _ _ (below_rest e.0 es (λ j less. up 0 (suc j) (omega arith) (omega arith))) (rising_sorted es (λ i j less inside. up (suc i) (suc j) (omega arith) (omega arith)))
