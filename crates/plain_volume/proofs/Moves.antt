-- A file that is put under another name, and then dropped under the old one.
use Rattle.std.proofs.Common.{◌≡◌, ℕ, Bool, true, false, not, cond, T, List, Some, None, refl, sym, ap, subst, ◌∙◌}
use Rattle.std.specs.declared.cmp.Ordering.{Ordering}
use Rattle.std.specs.declared.cmp.Ordering.TheVariants.{Less, Equal, Greater}
use Rattle.std.specs.Ordering.{is_eq, eq_by_cmp}
use Rattle.std.specs.Cmp.Lexicographic.{nat_list_cmp_total}
use Rattle.std.specs.FinMap.Entries.{is_sorted, find-put, find-where_key, is_sorted-put, is_sorted-where_key, same_entries}
use Rattle.std.proofs.lemmas.Map.Lookups.{exact_bytes}
use Rattle.plain_volume.specs.Volume.{Cell, Volume, name_cmp, cells_of, with_file, without_file}

-- the test of a name that is kept
abbrev keeps : List ℕ → List ℕ → Bool
keeps from other = not (eq_by_cmp name_cmp from other)

is_Equal : (a b : List ℕ) → eq_by_cmp name_cmp a b ≡ true → a ≡ b
is_Equal a b is = by (name_cmp a b) refl is
  where
    by : (r : Ordering) → name_cmp a b ≡ r → is_eq r ≡ true → a ≡ b
    by Less e is = absurd (cc)
    by Equal e is = exact_bytes a b e
    by Greater e is = absurd (cc)

find_without : (q from : List ℕ) (v : Volume) → cells_of q (without_file from v) ≡ cond (keeps from q) (cells_of q v) None
find_without q from v = find-where_key name_cmp (keeps from) q (λ x same. ap (keeps from) (sym (exact_bytes q x same))) v

apart : (from to : List ℕ) (cells : List Cell) (v : Volume) → cells_of from v ≡ Some cells → cells_of to v ≡ None → eq_by_cmp name_cmp from to ≡ false
apart from to cells v there absent = by (eq_by_cmp name_cmp from to) (is_Equal from to)
  where
    by : (b : Bool) → (b ≡ true → from ≡ to) → b ≡ false
    by false same = refl
    by true same = let none : cells_of from v ≡ None = subst (λ n. cells_of n v ≡ None) (sym (same refl)) absent in absurd (cc)

pub moved : (from to : List ℕ) (cells : List Cell) (v : Volume) → T (is_sorted name_cmp v) → cells_of from v ≡ Some cells → cells_of to v ≡ None →
    without_file from (with_file to cells v) ≡ with_file to cells (without_file from v)
moved from to cells v sorted there absent =
    same_entries name_cmp nat_list_cmp_total exact_bytes (without_file from (with_file to cells v)) (with_file to cells (without_file from v))
    (is_sorted-where_key name_cmp (keeps from) (with_file to cells v) (is_sorted-put name_cmp nat_list_cmp_total to cells v sorted))
    (is_sorted-put name_cmp nat_list_cmp_total to cells (without_file from v) (is_sorted-where_key name_cmp (keeps from) v sorted))
    (λ q. find_without q from (with_file to cells v) ∙ ap (λ x. cond (keeps from q) x None) (find-put name_cmp nat_list_cmp_total q to cells v)
    ∙ swap q (eq_by_cmp name_cmp q to) (is_Equal q to)
    ∙ sym (find-put name_cmp nat_list_cmp_total q to cells (without_file from v) ∙ ap (cond (eq_by_cmp name_cmp q to) (Some cells)) (find_without q from v)))
  where
    swap : (q : List ℕ) (b : Bool) → (b ≡ true → q ≡ to) →
        cond (keeps from q) (cond b (Some cells) (cells_of q v)) None ≡ cond b (Some cells) (cond (keeps from q) (cells_of q v) None)
    swap q false same = refl
    swap q true same =
        let kept : keeps from q ≡ true = ap (keeps from) (same refl) ∙ ap not (apart from to cells v there absent) in
        ap (λ b. cond b (Some cells) None) kept
