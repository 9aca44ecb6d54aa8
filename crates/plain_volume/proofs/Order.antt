-- The order of names.
use Rattle.std.proofs.lemmas.Bool.{cases_lt}
use Rattle.std.proofs.Common.{◌≡◌, ◌<◌, ℕ, List, length, ⊎_elim, arith, ap, sym, subst, ◌∙◌}
use Rattle.std.specs.declared.cmp.Ordering.TheVariants.{Less, Greater}
use Rattle.std.specs.Ordering.{ordering_reverse}
use Rattle.std.specs.Cmp.Lexicographic.{nat_list_cmp_total}
use Rattle.plain_volume.specs.Volume.{name_cmp}
use Rattle.plain_volume.specs.Files.{Named, IsBelow, IsRising, BelongsAt, name_at}

pub above : (a b : List ℕ) → name_cmp a b ≡ Greater → IsBelow b a
above a b e = nat_list_cmp_total.antisymm b a ∙ ap ordering_reverse e

pub below_flipped : (a b : List ℕ) → IsBelow a b → name_cmp b a ≡ Greater
below_flipped a b e = nat_list_cmp_total.antisymm b a ∙ ap ordering_reverse e

pub below_then : (a b c : List ℕ) → IsBelow a b → IsBelow b c → IsBelow a c
below_then a b c one two = nat_list_cmp_total.trans a b c one two

-- no name is below itself
pub not_below_itself : (a : List ℕ) → IsBelow a a → ⊥
not_below_itself a e = let twice : Less ≡ Greater = sym e ∙ below_flipped a a e in cc

-- a name belongs at the first place whose name is above it
pub belongs_before : (es : List Named) (name : List ℕ) (i : ℕ) → IsRising es → ((j : ℕ) → j < i → IsBelow (name_at es j) name) → i < length es → name_cmp (name_at es i) name ≡ Greater → BelongsAt es name i
belongs_before es name i up before inside is = record {
  in_range = omega arith;
  before = before;
  from = λ j low within. ⊎_elim
      (λ less. below_then name (name_at es i) (name_at es j) (above (name_at es i) name is) (up i j less within))
      (λ ge. let same : i ≡ j = omega arith in subst (λ n. IsBelow name (name_at es n)) same (above (name_at es i) name is))
      (cases_lt i j);
}
