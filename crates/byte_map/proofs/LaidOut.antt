-- A map stays in order, with its counts right, through each change.
use Rattle.std.specs.Prelude.{◌≡◌, ℕ, ◌+◌, ◌-◌, T, List, [], ◌∷◌, ◌++◌, length, refl}
use Rattle.std.proofs.Common.{sym, ◌∙◌, ap, subst, arith}
use Rattle.std.specs.FinMap.Entries.{is_sorted}
use Rattle.byte_map.specs.Words.{Map, bytes_cmp, bytes_in, without}
use Rattle.byte_map.specs.Laws.{is_sorted_put, is_sorted_without, length_put_new, length_put_present, bytes_in_put_new, bytes_in_put_present}
use Rattle.byte_map.specs.Blocks.{joined, before, rest, AllFilled, IsHeld, IsGap, IsDropped, IsLaidOut, IsWalk, value_at, with_value}
use Rattle.byte_map.proofs.Found.{put_held, put_gap, find_held}

pub walk_start : (blocks : List Map) → AllFilled blocks → IsWalk blocks 0 0
walk_start [] filled = record { place = record { within = omega arith; inside = λ less. less; end = λ _. refl }; filled = filled }
walk_start (x ∷ xs) filled = record {
  place = record { within = omega arith; inside = λ _. filled.0; end = λ is. absurd (omega (arith, is)) };
  filled = filled;
}

module _ (blocks new : List Map) (pairs size : ℕ) (laid : IsLaidOut blocks pairs size) (filled : AllFilled new) where
  pub laid_dropped : (from to : List ℕ) (m n : ℕ) → joined new ≡ without from to (joined blocks) → IsDropped (joined blocks) (joined new) m n → IsLaidOut new (pairs - m) (size - n)
  laid_dropped from to m n is dropped = record {
    sorted = subst (λ (s : Map). T (is_sorted bytes_cmp s)) (sym is) (is_sorted_without from to (joined blocks) laid.sorted);
    filled = filled;
    counted = omega (arith, laid.counted, dropped.count);
    summed = omega (arith, laid.summed, dropped.bytes);
  }

  module _ (k v : List ℕ) (b i : ℕ) where
    pub laid_new : IsGap blocks k b i → joined new ≡ before blocks b i ++ ((k, v) ∷ rest blocks b i) → IsLaidOut new (pairs + 1) (size + length k + length v)
    laid_new gap is =
        let put_is = is ∙ sym (put_gap blocks k b i gap v) in
        let long = ap (λ (s : Map). length s) put_is ∙ length_put_new k v (joined blocks) laid.sorted gap.absent in
        let bytes = ap (λ (s : Map). bytes_in s) put_is ∙ bytes_in_put_new k v (joined blocks) gap.absent in
        record {
          sorted = subst (λ (s : Map). T (is_sorted bytes_cmp s)) (sym put_is) (is_sorted_put k v (joined blocks) laid.sorted);
          filled = filled;
          counted = omega (arith, laid.counted, long);
          summed = omega (arith, laid.summed, bytes);
        }

    pub laid_changed : (sum : ℕ) → IsHeld blocks k b i → joined new ≡ with_value blocks b i v → sum + length (value_at blocks b i) ≡ size + length v → IsLaidOut new pairs sum
    laid_changed sum held is total =
        let put_is = is ∙ sym (put_held blocks k b i held v) in
        let there = find_held blocks k b i held in
        let long = ap (λ (s : Map). length s) put_is ∙ length_put_present k v (value_at blocks b i) (joined blocks) laid.sorted there in
        let bytes = bytes_in_put_present k v (value_at blocks b i) (joined blocks) laid.sorted there in
        let same = ap (λ (s : Map). bytes_in s) put_is in
        record {
          sorted = subst (λ (s : Map). T (is_sorted bytes_cmp s)) (sym put_is) (is_sorted_put k v (joined blocks) laid.sorted);
          filled = filled;
          counted = omega (arith, laid.counted, long);
          summed = omega (arith, laid.summed, bytes, same, total);
        }
