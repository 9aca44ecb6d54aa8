-- The first lost cell of a range, and the bytes of cells that are not lost.
use Rattle.std.specs.Prelude.{◌≡◌, ◌≤◌, ◌<◌, ◌+◌, ℕ, suc, zero, Bool, true, false, List, [], ◌∷◌, map, length, take, drop, get_or, Some, None, if◌then◌else◌, refl}
use Rattle.std.proofs.Common.{sym, ◌∙◌, ap, inl, inr, arith, length-take, length-drop}
use Rattle.std.specs.List.{range_with_len}
use Rattle.std.proofs.lemmas.Bool.{cases_lt}
use Rattle.std.proofs.lemmas.List.{get_or-take, get_or-drop, ext_get_or}
use Rattle.std.proofs.lemmas.List.FromFn.{get_or-map-range_with_len, length-map-range_with_len}
use Rattle.plain_volume.specs.Volume.{Cell, Byte, Lost, lost_where, bytes_of}
use Rattle.rw_filter.proofs.OwnRead.{byte_of, get_or-bytes_of}

module _ (test : ℕ → Bool) (f : ℕ → Cell) where
  pub none_lost : (n s : ℕ) → ((p : ℕ) → s ≤ p → p < s + n → test p ≡ true → f p ≡ Lost → ⊥)
      → lost_where test s (map f (range_with_len s n)) ≡ None
  none_lost zero s safe = refl
  none_lost (suc n) s safe =
      let rest = none_lost n (s + 1) (λ p from to. safe p (omega (arith, from)) (omega (arith, to))) in
      by (f s) refl (test s) refl rest
    where
      by : (c : Cell) → f s ≡ c → (b : Bool) → test s ≡ b
          → lost_where test (s + 1) (map f (range_with_len (s + 1) n)) ≡ None
          → lost_where test s (c ∷ map f (range_with_len (s + 1) n)) ≡ None
      by (Byte x) is b of rest = rest
      by Lost is true of rest = absurd (safe s (omega arith) (omega arith) of is)
      by Lost is false of rest = λ i. if of i then Some s else rest i

  pub first_lost : (n s q : ℕ) → s ≤ q → q < s + n → test q ≡ true → f q ≡ Lost
      → ((p : ℕ) → s ≤ p → p < q → test p ≡ true → f p ≡ Lost → ⊥)
      → lost_where test s (map f (range_with_len s n)) ≡ Some q
  first_lost zero s q from to wanted lost before = absurd (omega (arith, from, to))
  first_lost (suc n) s q from to wanted lost before = elim (cases_lt s q) [
    | inl later ↦ by (f s) refl (test s) refl later
        (first_lost n (s + 1) q (omega (arith, later)) (omega (arith, to)) wanted lost
        (λ p low high. before p (omega (arith, low)) high))
    | inr first ↦ here (let same : s ≡ q = omega (arith, from, first) in same)
  ]
    where
      by : (c : Cell) → f s ≡ c → (b : Bool) → test s ≡ b → s < q
          → lost_where test (s + 1) (map f (range_with_len (s + 1) n)) ≡ Some q
          → lost_where test s (c ∷ map f (range_with_len (s + 1) n)) ≡ Some q
      by (Byte x) is b of later rest = rest
      by Lost is true of later rest = absurd (before s (omega arith) later of is)
      by Lost is false of later rest = (λ i. if of i then Some s else rest i)

      here : s ≡ q → lost_where test s (f s ∷ map f (range_with_len (s + 1) n)) ≡ Some q
      here same =
          (λ i. lost_where test s ((ap f same ∙ lost) i ∷ map f (range_with_len (s + 1) n)))
          ∙ (λ i. if (ap test same ∙ wanted) i then Some s else lost_where test (s + 1) (map f (range_with_len (s + 1) n)))
          ∙ ap Some same

length-bytes_of : (cs : List Cell) → length (bytes_of cs) ≡ length cs
length-bytes_of [] = refl
length-bytes_of (Byte b ∷ cs) = ap suc (length-bytes_of cs)
length-bytes_of (Lost ∷ cs) = ap suc (length-bytes_of cs)

-- bytes that were read one by one are those of the cells
module _ (f : ℕ → Cell) (len at n : ℕ) (fits : at + n ≤ len) where
  abbrev cells : List Cell
  cells = map f (range_with_len 0 len)

  abbrev part : List Cell
  part = take n (drop at cells)

  part_length : length (bytes_of part) ≡ n
  part_length =
      length-bytes_of part
      ∙ omega (arith, length-take n (drop at cells), length-drop at cells, length-map-range_with_len f 0 len, fits)

  pub all_bytes : (out : List ℕ) → length out ≡ n → ((k : ℕ) → k < n → f (at + k) ≡ Byte (get_or out k 0))
      → out ≡ bytes_of (take n (drop at (map f (range_with_len 0 len))))
  all_bytes out long read = ext_get_or 0 out (bytes_of part) (long ∙ sym part_length)
      (λ k low. let within : k < n = omega (arith, low, long) in
      sym (get_or-bytes_of part k ∙ ap byte_of (get_or-take n (drop at cells) k (Byte 0) within
      ∙ get_or-drop at cells k (Byte 0)
      ∙ get_or-map-range_with_len f 0 len (at + k) (at + k) (Byte 0) (omega (arith, within, fits)) (omega arith)
      ∙ read k within)))
