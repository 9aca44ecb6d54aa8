-- Bytes that are put in the place of a part of others.
use Rattle.std.specs.Prelude.{◌≡◌, ◌≤◌, ◌<◌, ◌+◌, ◌-◌, ℕ, List, ◌++◌, length, take, drop, get_or}
use Rattle.std.proofs.Common.{◌∙◌, ap, arith, length-drop, length-append}
use Rattle.std.proofs.lemmas.List.{get_or-take, get_or-drop, get_or_append_left, get_or-append_right, length-take-le}
use borrow.Rule.Slice.PartMut.{post_of, put_mid}

module _ (at n : ℕ) (out piece : List ℕ) (long : length piece ≡ n) (fits : at + n ≤ length out) where
  front_long : length (take at out) ≡ at
  front_long = length-take-le at out (omega (arith, fits))

  pub placed_before : (k : ℕ) → k < at → get_or (put_mid at n out piece) k 0 ≡ get_or out k 0
  placed_before k low =
      get_or_append_left (take at out) (piece ++ post_of at n out) 0 k (omega (arith, low, front_long))
      ∙ get_or-take at out k 0 low

  pub placed_in : (k : ℕ) → k < n → get_or (put_mid at n out piece) (at + k) 0 ≡ get_or piece k 0
  placed_in k low =
      let here : at + k - at ≡ k = omega arith in
      get_or-append_right (take at out) (piece ++ post_of at n out) at (at + k) 0 front_long (omega arith)
      ∙ ap (λ (j : ℕ). get_or (piece ++ post_of at n out) j 0) here
      ∙ get_or_append_left piece (post_of at n out) 0 k (omega (arith, low, long))

  pub placed_behind : (k : ℕ) → at + n ≤ k → get_or (put_mid at n out piece) k 0 ≡ get_or out k 0
  placed_behind k behind =
      let here : at + (n + (k - at - n)) ≡ k = omega (arith, behind) in
      get_or-append_right (take at out) (piece ++ post_of at n out) at k 0 front_long (omega (arith, behind))
      ∙ get_or-append_right piece (post_of at n out) n (k - at) 0 long (omega (arith, behind))
      ∙ get_or-drop n (drop at out) (k - at - n) 0
      ∙ get_or-drop at out (n + (k - at - n)) 0
      ∙ ap (λ (j : ℕ). get_or out j 0) here

  pub placed_length : length (put_mid at n out piece) ≡ length out
  placed_length = omega (
    arith,
    length-append (take at out)
        (piece ++ post_of at n out),
    length-append piece (post_of at n out),
    front_long,
    long,
    length-drop n (drop at out),
    length-drop at out,
    fits,
  )
