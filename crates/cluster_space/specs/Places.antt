-- The places of clusters, as lists of numbers.
use Rattle.std.specs.Prelude.{◌≡◌, ℕ, ◌<◌, List, length, slice_index, slice_set}

-- the numbers below n, in order
pub record IsAscending (n : ℕ) (xs : List ℕ) : Type 0 where
  pub whole : length xs ≡ n
  pub each : (k : ℕ) → k < n → slice_index xs k ≡ k

-- each list undoes the other
pub record IsInverse (order place : List ℕ) : Type 0 where
  pub whole : length order ≡ length place
  pub cluster_within : (p : ℕ) → p < length order → slice_index order p < length place
  pub place_of_cluster : (p : ℕ) → p < length order → slice_index place (slice_index order p) ≡ p
  pub place_within : (c : ℕ) → c < length place → slice_index place c < length order
  pub cluster_of_place : (c : ℕ) → c < length place → slice_index order (slice_index place c) ≡ c

-- with the values at a and b exchanged
abbrev pub exchanged : List ℕ → ℕ → ℕ → List ℕ
exchanged xs a b = slice_set (slice_set xs a (slice_index xs b)) b (slice_index xs a)

-- c is the one cluster at place p
pub record IsAt (places : List ℕ) (c p : ℕ) : Type 0 where
  pub within : c < length places
  pub there : slice_index places c ≡ p
  pub only : (k : ℕ) → k < length places → slice_index places k ≡ p → k ≡ c

-- a cluster goes to place p, and the cluster there goes to its place
pub record IsMove (before after : List ℕ) (c p : ℕ) : Type 0 where
  pub place_within : p < length before
  pub own : IsAt before c (slice_index before c)
  pub other : ℕ
  pub other_at : IsAt before other p
  pub exchange : after ≡ exchanged before c other
