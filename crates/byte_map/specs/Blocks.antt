-- A map in blocks: lists of pairs, one after the other. A place is a block, by its number, and an index in it.
use Rattle.std.specs.Prelude.{◌≡◌, ℕ, zero, suc, ◌+◌, ◌<◌, ◌≤◌, Bool, true, false, T, List, [], ◌∷◌, ◌++◌, length, take, drop, insert, slice_set, slice_index_or, None}
use Rattle.std.specs.Ordering.{is_lt}
use Rattle.std.specs.FinMap.Entries.{find, is_sorted}
use Rattle.byte_map.specs.declared.limits.TheConstants.{BLOCK_PAIRS}
use Rattle.byte_map.specs.Words.{Map, bytes_cmp, bytes_in}

-- all pairs
abbrev pub joined : List Map → Map
joined [] = []
joined (x ∷ xs) = x ++ joined xs

abbrev pub block_of : List Map → ℕ → Map
block_of blocks b = slice_index_or blocks b []

-- the pairs before a place
abbrev pub before : List Map → ℕ → ℕ → Map
before [] b i = []
before (x ∷ xs) zero i = take i x
before (x ∷ xs) (suc b) i = x ++ before xs b i

-- the pairs from a place on
abbrev pub rest : List Map → ℕ → ℕ → Map
rest [] b i = []
rest (x ∷ xs) zero i = drop i x ++ joined xs
rest (x ∷ xs) (suc b) i = rest xs b i

-- no block is empty
abbrev pub AllFilled : List Map → Type 0
AllFilled [] = Unit {0}
AllFilled (x ∷ xs) = (0 < length x) × AllFilled xs

-- the place of a pair, or the end
pub record IsPlace (blocks : List Map) (b i : ℕ) : Type 0 where
  pub within : b ≤ length blocks
  pub inside : b < length blocks → i < length (block_of blocks b)
  pub end : b ≡ length blocks → i ≡ 0

abbrev pub key_below : List ℕ → List ℕ × List ℕ → Bool
key_below k e = is_lt (bytes_cmp e.0 k)

-- each key is below k
abbrev pub AllBelow : List ℕ → Map → Type 0
AllBelow k [] = Unit {0}
AllBelow k (e ∷ m) = (is_lt (bytes_cmp e.0 k) ≡ true) × AllBelow k m

-- no key is below k
abbrev pub NoneBelow : List ℕ → Map → Type 0
NoneBelow k [] = Unit {0}
NoneBelow k (e ∷ m) = (is_lt (bytes_cmp e.0 k) ≡ false) × NoneBelow k m

-- whether the last key is below k; it is where there is none
abbrev pub ends_below : List ℕ → Map → Bool
ends_below k [] = true
ends_below k (e ∷ []) = is_lt (bytes_cmp e.0 k)
ends_below k (e ∷ f ∷ m) = ends_below k (f ∷ m)

-- a place with all lesser keys before it, and the others from it on
pub record IsBoundFor (blocks : List Map) (k : List ℕ) (b i : ℕ) : Type 0 where
  pub place : IsPlace blocks b i
  pub lesser : AllBelow k (before blocks b i)
  pub others : NoneBelow k (rest blocks b i)

-- the blocks of a map, with its count of pairs and of bytes
pub record IsLaidOut (blocks : List Map) (pairs size : ℕ) : Type 0 where
  pub sorted : T (is_sorted bytes_cmp (joined blocks))
  pub filled : AllFilled blocks
  pub counted : pairs ≡ length (joined blocks)
  pub summed : size ≡ bytes_in (joined blocks)

-- a place where a pair can go
pub record HasRoom (blocks : List Map) (b i : ℕ) : Type 0 where
  pub block : b < length blocks
  pub index : i ≤ length (block_of blocks b)
  pub room : length (block_of blocks b) < BLOCK_PAIRS

-- the pairs before a place, and those from it on, are those of another place in other blocks
pub record SameParts (old : List Map) (b i : ℕ) (new : List Map) (c j : ℕ) : Type 0 where
  pub front : before new c j ≡ before old b i
  pub back : rest new c j ≡ rest old b i

-- a block cut at an index, into itself and one behind it
abbrev pub in_halves : List Map → ℕ → ℕ → List Map
in_halves blocks b h = insert (slice_set blocks b (take h (block_of blocks b))) (suc b) (drop h (block_of blocks b))

abbrev pub pair_of : List Map → ℕ → ℕ → List ℕ × List ℕ
pair_of blocks b i = slice_index_or (block_of blocks b) i ([], [])

-- the value of the pair at a place
abbrev pub value_at : List Map → ℕ → ℕ → List ℕ
value_at blocks b i = let e = pair_of blocks b i in e.1

-- all pairs, with another value of the pair at a place
abbrev pub with_value : List Map → ℕ → ℕ → List ℕ → Map
with_value blocks b i v = let e = pair_of blocks b i in before blocks b i ++ (e.0, v) ∷ rest blocks b (suc i)

-- the place of a key
pub record IsHeld (blocks : List Map) (k : List ℕ) (b i : ℕ) : Type 0 where
  pub block : b < length blocks
  pub index : i < length (block_of blocks b)
  pub key : (let e = pair_of blocks b i in e.0 ≡ k)
  pub lesser : AllBelow k (before blocks b i)

-- the place where a key would go
pub record IsGap (blocks : List Map) (k : List ℕ) (b i : ℕ) : Type 0 where
  pub place : IsPlace blocks b i
  pub lesser : AllBelow k (before blocks b i)
  pub others : NoneBelow k (rest blocks b i)
  pub absent : find bytes_cmp k (joined blocks) ≡ None

-- a block without the pairs from an index up to another
abbrev pub without_part : List Map → ℕ → ℕ → ℕ → List Map
without_part blocks b i j = slice_set blocks b (take i (block_of blocks b) ++ drop j (block_of blocks b))

-- so many pairs of old, with so many bytes, are not in new
pub record IsDropped (old new : Map) (pairs size : ℕ) : Type 0 where
  pub count : length new + pairs ≡ length old
  pub bytes : bytes_in new + size ≡ bytes_in old

-- a walk that is at a place
pub record IsWalk (blocks : List Map) (b i : ℕ) : Type 0 where
  pub place : IsPlace blocks b i
  pub filled : AllFilled blocks
