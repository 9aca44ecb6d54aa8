-- The bytes of keys.
use Rattle.std.specs.Prelude.{◌≡◌, ◌≤◌, ◌+◌, ℕ, List, [], ◌∷◌, length, Option, Some, None, refl}
use Rattle.std.specs.Prelude.{IfSome}
use Rattle.std.specs.Option.{option_map}
use Rattle.std.proofs.Common.{Bor, ap, arith}
use Rattle.table_records.specs.Keys.{nothing_in, kind_in, all_in}
use Rattle.table_records.specs.KeySizes.{number_size, pair_size}
use Rattle.table_records.specs.Orders.{behind_means, some_same}
use Rattle.table_records.specs.Codecs.{Codec}
use Rattle.table_records.specs.Changes.{EndsRange}
use Rattle.table_records.specs.Tables.{name_codec, file_codec, extent_codec, volume_codec, settings_codec, result_codec}
use Rattle.table_records.specs.Tables.{row_codec, place_codec, container_codec, cluster_codec}
use Rattle.table_records.specs.declared.jobs.JobKind.{JobKind}

pub file_key : (b : List ℕ) (k : ℕ) → file_codec.read_key b ≡ Some k → length b ≡ 9
file_key b k is = number_size 3 8 b k is

pub row_key : (b : List ℕ) (k : ℕ) → row_codec.read_key b ≡ Some k → length b ≡ 9
row_key b k is = number_size 5 8 b k is

pub container_key : (b : List ℕ) (k : ℕ) → container_codec.read_key b ≡ Some k → length b ≡ 9
container_key b k is = number_size 7 8 b k is

pub name_key : (b k : List ℕ) → name_codec.read_key b ≡ Some k → length b ≡ length k + 1
name_key b k is =
    let from = behind_means 2 all_in b k is in
    let same : from.0 ≡ k = some_same from.0 k from.2 in
    let rest = ap (λ (l : List ℕ). length l) same in
    let whole : length b ≡ length (2 ∷ from.0) = ap (λ (l : List ℕ). length l) from.1 in
    omega (arith, rest, whole)

pub extent_key : (b : List ℕ) (k : ℕ × ℕ) → extent_codec.read_key b ≡ Some k → length b ≡ 13
extent_key b k is = pair_size 4 8 4 b k is

pub place_key : (b : List ℕ) (k : ℕ × ℕ) → place_codec.read_key b ≡ Some k → length b ≡ 10
place_key b k is = pair_size 6 8 1 b k is

pub cluster_key : (b : List ℕ) (k : ℕ × ℕ) → cluster_codec.read_key b ≡ Some k → length b ≡ 13
cluster_key b k is = pair_size 8 8 4 b k is

pub result_key : (b : List ℕ) (k : JobKind) → result_codec.read_key b ≡ Some k → length b ≡ 2
result_key b k is =
    let from = behind_means 10 kind_in b k is in
    let rest = one from.0 from.2 in
    let whole : length b ≡ length (10 ∷ from.0) = ap (λ (l : List ℕ). length l) from.1 in
    omega (arith, rest, whole)
  where
    one : (b : List ℕ) → kind_in b ≡ Some k → length b ≡ 1
    one [] is = absurd (cc)
    one (x ∷ []) is = refl
    one (x ∷ y ∷ b) is = absurd (cc)

pub volume_key : (b : List ℕ) → volume_codec.read_key b ≡ Some tt → length b ≡ 1
volume_key b is =
    let from = behind_means 1 nothing_in b tt is in
    let rest = none from.0 from.2 in
    let whole : length b ≡ length (1 ∷ from.0) = ap (λ (l : List ℕ). length l) from.1 in
    omega (arith, rest, whole)
  where
    none : (b : List ℕ) → nothing_in b ≡ Some tt → length b ≡ 0
    none [] is = refl
    none (x ∷ b) is = absurd (cc)

pub settings_key : (b : List ℕ) → settings_codec.read_key b ≡ Some tt → length b ≡ 1
settings_key b is =
    let from = behind_means 9 nothing_in b tt is in
    let rest = none from.0 from.2 in
    let whole : length b ≡ length (9 ∷ from.0) = ap (λ (l : List ℕ). length l) from.1 in
    omega (arith, rest, whole)
  where
    none : (b : List ℕ) → nothing_in b ≡ Some tt → length b ≡ 0
    none [] is = refl
    none (x ∷ b) is = absurd (cc)

-- the end of a range of keys of one length
pub end_size : {K V : Type 0} (c : Codec K V) (n : ℕ) → ((b : List ℕ) (k : K) → c.read_key b ≡ Some k → length b ≡ n)
    → 1 ≤ n
    → (to : Option K) (w : List ℕ) → EndsRange c to w → length w ≤ n
end_size c n keys some None w ends = let one = ap (λ (l : List ℕ). length l) ends in omega (arith, one, some)
end_size c n keys some (Some to) w ends = let key = keys w to ends in omega (arith, key)

-- the end of a range of names of at most 255 bytes
pub name_end : (to : Option (Bor (List ℕ))) (w : List ℕ) → IfSome to (λ name. length name.now ≤ 255)
    → EndsRange name_codec (option_map (λ name. name.now) to) w → length w ≤ 256
name_end None w short ends = let one = ap (λ (l : List ℕ). length l) ends in omega (arith, one)
name_end (Some name) w short ends = let key = name_key w name.now ends in omega (arith, key, short)
