-- Names counted pair by pair.
use Rattle.std.specs.Prelude.{◌≡◌, ◌≤◌, ◌+◌, ℕ, List, [], ◌∷◌, length, Option, Some, None}
use Rattle.std.proofs.Common.{◌∙◌, ap, sym, arith}
use Rattle.byte_map.specs.Words.{Map}
use Rattle.table_records.specs.Codecs.{Codec, typed, with_key}
use Rattle.volume_tables.specs.Counts.{one_if_key}

module _ {K V : Type 0} (c : Codec K V) where
  count_one : (o : Option K) (value : List ℕ) (es : List (K × V))
      → length (with_key c o value es) ≡ one_if_key o + length es
  count_one None value es = omega arith
  count_one (Some k) value es = omega arith

  -- one pair, and then the others
  pub count_next : (key value : List ℕ) (m : Map)
      → length (typed c ((key, value) ∷ m)) ≡ one_if_key (c.read_key key) + length (typed c m)
  count_next key value m = count_one (c.read_key key) value (typed c m)

  -- a table has no more entries than the map has pairs
  pub no_more_entries : (m : Map) → length (typed c m) ≤ length m
  no_more_entries [] = omega arith
  no_more_entries (e ∷ m) = let next = count_next e.0 e.1 m in let rest = no_more_entries m in omega
      (arith, next, rest, at_most (c.read_key e.0))
    where
      at_most : (o : Option K) → one_if_key o ≤ 1
      at_most None = omega arith
      at_most (Some k) = omega arith

  -- a pair that was counted
  pub counted : (walk : Map) (key value : List ℕ) (rest : Map) (n : ℕ) → walk ≡ (key, value) ∷ rest
      → n ≡ one_if_key (c.read_key key)
      → length (typed c walk) ≡ n + length (typed c rest)
  counted walk key value rest n is one =
      ap (λ (m : Map). length (typed c m)) is ∙ count_next key value rest
      ∙ ap (λ (k : ℕ). k + length (typed c rest)) (sym one)
