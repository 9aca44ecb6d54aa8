-- The bytes of the end of a range of keys.
use Rattle.std.specs.Prelude.{◌≡◌, ◌+◌, ℕ, List, length, Option, Some, None}
use Rattle.std.proofs.Common.{ap, arith}
use Rattle.table_records.specs.Changes.{EndsRange}
use Rattle.table_records.specs.Codecs.{Codec}
use Rattle.table_records.specs.Tables.{name_codec}
use Rattle.volume_tables.specs.Dropped.{end_bytes}
use Rattle.volume_tables.proofs.Sizes.{name_key}

-- of keys of one length
pub end_exact : {K V : Type 0} (c : Codec K V) (n : ℕ) → ((b : List ℕ) (k : K) → c.read_key b ≡ Some k → length b ≡ n)
    → (to : Option K) (w : List ℕ) → EndsRange c to w → length w ≡ end_bytes (λ k. n) to
end_exact c n keys None w ends = ap (λ (l : List ℕ). length l) ends
end_exact c n keys (Some to) w ends = keys w to ends

-- of names
pub name_end_exact : (to : Option (List ℕ)) (w : List ℕ) → EndsRange name_codec to w
    → length w ≡ end_bytes (λ name. 1 + length name) to
name_end_exact None w ends = ap (λ (l : List ℕ). length l) ends
name_end_exact (Some name) w ends = let key = name_key w name ends in omega (arith, key)
