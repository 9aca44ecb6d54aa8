-- Maps whose keys and values have lengths of two bytes, as records spell them.
use Rattle.std.specs.Prelude.{◌≡◌, ℕ, ◌<◌, ◌^◌, nat_lt, Bool, true, false, cond, not, ◌&&◌, List, [], ◌∷◌, length, refl}
use Rattle.std.proofs.lemmas.Bool.{and_parts, and_from, lt-ltb, ltb-true}
use Rattle.std.specs.declared.cmp.Ordering.TheVariants.{Less, Equal, Greater}
use Rattle.std.specs.FinMap.Entries.{by_order, put}
use Rattle.byte_map.specs.Words.{Map, bytes_cmp, is_between, without}

abbrev pub is_short : List ℕ → Bool
is_short text = nat_lt (length text) (2 ^ 16)

abbrev pub are_short : Map → Bool
are_short [] = true
are_short (e ∷ m) = is_short e.0 && (is_short e.1 && are_short m)

-- the first pair, and the others
pub short_parts : (e : List ℕ × List ℕ) (m : Map) → are_short (e ∷ m) ≡ true → (length e.0 < 2 ^ 16) × (length e.1 < 2 ^ 16) × (are_short m ≡ true)
short_parts e m short =
    let first = and_parts (is_short e.0) (is_short e.1 && are_short m) short in
    let second = and_parts (is_short e.1) (are_short m) first.1 in
    (ltb-true _ _ first.0, ltb-true _ _ second.0, second.1)

pub short_from : (e : List ℕ × List ℕ) (m : Map) → length e.0 < 2 ^ 16 → length e.1 < 2 ^ 16 → are_short m ≡ true → are_short (e ∷ m) ≡ true
short_from e m key value short = and_from (is_short e.0) (is_short e.1 && are_short m) (lt-ltb _ _ key) (and_from (is_short e.1) (are_short m) (lt-ltb _ _ value) short)

pub short_put : (k v : List ℕ) (m : Map) → length k < 2 ^ 16 → length v < 2 ^ 16 → are_short m ≡ true → are_short (put bytes_cmp k v m) ≡ true
short_put k v [] key value short = short_from (k, v) [] key value refl
short_put k v (e ∷ m) key value short =
    let parts = short_parts e m short in
    elim (bytes_cmp k e.0) as (λ r. are_short (by_order r ((k, v) ∷ e ∷ m) ((e.0, v) ∷ m) (e ∷ put bytes_cmp k v m)) ≡ true) [
      | Less ↦ short_from (k, v) (e ∷ m) key value short
      | Equal ↦ short_from (e.0, v) m parts.0 value parts.2
      | Greater ↦ short_from e (put bytes_cmp k v m) parts.0 parts.1 (short_put k v m key value parts.2)
    ]

pub short_without : (from to : List ℕ) (m : Map) → are_short m ≡ true → are_short (without from to m) ≡ true
short_without from to [] short = refl
short_without from to (e ∷ m) short =
    let parts = short_parts e m short in
    let rest = short_without from to m parts.2 in
    elim (not (is_between bytes_cmp from to e.0)) as (λ b. are_short (cond b (e ∷ without from to m) (without from to m)) ≡ true) [
      | true ↦ short_from e (without from to m) parts.0 parts.1 rest
      | false ↦ rest
    ]
