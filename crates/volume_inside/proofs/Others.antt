-- What a change of one table leaves of all the others.
use Rattle.std.specs.Prelude.{◌≡◌, ◌≢◌, ℕ, Bool, true, false, nat_eq, List, [], ◌∷◌, Option, Some, None, if◌then◌else◌, refl}
use Rattle.std.proofs.Common.{sym, ◌∙◌, ap}
use Rattle.byte_map.specs.Words.{Map}
use Rattle.table_records.specs.Codecs.{Codec, typed, with_key}
use Rattle.table_records.specs.Changes.{IsPut, IsDropped, put_there, dropped_there}
use Rattle.table_records.proofs.Belongs.{apart}
use Rattle.volume_inside.specs.Typed.{Typed, tables_by}

-- the entries of a table, unless it is that of the number n
abbrev pub unless : {X : Type 0} → ℕ → ℕ → List X → List X
unless n number es = if nat_eq n number then [] else es

-- the tables of a map, but for that of a number
abbrev pub others_of : ℕ → Map → Typed
others_of n m = tables_by (λ K V c. unless n c.number (typed c m))

-- a map that has the same tables of all numbers but one
module _ (n : ℕ) (new old : Map) (same : (K V : Type 0) (c : Codec K V) → n ≢ c.number → typed c new ≡ typed c old) where
  table_same : {K V : Type 0} (c : Codec K V) → unless n c.number (typed c new) ≡ unless n c.number (typed c old)
  table_same {K} {V} c = by (nat_eq n c.number) refl
    where
      by : (t : Bool) → nat_eq n c.number ≡ t → (if t then [] else typed c new) ≡ (if t then [] else typed c old)
      by true is = refl
      by false is = same K V c (apart n c.number is)

  pub others_same : others_of n new ≡ others_of n old
  others_same = λ i. tables_by (λ K V c. table_same c i)

module _ {K V : Type 0} (c : Codec K V) where
  -- an entry is put
  pub put_others : (k : K) (v : V) (old new : Map) → IsPut c k v old new → others_of c.number new ≡ others_of c.number old
  put_others k v old new p = others_same c.number new old (λ L W d differ. put_there c d differ k v old new p)

  -- a range is dropped
  pub dropped_others : (from : K) (to : Option K) (old new : Map) → IsDropped c from to old new
      → others_of c.number new ≡ others_of c.number old
  dropped_others from to old new p = others_same c.number new old (λ L W d differ. dropped_there c d differ from to old new p)

  -- a pair stands at the front
  pub front_others : (key value : List ℕ) (k : K) (m : Map) → c.read_key key ≡ Some k
      → others_of c.number ((key, value) ∷ m) ≡ others_of c.number m
  front_others key value k m is = others_same c.number ((key, value) ∷ m) m away
    where
      away : (L W : Type 0) (d : Codec L W) → c.number ≢ d.number → typed d ((key, value) ∷ m) ≡ typed d m
      away L W d differ = ap (λ (o : Option L). with_key d o value (typed d m)) (by (d.read_key key) refl)
        where
          by : (o : Option L) → d.read_key key ≡ o → o ≡ None
          by None e = refl
          by (Some l) e = absurd (differ (sym (c.numbered key k is) ∙ d.numbered key l e))
