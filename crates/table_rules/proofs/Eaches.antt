-- A rule on each entry of a table is a rule on each pair of the map.
use Rattle.std.specs.Prelude.{◌≡◌, ◌↔◌, ℕ, Bool, List, [], ◌∷◌, Option, Some, None, IsTrue}
use Rattle.std.proofs.Common.{sym, subst, ◌∙◌}
use Rattle.byte_map.specs.Words.{Map}
use Rattle.table_records.specs.Codecs.{Codec, typed, with_key}
use Rattle.table_records.specs.WellFormed.{IsWellFormed, AllWellFormed}
use Rattle.volume_inside.specs.Entries.{Each}
use Rattle.table_rules.specs.Pairs.{HoldsOf, PairMeets}

module _ {K V : Type 0} (c : Codec K V) (P : K → V → Type 0) where
  pub each_of_pairs : (m : Map) → Each (PairMeets c P) m → Each P (typed c m)
  each_of_pairs [] all = tt
  each_of_pairs (e ∷ m) all =
      let rest = each_of_pairs m all.1 in
      elim (c.read_key e.0) as (λ o. HoldsOf c P o e.1 → Each P (with_key c o e.1 (typed c m))) [
        | None ↦ λ h. rest
        | Some k ↦ λ h. (h, rest)
      ] all.0

  pub pairs_of_each : (m : Map) → Each P (typed c m) → Each (PairMeets c P) m
  pairs_of_each [] each = tt
  pairs_of_each (e ∷ m) each =
      let both = elim (c.read_key e.0) as (λ o. Each P (with_key c o e.1 (typed c m)) → HoldsOf c P o e.1 × Each P (typed c m)) [
        | None ↦ λ h. (tt, h)
        | Some k ↦ λ h. h
      ] each in
      (both.0, pairs_of_each m both.1)

pub spelled_of_pairs : (m : Map) → Each IsWellFormed m → AllWellFormed m
spelled_of_pairs [] all = tt
spelled_of_pairs (e ∷ m) all = (all.0, spelled_of_pairs m all.1)

pub pairs_of_spelled : (m : Map) → AllWellFormed m → Each IsWellFormed m
pairs_of_spelled [] all = tt
pairs_of_spelled (e ∷ m) all = (all.0, pairs_of_spelled m all.1)

-- ---- a walk, of which so much is left

module _ (P : List ℕ → List ℕ → Type 0) (m left : Map) (k v : List ℕ) (rest : Map) where
  pub next_holds : (Each P left ↔ Each P m) → left ≡ (k, v) ∷ rest → P k v → (Each P rest ↔ Each P m)
  next_holds same is one =
      (λ r. same.0 (subst (λ (q : Map). Each P q) (sym is) (one, r)), λ all. (subst (λ (q : Map). Each P q) is (same.1 all)).1)

  pub next_fails : (Each P left ↔ Each P m) → left ≡ (k, v) ∷ rest → (P k v → ⊥) → Each P m → ⊥
  next_fails same is never all = never (subst (λ (q : Map). Each P q) is (same.1 all)).0

-- ---- one pair that is an entry

module _ {K V : Type 0} (c : Codec K V) (P : K → V → Type 0) where
  pub entry_meets : (key value : List ℕ) (read : Option K) (k : K) (v : V) (b : Bool) → read ≡ c.read_key key → read ≡ Some k
      → v ≡ c.read_value value → (IsTrue b ↔ P k v) → (IsTrue b ↔ PairMeets c P key value)
  entry_meets key value read k v b is there means same =
      let spells : Some k ≡ c.read_key key = sym there ∙ is in
      let at : V → Type 0 = λ x. IsTrue b ↔ P k x in
      subst (λ (o : Option K). IsTrue b ↔ HoldsOf c P o value) spells (subst at means same)
