-- The least name above another one.
use Rattle.std.specs.Prelude.{◌≡◌, ◌≤◌, ◌<◌, ℕ, zero, suc, Bool, true, false, cond, List, [], ◌∷◌, length, take}
use Rattle.std.specs.Prelude.{Option, Some, None, refl}
use Rattle.std.proofs.Common.{Bor, inl, inr, sym, ap, ◌∙◌, arith}
use Rattle.std.proofs.lemmas.Bool.{cases_lt}
use Rattle.std.proofs.lemmas.List.{take_all}
use Rattle.vdisk.specs.declared.disk.Disk.{Ghosts}
use Rattle.std.specs.Option.{option_map}
use Rattle.std.specs.Ordering.{nat_cmp, is_lt, ordering_then}
use Rattle.std.specs.declared.cmp.Ordering.TheVariants.{Less, Equal, Greater}
use Rattle.std.specs.FinMap.Entries.{where_key}
use Rattle.byte_map.specs.Words.{bytes_cmp, first_of, next_in}
use Rattle.plain_volume.specs.Volume.{Volume, name_cmp, next_above, first_name}
use Rattle.plain_volume.specs.Step.{next_name}
use Rattle.plain_volume.specs.Replies.{IsOwnOrMemory}
use Rattle.plain_volume.specs.declared.call.Call.TheVariants.{Next}
use Rattle.plain_volume.specs.declared.call.Reply.TheVariants as reply
use Rattle.volume_inside.specs.Entries.{Each, each_weaker}
use Rattle.volume_inside.specs.Rules.{NameHolds}
use Rattle.volume_inside.specs.Inside.{Inside}
use Rattle.volume_inside.specs.View.{named_cells, view}
use Rattle.volume_tables.specs.Tables.{tables_now, inside_now, view_now, next_after}
use Rattle.volume_tables.specs.declared.tables.Tables.{Tables}
use Rattle.volume_tables.specs.Sound.{IsSound}
use Rattle.volume_files.proofs.Found.{lawful_short}

-- the name of an entry, if there is one
abbrev pub name_in : Option (List ℕ × ℕ) → Option (List ℕ)
name_in e = option_map (λ p. p.0) e

module _ (i : Inside) where
  first_named : (names : List (List ℕ × ℕ)) → first_name (named_cells i names) ≡ name_in (first_of names)
  first_named [] = refl
  first_named (e ∷ names) = refl

  next_named : (name : List ℕ) (names : List (List ℕ × ℕ))
      → next_above name (named_cells i names) ≡ name_in (next_in bytes_cmp name names)
  next_named name [] = refl
  next_named name (e ∷ names) =
      let rest = where_key bytes_cmp (λ x. is_lt (bytes_cmp name x)) names in
      elim (is_lt (name_cmp name e.0)) as (λ b. cond b (Some e.0) (next_above name (named_cells i names))
      ≡ name_in (first_of (cond b (e ∷ rest) rest))) [
        | true ↦ refl
        | false ↦ next_named name names
      ]

  pub next_is : (after : Option (List ℕ)) → next_name after (view i) ≡ name_in (next_after bytes_cmp after i.names)
  unfolding view
  next_is None = first_named i.names
  next_is (Some name) = next_named name i.names

-- a name of so many bytes or fewer is above a longer one where it is above its front
front_below : (n : ℕ) (name x : List ℕ) → n < length name → length x ≤ n
    → is_lt (bytes_cmp (take n name) x) ≡ is_lt (bytes_cmp name x)
front_below n [] x long short = absurd (omega (arith, long))
front_below zero (b ∷ name) [] long short = refl
front_below zero (b ∷ name) (y ∷ x) long short = absurd (omega (arith, short))
front_below (suc n) (b ∷ name) [] long short = refl
front_below (suc n) (b ∷ name) (y ∷ x) long short =
    let rest = front_below n name x (omega (arith, long)) (omega (arith, short)) in
    elim (nat_cmp b y) as
    (λ r. is_lt (ordering_then r (bytes_cmp (take n name) x)) ≡ is_lt (ordering_then r (bytes_cmp name x))) [
      | Less ↦ refl
      | Equal ↦ rest
      | Greater ↦ refl
    ]

next_front : (n : ℕ) (name : List ℕ) (names : List (List ℕ × ℕ)) → n < length name → Each (λ x id. length x ≤ n) names
    → next_in bytes_cmp (take n name) names ≡ next_in bytes_cmp name names
next_front n name [] long short = refl
next_front n name (e ∷ names) long short =
    by (is_lt (bytes_cmp (take n name) e.0)) (is_lt (bytes_cmp name e.0)) (front_below n name e.0 long short.0)
    (where_key bytes_cmp (λ x. is_lt (bytes_cmp (take n name) x)) names)
    (where_key bytes_cmp (λ x. is_lt (bytes_cmp name x)) names) (next_front n name names long short.1)
  where
    by : (b c : Bool) → b ≡ c → (xs ys : List (List ℕ × ℕ)) → first_of xs ≡ first_of ys
        → first_of (cond b (e ∷ xs) xs) ≡ first_of (cond c (e ∷ ys) ys)
    by true true same xs ys rest = refl
    by true false same xs ys rest = absurd (cc)
    by false true same xs ys rest = absurd (cc)
    by false false same xs ys rest = rest

pub next_shortened : (name : List ℕ) (names : List (List ℕ × ℕ)) → 255 < length name → Each (λ x id. length x ≤ 255)
    names
    → next_in bytes_cmp (take 255 name) names ≡ next_in bytes_cmp name names
next_shortened name names long short = next_front 255 name names long short

-- ---- the reply

pub front_of : (o : Option (Bor (List ℕ))) → option_map (λ name. take 255 name.now) o
    ≡ option_map (λ (name : List ℕ). take 255 name) (option_map (λ name. name.now) o)
front_of None = refl
front_of (Some name) = refl

module _ {D : Type 0} {d : Ghosts D} (t : Tables D d) (sound : IsSound t) where
  names_short : Each (λ name id. length name ≤ 255) (tables_now t).names
  names_short = each_weaker (NameHolds (tables_now t).files) (λ name id. length name ≤ 255) (tables_now t).names
      (λ name id holds. lawful_short name holds.lawful) (let names = sound.rules.names in names.names)

  -- the front of a name stands for it
  front_is : (after : Option (List ℕ)) → next_after bytes_cmp (option_map (λ name. take 255 name) after)
      (tables_now t).names
      ≡ next_after bytes_cmp after (tables_now t).names
  front_is None = refl
  front_is (Some name) = elim (cases_lt 255 (length name)) [
    | inl long ↦ next_shortened name (tables_now t).names long names_short
    | inr short ↦ ap (λ (x : List ℕ). next_in bytes_cmp x (tables_now t).names) (take_all 255 name short)
  ]

  pub name_told : (after shorter : Option (List ℕ)) (found : Option (List ℕ × ℕ))
      → shorter ≡ option_map (λ name. take 255 name) after → found ≡ next_after bytes_cmp shorter (tables_now t).names
      → next_name after (view_now t) ≡ name_in found
  name_told after shorter found is same =
      next_is (inside_now t) after
      ∙ ap name_in (sym (same ∙ ap (λ (o : Option (List ℕ)). next_after bytes_cmp o (tables_now t).names) is
      ∙ front_is after))

pub name_replied : (v : Volume) (after found : Option (List ℕ)) → next_name after v ≡ found
    → IsOwnOrMemory v (Next after) (reply.Name found) v
name_replied v after found is = record {
  own = inl (ap (λ (o : Option (List ℕ)). reply.Name o) (sym is));
  left = refl;
}
