-- The bytes of a value that spells settings.
use Rattle.std.specs.Prelude.{◌≡◌, ◌≤◌, ◌+◌, ◌-◌, ℕ, zero, suc, Bool, true, false, List, [], ◌∷◌, length, take, drop}
use Rattle.std.specs.Prelude.{get_or, Option, Some, None, nat_lt, if◌then◌else◌, is_some, refl}
use Rattle.std.proofs.Common.{subst, arith, ltb-false, length-take, length-drop}
use Rattle.std.specs.Option.{unwrap_or}
use Rattle.byteorder.specs.Endian.{big_number}
use Rattle.table_records.specs.declared.settings.Settings.{Settings}
use Rattle.table_records.specs.Orders.{some_same}
use Rattle.table_records.specs.Texts.{list_bytes}
use Rattle.table_records.specs.Settings.{Read, flag_in, with_text, first_size, is_cut, texts_in, counted_in}
use Rattle.table_records.specs.Settings.{nothing_behind, last_in, with_types, types_behind, lists_in, settings_of}
use Rattle.table_records.specs.Settings.{settings_in, settings_or_empty, is_settings, empty_settings}
use Rattle.table_records.proofs.TextLists.{uncut}
use Rattle.volume_tables.specs.Sizes.{settings_size}

-- what texts_size says of texts
abbrev FurtherTexts : ℕ → ℕ → List ℕ → Type 0
FurtherTexts n room b = (us : List (List ℕ)) (behind : List ℕ) → texts_in n room b ≡ Some (us, behind)
    → list_bytes us + length behind ≡ length b

texts_size : (n room : ℕ) (b : List ℕ) (ts : List (List ℕ)) (rest : List ℕ) → texts_in n room b ≡ Some (ts, rest)
    → list_bytes ts + length rest ≡ length b
texts_size zero room b ts rest is =
    let same : ([], b) ≡ (ts, rest) = some_same ([], b) (ts, rest) is in
    subst (λ (p : List (List ℕ) × List ℕ). list_bytes p.0 + length p.1 ≡ length b) same (omega arith)
texts_size (suc n) room b ts rest is =
    by (λ us behind read. texts_size n (room - first_size b) (drop (first_size b) b) us behind read)
    (is_cut room b) refl is
  where
    more : FurtherTexts n (room - first_size b) (drop (first_size b) b) → (r : Read (List (List ℕ)))
        → texts_in n (room - first_size b) (drop (first_size b) b) ≡ r → is_cut room b ≡ false
        → with_text (take (big_number 2 b) (drop 2 b)) r ≡ Some (ts, rest) → list_bytes ts + length rest ≡ length b
    more further None read whole e = absurd (cc)
    more further (Some (us, behind)) read whole e =
        let behind_size = further us behind read in
        let fits = uncut room b whole in
        let same : (take (big_number 2 b) (drop 2 b) ∷ us, behind) ≡ (ts, rest) = some_same
        (take (big_number 2 b) (drop 2 b) ∷ us, behind) (ts, rest) e in
        subst (λ (p : List (List ℕ) × List ℕ). list_bytes p.0 + length p.1 ≡ length b) same
        (omega (
          arith,
          behind_size,
          fits.0,
          length-take (big_number 2 b) (drop 2 b),
          length-drop 2 b,
          length-drop
              (first_size b) b,
        ))

    by : FurtherTexts n (room - first_size b) (drop (first_size b) b) → (t : Bool) → is_cut room b ≡ t
        → (if t then None else with_text (take (big_number 2 b) (drop 2 b))
        (texts_in n (room - first_size b) (drop (first_size b) b))) ≡ Some (ts, rest)
        → list_bytes ts + length rest ≡ length b
    by further true e f = absurd (cc)
    by further false e f = more further (texts_in n (room - first_size b) (drop (first_size b) b)) refl e f

counted_size : (b : List ℕ) (ts : List (List ℕ)) (rest : List ℕ) → counted_in b ≡ Some (ts, rest)
    → 2 + (list_bytes ts + length rest) ≡ length b
counted_size b ts rest is = by (nat_lt (length b) 2) refl is
  where
    by : (t : Bool) → nat_lt (length b) 2 ≡ t → (if t then None else texts_in (big_number 2 b) 8192 (drop 2 b)) ≡ Some
        (ts, rest) → 2 + (list_bytes ts + length rest) ≡ length b
    by true e f = absurd (cc)
    by false e f =
        let read = texts_size (big_number 2 b) 8192 (drop 2 b) ts rest f in
        let long = ltb-false (length b) 2 e in
        omega (arith, read, length-drop 2 b, long)

last_size : (b : List ℕ) (ts : List (List ℕ)) → last_in b ≡ Some ts → 2 + list_bytes ts ≡ length b
last_size b ts is = by (counted_in b) refl is
  where
    by : (r : Read (List (List ℕ))) → counted_in b ≡ r → nothing_behind r ≡ Some ts → 2 + list_bytes ts ≡ length b
    by None e f = absurd (cc)
    by (Some (us, [])) e f =
        let size = counted_size b us [] e in
        subst (λ (l : List (List ℕ)). 2 + list_bytes l ≡ length b) (some_same us ts f) (omega (arith, size))
    by (Some (us, x ∷ rest)) e f = absurd (cc)

lists_size : (b : List ℕ) (folders types : List (List ℕ)) → lists_in b ≡ Some (folders, types)
    → 4 + (list_bytes folders + list_bytes types) ≡ length b
lists_size b folders types is = by (counted_in b) refl is
  where
    then_types : (us : List (List ℕ)) (rest : List ℕ) → counted_in b ≡ Some (us, rest) → (o : Option (List (List ℕ)))
        → last_in rest ≡ o
        → with_types us o ≡ Some (folders, types) → 4 + (list_bytes folders + list_bytes types) ≡ length b
    then_types us rest e None f g = absurd (cc)
    then_types us rest e (Some vs) f g =
        let same : (us, vs) ≡ (folders, types) = some_same (us, vs) (folders, types) g in
        let front = counted_size b us rest e in
        let back = last_size rest vs f in
        subst (λ (p : List (List ℕ) × List (List ℕ)). 4 + (list_bytes p.0 + list_bytes p.1) ≡ length b) same
        (omega (arith, front, back))

    by : (r : Read (List (List ℕ))) → counted_in b ≡ r → types_behind r ≡ Some (folders, types)
        → 4 + (list_bytes folders + list_bytes types) ≡ length b
    by None e f = absurd (cc)
    by (Some (us, rest)) e f = then_types us rest e (last_in rest) refl f

settings_sized : (b : List ℕ) (s : Settings) → settings_in b ≡ Some s → length b ≡ settings_size s
settings_sized b s is = by (nat_lt (length b) 14) refl is
  where
    parts : 14 ≤ length b → (o p : Option Bool) (q : Option (List (List ℕ) × List (List ℕ))) → lists_in (drop 14 b) ≡ q
        → settings_of b o p q ≡ Some s → length b ≡ settings_size s
    parts long None p q g h = absurd (cc)
    parts long (Some enabled) None q g h = absurd (cc)
    parts long (Some enabled) (Some verify) None g h = absurd (cc)
    parts long (Some enabled) (Some verify) (Some (folders, types)) g h =
        let read : Settings = record {
          enabled = enabled;
          verify = verify;
          minimum_size = big_number 4 (drop 2 b);
          age_days = big_number 4 (drop 6 b);
          threshold = big_number 4 (drop 10 b);
          folders = folders;
          types = types;
        } in
        let lists = lists_size (drop 14 b) folders types g in
        let size : length b ≡ 18 + (list_bytes folders + list_bytes types) = omega
        (arith, lists, length-drop 14 b, long) in
        subst (λ (t : Settings). length b ≡ settings_size t) (some_same read s h) size

    by : (t : Bool) → nat_lt (length b) 14 ≡ t
        → (if t then None else settings_of b (flag_in (get_or b 0 0)) (flag_in (get_or b 1 0)) (lists_in (drop 14 b))) ≡
        Some s → length b ≡ settings_size s
    by true e f = absurd (cc)
    by false e f = parts (ltb-false (length b) 14 e) (flag_in (get_or b 0 0)) (flag_in (get_or b 1 0))
        (lists_in (drop 14 b)) refl f

pub value_size : (value : List ℕ) (s : Settings) → is_settings value ≡ true → settings_or_empty value ≡ s
    → length value ≡ settings_size s
value_size value s whole means = by (settings_in value) refl whole means
  where
    by : (o : Option Settings) → settings_in value ≡ o → is_some o ≡ true → unwrap_or o empty_settings ≡ s
        → length value ≡ settings_size s
    by None e p q = absurd (cc)
    by (Some r) e p q = subst (λ (t : Settings). length value ≡ settings_size t) q (settings_sized value r e)
