-- The bytes that settings were read from are those that spell them.
use Rattle.std.specs.Prelude.{◌≡◌, ◌≤◌, ◌<◌, ◌+◌, ◌-◌, ℕ, zero, suc, Bool, true, false, List, [], ◌∷◌, ◌++◌, length, get_or, take, drop, Option, Some, None, nat_lt, if◌then◌else◌, refl}
use Rattle.std.proofs.Common.{sym, ◌∙◌, ap, subst, arith, ltb-false, length-take, length-drop}
use Rattle.std.proofs.lemmas.List.{append-nil, append_assoc, drop-drop, take-append-drop, get_or-drop, get_or-append-add}
use Rattle.byteorder.specs.Endian.{big_bytes, big_number}
use Rattle.byteorder.specs.Numbers.{big_from-take}
use Rattle.table_records.specs.declared.settings.Settings.{Settings}
use Rattle.table_records.specs.Orders.{some_same}
use Rattle.table_records.specs.Settings.{Read, flag_byte, flag_in, text_bytes, texts_bytes, counted_bytes, settings_bytes, with_text, first_size, is_cut, texts_in, counted_in, nothing_behind, last_in, with_types, types_behind, lists_in, settings_of, settings_in}
use Rattle.table_records.proofs.Spelled.{front_byte}
use Rattle.groundwork.proofs.Bytes.{spelled_again}
use Rattle.table_records.proofs.TextLists.{uncut}

abbrev pub AreBytes : List ℕ → Type 0
AreBytes b = (i : ℕ) → get_or b i 0 < 256

bytes_behind : (n : ℕ) (b : List ℕ) → AreBytes b → AreBytes (drop n b)
bytes_behind n b bytes i = subst (λ (y : ℕ). y < 256) (sym (get_or-drop n b i 0)) (bytes (n + i))

-- the number at the front and the bytes behind it are the bytes
front_again : (n : ℕ) (b : List ℕ) → n ≤ length b → AreBytes b → big_bytes n (big_number n b) ++ drop n b ≡ b
front_again n b long bytes =
    let size : length (take n b) ≡ n = omega (arith, long, length-take n b) in
    let same : big_number n (take n b) ≡ big_number n b = big_from-take 0 n n b (omega arith) in
    let front : big_bytes n (big_number n b) ≡ take n b =
    ap (λ (x : ℕ). big_bytes n x) (sym same) ∙ spelled_again n (take n b) size (λ i. front_byte n b i (bytes i)) in
    ap (λ (l : List ℕ). l ++ drop n b) front ∙ take-append-drop n b

text_again : (room : ℕ) (b : List ℕ) → AreBytes b → is_cut room b ≡ false
    → text_bytes (take (big_number 2 b) (drop 2 b)) ++ drop (first_size b) b ≡ b
text_again room b bytes is =
    let fits = uncut room b is in
    let text : List ℕ = take (big_number 2 b) (drop 2 b) in
    let size : length (take (big_number 2 b) (drop 2 b)) ≡ big_number 2 b =
    omega (arith, fits.0, length-take (big_number 2 b) (drop 2 b), length-drop 2 b) in
    let step : first_size b ≡ 2 + big_number 2 b = omega arith in
    let tail : drop (first_size b) b ≡ drop (big_number 2 b) (drop 2 b) = ap (λ (n : ℕ). drop n b) step ∙ sym (drop-drop (big_number 2 b) 2 b) in
    (λ i. (big_bytes 2 (size i) ++ take (big_number 2 b) (drop 2 b)) ++ tail i)
    ∙ append_assoc (big_bytes 2 (big_number 2 b)) (take (big_number 2 b) (drop 2 b)) (drop (big_number 2 b) (drop 2 b))
    ∙ ap (λ (l : List ℕ). big_bytes 2 (big_number 2 b) ++ l) (take-append-drop (big_number 2 b) (drop 2 b))
    ∙ front_again 2 b (omega (arith, fits.0)) bytes

-- what texts_again says of texts
abbrev FurtherTexts : ℕ → ℕ → List ℕ → Type 0
FurtherTexts n room b = (us : List (List ℕ)) (behind : List ℕ) → texts_in n room b ≡ Some (us, behind) → (length us ≡ n) × (texts_bytes us ++ behind ≡ b)

texts_again : (n room : ℕ) (b : List ℕ) (ts : List (List ℕ)) (rest : List ℕ) → AreBytes b → texts_in n room b ≡ Some (ts, rest)
    → (length ts ≡ n) × (texts_bytes ts ++ rest ≡ b)
texts_again zero room b ts rest bytes is =
    let same : ([], b) ≡ (ts, rest) = some_same ([], b) (ts, rest) is in
    subst (λ (p : List (List ℕ) × List ℕ). (length p.0 ≡ 0) × (texts_bytes p.0 ++ p.1 ≡ b)) same (refl, refl)
texts_again (suc n) room b ts rest bytes is =
    by (λ us behind read. texts_again n (room - first_size b) (drop (first_size b) b) us behind (bytes_behind (first_size b) b bytes) read) (is_cut room b) refl is
  where
    more : FurtherTexts n (room - first_size b) (drop (first_size b) b) → (r : Read (List (List ℕ))) → texts_in n (room - first_size b) (drop (first_size b) b) ≡ r → is_cut room b ≡ false
        → with_text (take (big_number 2 b) (drop 2 b)) r ≡ Some (ts, rest) → (length ts ≡ suc n) × (texts_bytes ts ++ rest ≡ b)
    more further None read uncut e = absurd (cc)
    more further (Some (us, behind)) read uncut e =
        let rest_again = further us behind read in
        let same : (take (big_number 2 b) (drop 2 b) ∷ us, behind) ≡ (ts, rest) = some_same (take (big_number 2 b) (drop 2 b) ∷ us, behind) (ts, rest) e in
        let whole : texts_bytes (take (big_number 2 b) (drop 2 b) ∷ us) ++ behind ≡ b =
        append_assoc (text_bytes (take (big_number 2 b) (drop 2 b))) (texts_bytes us) behind
        ∙ ap (λ (l : List ℕ). text_bytes (take (big_number 2 b) (drop 2 b)) ++ l) rest_again.1
        ∙ text_again room b bytes uncut in
        subst (λ (p : List (List ℕ) × List ℕ). (length p.0 ≡ suc n) × (texts_bytes p.0 ++ p.1 ≡ b)) same (ap (λ (k : ℕ). suc k) rest_again.0, whole)

    by : FurtherTexts n (room - first_size b) (drop (first_size b) b) → (t : Bool) → is_cut room b ≡ t
        → (if t then None else with_text (take (big_number 2 b) (drop 2 b)) (texts_in n (room - first_size b) (drop (first_size b) b))) ≡ Some (ts, rest)
        → (length ts ≡ suc n) × (texts_bytes ts ++ rest ≡ b)
    by further true e f = absurd (cc)
    by further false e f = more further (texts_in n (room - first_size b) (drop (first_size b) b)) refl e f

counted_again : (b : List ℕ) (ts : List (List ℕ)) (rest : List ℕ) → AreBytes b → counted_in b ≡ Some (ts, rest) → counted_bytes ts ++ rest ≡ b
counted_again b ts rest bytes is = by (nat_lt (length b) 2) refl is
  where
    by : (t : Bool) → nat_lt (length b) 2 ≡ t → (if t then None else texts_in (big_number 2 b) 8192 (drop 2 b)) ≡ Some (ts, rest) → counted_bytes ts ++ rest ≡ b
    by true e f = absurd (cc)
    by false e f =
        let read = texts_again (big_number 2 b) 8192 (drop 2 b) ts rest (bytes_behind 2 b bytes) f in
        append_assoc (big_bytes 2 (length ts)) (texts_bytes ts) rest
        ∙ (λ i. big_bytes 2 (read.0 i) ++ read.1 i)
        ∙ front_again 2 b (ltb-false (length b) 2 e) bytes

last_again : (b : List ℕ) (ts : List (List ℕ)) → AreBytes b → last_in b ≡ Some ts → counted_bytes ts ≡ b
last_again b ts bytes is = by (counted_in b) refl is
  where
    by : (r : Read (List (List ℕ))) → counted_in b ≡ r → nothing_behind r ≡ Some ts → counted_bytes ts ≡ b
    by None e f = absurd (cc)
    by (Some (us, [])) e f =
        ap (λ (l : List (List ℕ)). counted_bytes l) (sym (some_same us ts f)) ∙ sym (append-nil (counted_bytes us)) ∙ counted_again b us [] bytes e
    by (Some (us, x ∷ rest)) e f = absurd (cc)

lists_again : (b : List ℕ) (folders types : List (List ℕ)) → AreBytes b → lists_in b ≡ Some (folders, types) → counted_bytes folders ++ counted_bytes types ≡ b
lists_again b folders types bytes is = by (counted_in b) refl is
  where
    then_types : (us : List (List ℕ)) (rest : List ℕ) → counted_in b ≡ Some (us, rest) → (o : Option (List (List ℕ))) → last_in rest ≡ o
        → with_types us o ≡ Some (folders, types) → counted_bytes folders ++ counted_bytes types ≡ b
    then_types us rest e None f g = absurd (cc)
    then_types us rest e (Some vs) f g =
        let same : (us, vs) ≡ (folders, types) = some_same (us, vs) (folders, types) g in
        let whole : counted_bytes us ++ rest ≡ b = counted_again b us rest bytes e in
        let tail : AreBytes rest = λ i. subst (λ (y : ℕ). y < 256) (rest_byte (counted_bytes us) rest i whole) (bytes (length (counted_bytes us) + i)) in
        let back : counted_bytes vs ≡ rest = last_again rest vs tail f in
        subst (λ (p : List (List ℕ) × List (List ℕ)). counted_bytes p.0 ++ counted_bytes p.1 ≡ b) same
        (ap (λ (l : List ℕ). counted_bytes us ++ l) back ∙ whole)
      where
        rest_byte : (front back : List ℕ) (i : ℕ) → front ++ back ≡ b → get_or b (length front + i) 0 ≡ get_or back i 0
        rest_byte front back i is = ap (λ (l : List ℕ). get_or l (length front + i) 0) (sym is) ∙ get_or-append-add front back i 0

    by : (r : Read (List (List ℕ))) → counted_in b ≡ r → types_behind r ≡ Some (folders, types) → counted_bytes folders ++ counted_bytes types ≡ b
    by None e f = absurd (cc)
    by (Some (us, rest)) e f = then_types us rest e (last_in rest) refl f

flag_again : (n : ℕ) (b : Bool) → flag_in n ≡ Some b → flag_byte b ≡ n
flag_again zero b is = ap flag_byte (sym (some_same false b is))
flag_again (suc zero) b is = ap flag_byte (sym (some_same true b is))
flag_again (suc (suc n)) b is = absurd (cc)

-- the fourteen bytes of the head, and what stands behind
head_again : (b : List ℕ) → 14 ≤ length b → AreBytes b
    → (get_or b 0 0 ∷ get_or b 1 0 ∷ (big_bytes 4 (big_number 4 (drop 2 b)) ++ (big_bytes 4 (big_number 4 (drop 6 b)) ++ big_bytes 4 (big_number 4 (drop 10 b))))) ++ drop 14 b ≡ b
head_again [] long bytes = absurd (omega (arith, long))
head_again (x ∷ []) long bytes = absurd (omega (arith, long))
head_again (x ∷ y ∷ b) long bytes =
    let tail : AreBytes b = λ i. bytes (suc (suc i)) in
    let one : List ℕ = big_bytes 4 (big_number 4 b) in
    let last : big_bytes 4 (big_number 4 (drop 8 b)) ++ drop 12 b ≡ drop 8 b =
    ap (λ (l : List ℕ). big_bytes 4 (big_number 4 (drop 8 b)) ++ l) (sym (drop-drop 4 8 b))
    ∙ front_again 4 (drop 8 b) (omega (arith, long, length-drop 8 b)) (bytes_behind 8 b tail) in
    let middle : big_bytes 4 (big_number 4 (drop 4 b)) ++ drop 8 b ≡ drop 4 b =
    ap (λ (l : List ℕ). big_bytes 4 (big_number 4 (drop 4 b)) ++ l) (sym (drop-drop 4 4 b))
    ∙ front_again 4 (drop 4 b) (omega (arith, long, length-drop 4 b)) (bytes_behind 4 b tail) in
    ap (λ (l : List ℕ). x ∷ y ∷ l)
    (append_assoc (big_bytes 4 (big_number 4 b)) (big_bytes 4 (big_number 4 (drop 4 b)) ++ big_bytes 4 (big_number 4 (drop 8 b))) (drop 12 b)
    ∙ ap (λ (l : List ℕ). big_bytes 4 (big_number 4 b) ++ l)
    (append_assoc (big_bytes 4 (big_number 4 (drop 4 b))) (big_bytes 4 (big_number 4 (drop 8 b))) (drop 12 b)
    ∙ ap (λ (l : List ℕ). big_bytes 4 (big_number 4 (drop 4 b)) ++ l) last ∙ middle)
    ∙ front_again 4 b (omega (arith, long)) tail)

pub settings_again : (s : Settings) (b : List ℕ) → ((i : ℕ) → get_or b i 0 < 256) → settings_in b ≡ Some s → settings_bytes s ≡ b
settings_again s b bytes is = by (nat_lt (length b) 14) refl is
  where
    parts : 14 ≤ length b → (o p : Option Bool) (q : Option (List (List ℕ) × List (List ℕ)))
        → flag_in (get_or b 0 0) ≡ o → flag_in (get_or b 1 0) ≡ p → lists_in (drop 14 b) ≡ q → settings_of b o p q ≡ Some s → settings_bytes s ≡ b
    parts long None p q e f g h = absurd (cc)
    parts long (Some enabled) None q e f g h = absurd (cc)
    parts long (Some enabled) (Some verify) None e f g h = absurd (cc)
    parts long (Some enabled) (Some verify) (Some (folders, types)) e f g h =
        let read : Settings = record {
          enabled = enabled;
          verify = verify;
          minimum_size = big_number 4 (drop 2 b);
          age_days = big_number 4 (drop 6 b);
          threshold = big_number 4 (drop 10 b);
          folders = folders;
          types = types;
        } in
        ap (λ (t : Settings). settings_bytes t) (sym (some_same read s h))
        ∙ (λ i. (flag_again (get_or b 0 0) enabled e i ∷ flag_again (get_or b 1 0) verify f i
        ∷ (big_bytes 4 (big_number 4 (drop 2 b)) ++ (big_bytes 4 (big_number 4 (drop 6 b)) ++ big_bytes 4 (big_number 4 (drop 10 b)))))
        ++ lists_again (drop 14 b) folders types (bytes_behind 14 b bytes) g i)
        ∙ head_again b long bytes

    by : (t : Bool) → nat_lt (length b) 14 ≡ t
        → (if t then None else settings_of b (flag_in (get_or b 0 0)) (flag_in (get_or b 1 0)) (lists_in (drop 14 b))) ≡ Some s → settings_bytes s ≡ b
    by true e f = absurd (cc)
    by false e f = parts (ltb-false (length b) 14 e) (flag_in (get_or b 0 0)) (flag_in (get_or b 1 0)) (lists_in (drop 14 b)) refl refl refl f
