-- Settings and their bytes.
use Rattle.std.specs.Prelude.{◌≡◌, ◌≤◌, ◌<◌, ◌^◌, ◌+◌, ◌-◌, ◌||◌, ℕ, suc, Bool, true, false, List, [], ◌∷◌, ◌++◌, length, take, drop, Some, None, nat_lt, if◌then◌else◌, refl}
use Rattle.std.proofs.Common.{sym, ◌∙◌, ap, arith, le-ltb, length-append}
use Rattle.std.proofs.lemmas.List.{append-nil, append_assoc, drop-drop, take_at, drop_at}
use Rattle.byteorder.specs.Endian.{big_bytes, big_number}
use Rattle.byteorder.specs.Numbers.{big_number-reads_back, length-bytes_high_first}
use Rattle.table_records.specs.declared.settings.Settings.{Settings}
use Rattle.table_records.specs.Texts.{list_bytes}
use Rattle.table_records.specs.Settings.{Read, flag_byte, flag_in, text_bytes, texts_bytes, counted_bytes, settings_bytes, with_text, first_size, is_cut, texts_in, counted_in, nothing_behind, with_types, types_behind, lists_in, settings_of, settings_in, AreSpellable}
use Rattle.table_records.proofs.ListBytes.{count_bytes}

-- ---- from settings to bytes and back

uncut_text : (room : ℕ) (text rest : List ℕ) → length text < 256 ^ 2 → length text + 2 ≤ room
    → (big_number 2 (text_bytes text ++ rest) ≡ length text) × (is_cut room (text_bytes text ++ rest) ≡ false)
uncut_text room text rest small fits =
    let size : big_number 2 (text_bytes text ++ rest) ≡ length text =
    ap (λ (b : List ℕ). big_number 2 b) (append_assoc (big_bytes 2 (length text)) text rest) ∙ big_number-reads_back 2 (length text) (text ++ rest) small in
    let whole : length text + 2 ≤ length (text_bytes text ++ rest) =
    omega (arith, length-append (text_bytes text) rest, length-append (big_bytes 2 (length text)) text, length-bytes_high_first 2 (length text)) in
    let one : nat_lt (length (text_bytes text ++ rest)) (length text + 2) ≡ false = le-ltb (length (text_bytes text ++ rest)) (length text + 2) whole in
    let two : nat_lt room (length text + 2) ≡ false = le-ltb room (length text + 2) fits in
    (size, ap (λ (n : ℕ). nat_lt (length (text_bytes text ++ rest)) (n + 2) || nat_lt room (n + 2)) size ∙ (λ i. one i || two i))

text_first : (text rest : List ℕ) → take (length text) (drop 2 (text_bytes text ++ rest)) ≡ text
text_first text rest =
    let tail : drop 2 (text_bytes text ++ rest) ≡ text ++ rest =
    ap (λ (b : List ℕ). drop 2 b) (append_assoc (big_bytes 2 (length text)) text rest)
    ∙ drop_at (big_bytes 2 (length text)) (text ++ rest) 2 (length-bytes_high_first 2 (length text)) in
    ap (λ (b : List ℕ). take (length text) b) tail ∙ take_at text rest (length text) refl

text_behind : (text rest : List ℕ) → drop (length text + 2) (text_bytes text ++ rest) ≡ rest
text_behind text rest = drop_at (text_bytes text) rest (length text + 2)
    (let size : length (text_bytes text) ≡ length text + 2 = omega (arith, length-append (big_bytes 2 (length text)) text, length-bytes_high_first 2 (length text)) in size)

texts_back : (ts : List (List ℕ)) (room : ℕ) (rest : List ℕ) → list_bytes ts ≤ room → room ≤ 8192 → texts_in (length ts) room (texts_bytes ts ++ rest) ≡ Some (ts, rest)
texts_back [] room rest fits most = refl
texts_back (text ∷ ts) room rest fits most =
    let behind : List ℕ = texts_bytes ts ++ rest in
    let bytes : text_bytes text ++ texts_bytes ts ++ rest ≡ text_bytes text ++ (texts_bytes ts ++ rest) = append_assoc (text_bytes text) (texts_bytes ts) rest in
    let first = uncut_text room text (texts_bytes ts ++ rest) (omega (arith, fits, most)) (omega (arith, fits)) in
    let size : big_number 2 (text_bytes text ++ (texts_bytes ts ++ rest)) ≡ length text = first.0 in
    let cut : is_cut room (text_bytes text ++ (texts_bytes ts ++ rest)) ≡ false = first.1 in
    let more : texts_in (length ts) (room - (length text + 2)) (texts_bytes ts ++ rest) ≡ Some (ts, rest) =
    texts_back ts (room - (length text + 2)) rest (omega (arith, fits)) (omega (arith, most)) in
    ap (λ (b : List ℕ). texts_in (suc (length ts)) room b) bytes
    ∙ ap (λ (t : Bool). if t then None
    else with_text (take (big_number 2 (text_bytes text ++ (texts_bytes ts ++ rest))) (drop 2 (text_bytes text ++ (texts_bytes ts ++ rest))))
    (texts_in (length ts) (room - first_size (text_bytes text ++ (texts_bytes ts ++ rest))) (drop (first_size (text_bytes text ++ (texts_bytes ts ++ rest))) (text_bytes text ++ (texts_bytes ts ++ rest))))) cut
    ∙ ap (λ (n : ℕ). with_text (take n (drop 2 (text_bytes text ++ (texts_bytes ts ++ rest))))
    (texts_in (length ts) (room - (n + 2)) (drop (n + 2) (text_bytes text ++ (texts_bytes ts ++ rest))))) size
    ∙ (λ i. with_text (text_first text (texts_bytes ts ++ rest) i) (texts_in (length ts) (room - (length text + 2)) (text_behind text (texts_bytes ts ++ rest) i)))
    ∙ ap (λ (r : Read (List (List ℕ))). with_text text r) more

pub counted_back : (ts : List (List ℕ)) (rest : List ℕ) → list_bytes ts ≤ 8192 → counted_in (counted_bytes ts ++ rest) ≡ Some (ts, rest)
counted_back ts rest fits =
    let bytes : counted_bytes ts ++ rest ≡ big_bytes 2 (length ts) ++ (texts_bytes ts ++ rest) = append_assoc (big_bytes 2 (length ts)) (texts_bytes ts) rest in
    let few : length ts < 256 ^ 2 = omega (arith, count_bytes ts, fits) in
    let whole : 2 ≤ length (big_bytes 2 (length ts) ++ (texts_bytes ts ++ rest)) =
    omega (arith, length-append (big_bytes 2 (length ts)) (texts_bytes ts ++ rest), length-bytes_high_first 2 (length ts)) in
    let long : nat_lt (length (big_bytes 2 (length ts) ++ (texts_bytes ts ++ rest))) 2 ≡ false = le-ltb (length (big_bytes 2 (length ts) ++ (texts_bytes ts ++ rest))) 2 whole in
    ap (λ (b : List ℕ). counted_in b) bytes
    ∙ ap (λ (t : Bool). if t then None else texts_in (big_number 2 (big_bytes 2 (length ts) ++ (texts_bytes ts ++ rest))) 8192 (drop 2 (big_bytes 2 (length ts) ++ (texts_bytes ts ++ rest)))) long
    ∙ (λ i. texts_in (big_number-reads_back 2 (length ts) (texts_bytes ts ++ rest) few i) 8192
    (drop_at (big_bytes 2 (length ts)) (texts_bytes ts ++ rest) 2 (length-bytes_high_first 2 (length ts)) i))
    ∙ texts_back ts 8192 rest fits (omega arith)

lists_back : (folders types : List (List ℕ)) → list_bytes folders ≤ 8192 → list_bytes types ≤ 8192
    → lists_in (counted_bytes folders ++ counted_bytes types) ≡ Some (folders, types)
lists_back folders types one two =
    let last : counted_in (counted_bytes types) ≡ Some (types, []) =
    ap (λ (b : List ℕ). counted_in b) (sym (append-nil (counted_bytes types))) ∙ counted_back types [] two in
    ap (λ (r : Read (List (List ℕ))). types_behind r) (counted_back folders (counted_bytes types) one)
    ∙ ap (λ (r : Read (List (List ℕ))). with_types folders (nothing_behind r)) last

flag_back : (b : Bool) → flag_in (flag_byte b) ≡ Some b
flag_back false = refl
flag_back true = refl

pub settings_back : (s : Settings) → AreSpellable s → settings_in (settings_bytes s) ≡ Some s
settings_back s fits =
    let lists : List ℕ = counted_bytes s.folders ++ counted_bytes s.types in
    let x : List ℕ = big_bytes 4 s.minimum_size in
    let y : List ℕ = big_bytes 4 s.age_days in
    let z : List ℕ = big_bytes 4 s.threshold in
    by lists x y z refl refl refl (length-bytes_high_first 4 s.minimum_size) (length-bytes_high_first 4 s.age_days) (length-bytes_high_first 4 s.threshold)
    (lists_back s.folders s.types fits.folders fits.types)
  where
    by : (lists x y z : List ℕ) → x ≡ big_bytes 4 s.minimum_size → y ≡ big_bytes 4 s.age_days → z ≡ big_bytes 4 s.threshold
        → length x ≡ 4 → length y ≡ 4 → length z ≡ 4 → lists_in lists ≡ Some (s.folders, s.types)
        → settings_in ((flag_byte s.enabled ∷ flag_byte s.verify ∷ (x ++ (y ++ z))) ++ lists) ≡ Some s
    by lists x y z xs ys zs xn yn zn read =
        let b : List ℕ = (flag_byte s.enabled ∷ flag_byte s.verify ∷ (x ++ (y ++ z))) ++ lists in
        let flat : (x ++ (y ++ z)) ++ lists ≡ x ++ (y ++ (z ++ lists)) =
        append_assoc x (y ++ z) lists ∙ ap (λ (l : List ℕ). x ++ l) (append_assoc y z lists) in
        let size : length ((x ++ (y ++ z)) ++ lists) ≡ 12 + length lists =
        omega (arith, length-append (x ++ (y ++ z)) lists, length-append x (y ++ z), length-append y z, xn, yn, zn) in
        let long : nat_lt (length (flag_byte s.enabled ∷ flag_byte s.verify ∷ ((x ++ (y ++ z)) ++ lists))) 14 ≡ false =
        le-ltb (length (flag_byte s.enabled ∷ flag_byte s.verify ∷ ((x ++ (y ++ z)) ++ lists))) 14 (omega (arith, size)) in
        let two : drop 4 ((x ++ (y ++ z)) ++ lists) ≡ y ++ (z ++ lists) = ap (λ (l : List ℕ). drop 4 l) flat ∙ drop_at x (y ++ (z ++ lists)) 4 xn in
        let three : drop 8 ((x ++ (y ++ z)) ++ lists) ≡ z ++ lists =
        sym (drop-drop 4 4 ((x ++ (y ++ z)) ++ lists)) ∙ ap (λ (l : List ℕ). drop 4 l) two ∙ drop_at y (z ++ lists) 4 yn in
        let four : drop 12 ((x ++ (y ++ z)) ++ lists) ≡ lists =
        sym (drop-drop 4 8 ((x ++ (y ++ z)) ++ lists)) ∙ ap (λ (l : List ℕ). drop 4 l) three ∙ drop_at z lists 4 zn in
        let m : big_number 4 ((x ++ (y ++ z)) ++ lists) ≡ s.minimum_size =
        ap (λ (l : List ℕ). big_number 4 l) flat ∙ ap (λ (l : List ℕ). big_number 4 (l ++ (y ++ (z ++ lists)))) xs
        ∙ big_number-reads_back 4 s.minimum_size (y ++ (z ++ lists)) fits.minimum_size in
        let a : big_number 4 (drop 4 ((x ++ (y ++ z)) ++ lists)) ≡ s.age_days =
        ap (λ (l : List ℕ). big_number 4 l) two ∙ ap (λ (l : List ℕ). big_number 4 (l ++ (z ++ lists))) ys
        ∙ big_number-reads_back 4 s.age_days (z ++ lists) fits.age_days in
        let t : big_number 4 (drop 8 ((x ++ (y ++ z)) ++ lists)) ≡ s.threshold =
        ap (λ (l : List ℕ). big_number 4 l) three ∙ ap (λ (l : List ℕ). big_number 4 (l ++ lists)) zs
        ∙ big_number-reads_back 4 s.threshold lists fits.threshold in
        let all : lists_in (drop 12 ((x ++ (y ++ z)) ++ lists)) ≡ Some (s.folders, s.types) = ap (λ (l : List ℕ). lists_in l) four ∙ read in
        let whole : List ℕ = flag_byte s.enabled ∷ flag_byte s.verify ∷ ((x ++ (y ++ z)) ++ lists) in
        ap (λ (u : Bool). if u then None else settings_of (flag_byte s.enabled ∷ flag_byte s.verify ∷ ((x ++ (y ++ z)) ++ lists))
        (flag_in (flag_byte s.enabled)) (flag_in (flag_byte s.verify)) (lists_in (drop 12 ((x ++ (y ++ z)) ++ lists)))) long
        ∙ (λ i. settings_of (flag_byte s.enabled ∷ flag_byte s.verify ∷ ((x ++ (y ++ z)) ++ lists)) (flag_back s.enabled i) (flag_back s.verify i) (all i))
        ∙ (λ i. Some (record {
          enabled = s.enabled;
          verify = s.verify;
          minimum_size = m i;
          age_days = a i;
          threshold = t i;
          folders = s.folders;
          types = s.types;
        }))
