-- The records of a body, one after the other.
use Rattle.std.proofs.Common.{◌≡◌, ◌⊎◌, inl, inr, ℕ, zero, suc, Bool, true, false, ◌+◌, ◌^◌, ◌≤◌, ◌<◌, T, List, [], ◌∷◌, ◌++◌, length, drop, nat_eq, refl, sym, ◌∙◌, ap, subst, arith, append_assoc, length-drop, length-take}
use Rattle.std.specs.Prelude.{◌||◌, if◌then◌else◌, Some, None, Option, option_map}
use Rattle.std.specs.Ordering.{is_lt}
use Rattle.std.specs.declared.cmp.Ordering.{Ordering}
use Rattle.std.specs.declared.cmp.Ordering.TheVariants.{Less, Equal, Greater}
use Rattle.std.specs.FinMap.Entries.{put, is_sorted}
use Rattle.std.proofs.lemmas.List.{drop-drop, append-nil}
use Rattle.std.proofs.lemmas.Bool.{true≢false, eqb-true, eqb-false, or_parts}
use Rattle.groundwork.proofs.Bools.{true_from, false_from}
use Rattle.groundwork.proofs.Orders.{less_from}
use Rattle.vdisk.specs.Ranges.{part}
use Rattle.byte_map.specs.Words.{Map, bytes_cmp}
use Rattle.meta_log.specs.Records.{Record, Put, change, changes, record_at, with_record, records_from, records_of, rest_length, pairs_of, ascending}
use Rattle.meta_log.specs.Spelled.{Fits}
use Rattle.meta_log.specs.Meta.{and_then, checkpoint_map}
use Rattle.meta_log.specs.Reading.{IsSpellable, record_of, strings_bytes, pairs_in, IsTaken, IsHeadOf, IsPutHeadOf, records_bytes}
use Rattle.meta_log.specs.declared.head.Effect.{Effect}
use Rattle.meta_log.specs.declared.head.Effect.TheVariants.{Sets, Drops}
use Rattle.meta_log.specs.declared.head.RecordHead.{RecordHead}
use Rattle.meta_log.proofs.Order.{two_rise, put_at_end, put_bytes, change_bytes, change_spellable}

pub drop_end : (n : ℕ) (xs : List ℕ) → length xs ≤ n → drop n xs ≡ []
drop_end zero [] end = refl
drop_end (suc n) [] end = refl
drop_end zero (x ∷ xs) end = absurd (omega arith)
drop_end (suc n) (x ∷ xs) end = drop_end n xs (omega arith)

-- ---- one record

pub records_skip : (n : ℕ) (bytes : List ℕ) → records_from n bytes ≡ records_of (drop n bytes)
records_skip zero bytes = refl
records_skip (suc n) [] = refl
records_skip (suc n) (b ∷ bytes) = records_skip n bytes

pub records_step : (bytes : List ℕ) (r : Record) → record_at bytes ≡ Some r → 0 < length bytes
    → records_of bytes ≡ option_map (λ rs. r ∷ rs) (records_of (drop (suc (rest_length bytes)) bytes))
records_step [] r is some = absurd (omega arith)
records_step (b ∷ bytes) r is some =
    ap (λ (o : Option Record). with_record o (records_from (rest_length (b ∷ bytes)) bytes)) is
    ∙ ap (λ (o : Option (List Record)). option_map (λ rs. r ∷ rs) o) (records_skip (rest_length (b ∷ bytes)) bytes)

pub records_stop : (bytes : List ℕ) → record_at bytes ≡ None → 0 < length bytes → records_of bytes ≡ None
records_stop [] is some = absurd (omega arith)
records_stop (b ∷ bytes) is some = ap (λ (o : Option Record). with_record o (records_from (rest_length (b ∷ bytes)) bytes)) is

strings_is : (effect : Effect) (first second : List ℕ) → strings_bytes (record_of effect first second) ≡ length first + length second
strings_is Sets first second = refl
strings_is Drops first second = refl

fits_is : (effect : Effect) (first second : List ℕ) → length first < 2 ^ 16 → length second < 2 ^ 16 → Fits (record_of effect first second)
fits_is Sets first second one two = (one, two)
fits_is Drops first second one two = (one, two)

pub taken : (bytes : List ℕ) (old new : Map) (head : RecordHead) (first second : List ℕ) (n : ℕ) → IsHeadOf bytes head
    → first ≡ part 5 head.first bytes → second ≡ part (5 + head.first) head.second bytes
    → new ≡ change (record_of head.effect first second) old → n ≡ 5 + (head.first + head.second) → IsTaken bytes old new n
taken bytes old new head first second n is one two made count =
    let whole = length-take head.first (drop 5 bytes) in
    let rest = length-take head.second (drop (5 + head.first) bytes) in
    record {
      made = record_of head.effect (part 5 head.first bytes) (part (5 + head.first) head.second bytes);
      reads = is.reads;
      changed = made ∙ (λ i. change (record_of head.effect (one i) (two i)) old);
      count = omega (arith, count, is.first, is.second);
      within = omega (arith, count, is.whole);
      short = fits_is head.effect (part 5 head.first bytes) (part (5 + head.first) head.second bytes) (omega (arith, whole, is.low)) (omega (arith, rest, is.short));
      long = omega (arith, count, whole, rest, strings_is head.effect (part 5 head.first bytes) (part (5 + head.first) head.second bytes));
    }

first_pair : (k v : List ℕ) (o : Option (List Record)) → and_then (option_map (λ rs. Put k v ∷ rs) o) (λ made. pairs_of made) ≡ option_map (λ m. (k, v) ∷ m) (and_then o (λ made. pairs_of made))
first_pair k v None = refl
first_pair k v (Some rs) = refl

pub put_head : (bytes : List ℕ) (head : RecordHead) → 0 < length bytes → IsHeadOf bytes head → head.effect ≡ Sets → IsPutHeadOf bytes head
put_head bytes head some is sets =
    let k = part 5 head.first bytes in
    let v = part (5 + head.first) head.second bytes in
    let count : suc (rest_length bytes) ≡ 5 + (head.first + head.second) = omega (arith, is.first, is.second) in
    let reads : record_at bytes ≡ Some (Put k v) = is.reads ∙ ap (λ (e : Effect). Some (record_of e k v)) sets in
    record {
      whole = is.whole;
      first = is.low;
      second = is.short;
      rest = ap (λ (o : Option (List Record)). and_then o (λ made. pairs_of made)) (records_step bytes (Put k v) reads some)
          ∙ first_pair k v (records_of (drop (suc (rest_length bytes)) bytes))
          ∙ ap (λ (n : ℕ). option_map (λ m. (k, v) ∷ m) (pairs_in (drop n bytes))) count;
    }

-- ---- a map changed by all of them

abbrev pub changed_by : List ℕ → Map → Option Map
changed_by bytes m = option_map (λ made. changes made m) (records_of bytes)

changed_first : (r : Record) (o : Option (List Record)) (m : Map) → option_map (λ made. changes made m) (option_map (λ rs. r ∷ rs) o) ≡ option_map (λ made. changes made (change r m)) o
changed_first r None m = refl
changed_first r (Some rs) m = refl

-- where records were read up to a place of a body
pub record IsChangedTo (body : List ℕ) (old : Map) (place : ℕ) (now : Map) : Type 0 where
  pub rest : changed_by body old ≡ changed_by (drop place body) now
  pub spellable : IsSpellable old → IsSpellable now
  pub fits : IsSpellable old → records_bytes now ≤ records_bytes old + place
  pub within : place ≤ length body

pub changed_start : (body : List ℕ) (old : Map) → IsChangedTo body old 0 old
changed_start body old = record { rest = refl; spellable = λ s. s; fits = λ s. omega arith; within = omega arith }

pub changed_next : (body : List ℕ) (old : Map) (place : ℕ) (now next : Map) (n : ℕ) → place < length body
    → IsChangedTo body old place now → IsTaken (drop place body) now next n → IsChangedTo body old (place + n) next
changed_next body old place now next n more so taken =
    let bytes = drop place body in
    let long = length-drop place body in
    let some : 0 < length bytes = omega (arith, more, long) in
    let behind : drop (suc (rest_length bytes)) bytes ≡ drop (place + n) body =
    ap (λ (k : ℕ). drop k bytes) (sym taken.count) ∙ drop-drop n place body in
    let made : changed_by bytes now ≡ changed_by (drop (place + n) body) next =
    ap (λ (o : Option (List Record)). option_map (λ rs. changes rs now) o) (records_step bytes taken.made taken.reads some)
    ∙ changed_first taken.made (records_of (drop (suc (rest_length bytes)) bytes)) now
    ∙ ap (λ (q : List ℕ). changed_by q (change taken.made now)) behind
    ∙ ap (λ (m : Map). changed_by (drop (place + n) body) m) (sym taken.changed) in
    record {
      rest = so.rest ∙ made;
      spellable = λ s. subst (λ (m : Map). IsSpellable m) (sym taken.changed) (change_spellable taken.made now taken.short (so.spellable s));
      fits = λ s. subst (λ (m : Map). records_bytes m ≤ records_bytes old + (place + n)) (sym taken.changed)
          (omega (arith, so.fits s, change_bytes taken.made now (let is = so.spellable s in is.sorted), taken.long));
      within = omega (arith, taken.within, long, more);
    }

none_changed : (o : Option (List Record)) (m : Map) → option_map (λ made. changes made m) o ≡ None → o ≡ None
none_changed None m is = refl
none_changed (Some rs) m is = absurd (cc)

pub changed_stop : (body : List ℕ) (old : Map) (place : ℕ) (now : Map) → place < length body
    → IsChangedTo body old place now → record_at (drop place body) ≡ None → records_of body ≡ None
changed_stop body old place now more so none =
    none_changed (records_of body) old
    (so.rest ∙ ap (λ (o : Option (List Record)). option_map (λ made. changes made now) o) (records_stop (drop place body) none (omega (arith, more, length-drop place body))))

pub changed_whole : (body : List ℕ) (old : Map) (place : ℕ) (now : Map) → length body ≤ place → IsChangedTo body old place now → Some now ≡ changed_by body old
changed_whole body old place now end so = sym (so.rest ∙ ap (λ (q : List ℕ). changed_by q now) (drop_end place body end))

-- ---- the pairs of a checkpoint

pub record EndsAt (place : ℕ) (last : List ℕ) (m : Map) : Type 0 where
  pub front : Map
  pub value : List ℕ
  pub is : m ≡ front ++ (last, value) ∷ []
  pub later : 0 < place

-- where pairs were read up to a place of a body, of which the last has this key
pub record IsPairsTo (body : List ℕ) (place : ℕ) (last : List ℕ) (m : Map) : Type 0 where
  pub rest : pairs_in body ≡ option_map (λ q. m ++ q) (pairs_in (drop place body))
  pub spellable : IsSpellable m
  pub fits : records_bytes m ≤ place
  pub within : place ≤ length body
  pub ends : ((place ≡ 0) × (m ≡ [])) ⊎ EndsAt place last m

nothing_before : (o : Option Map) → o ≡ option_map (λ q. [] ++ q) o
nothing_before None = refl
nothing_before (Some q) = refl

pub pairs_start : (body last : List ℕ) → IsPairsTo body 0 last []
pairs_start body last = record { rest = nothing_before (pairs_in body); spellable = record { sorted = tt; short = refl }; fits = omega arith; within = omega arith; ends = inl (refl, refl) }

checkpoint_is : (body : List ℕ) → checkpoint_map body ≡ and_then (pairs_in body) (λ m. ascending m)
checkpoint_is body = elim (records_of body) as (λ o. and_then o (λ rs. and_then (pairs_of rs) (λ m. ascending m)) ≡ and_then (and_then o (λ made. pairs_of made)) (λ m. ascending m)) [
  | None ↦ refl
  | Some rs ↦ refl
]

one_more : (m : Map) (e : List ℕ × List ℕ) (o : Option Map) → option_map (λ q. m ++ q) (option_map (λ q. e ∷ q) o) ≡ option_map (λ q. (m ++ e ∷ []) ++ q) o
one_more m e None = refl
one_more m e (Some q) = ap (λ (x : Map). Some x) (sym (append_assoc m (e ∷ []) q))

module _ (body : List ℕ) (place : ℕ) (last : List ℕ) (m : Map) (head : RecordHead) (so : IsPairsTo body place last m) (is : IsPutHeadOf (drop place body) head) where
  abbrev key : List ℕ
  key = part 5 head.first (drop place body)

  abbrev value : List ℕ
  value = part (5 + head.first) head.second (drop place body)

  abbrev after : ℕ
  after = place + (5 + (head.first + head.second))

  behind : drop (5 + (head.first + head.second)) (drop place body) ≡ drop after body
  behind = drop-drop (5 + (head.first + head.second)) place body

  rest_is : pairs_in body ≡ option_map (λ q. (m ++ (key, value) ∷ []) ++ q) (pairs_in (drop after body))
  rest_is =
      so.rest ∙ ap (λ (o : Option Map). option_map (λ q. m ++ q) o) is.rest
      ∙ one_more m (key, value) (pairs_in (drop (5 + (head.first + head.second)) (drop place body)))
      ∙ ap (λ (q : List ℕ). option_map (λ x. (m ++ (key, value) ∷ []) ++ x) (pairs_in q)) behind

  at_end : (0 < place → bytes_cmp last key ≡ Less) → put bytes_cmp key value m ≡ m ++ (key, value) ∷ []
  at_end above = elim so.ends [
    | inl start ↦ subst (λ (q : Map). put bytes_cmp key value q ≡ q ++ (key, value) ∷ []) (sym start.1) refl
    | inr ends ↦
        (let sorted : T (is_sorted bytes_cmp (ends.front ++ (last, ends.value) ∷ [])) = subst (λ (q : Map). T (is_sorted bytes_cmp q)) ends.is so.spellable.sorted in
        subst (λ (q : Map). put bytes_cmp key value q ≡ q ++ (key, value) ∷ []) (sym ends.is)
        (put_at_end ends.front (last, ends.value) key value sorted (above ends.later)))
  ]

  pub pairs_next : (next : Map) → next ≡ put bytes_cmp key value m → (0 < place → bytes_cmp last key ≡ Less) → IsPairsTo body after key next
  pairs_next next made above =
      let grown : next ≡ m ++ (key, value) ∷ [] = made ∙ at_end above in
      let keys = length-take head.first (drop 5 (drop place body)) in
      let values = length-take head.second (drop (5 + head.first) (drop place body)) in
      record {
        rest = rest_is ∙ ap (λ (x : Map). option_map (λ q. x ++ q) (pairs_in (drop after body))) (sym grown);
        spellable = subst (λ (x : Map). IsSpellable x) (sym made)
            (change_spellable (Put key value) m (let a = is.first in let b = is.second in (omega (arith, keys, a), omega (arith, values, b))) so.spellable);
        fits = subst (λ (x : Map). records_bytes x ≤ after) (sym made) (omega (arith, so.fits, put_bytes key value m so.spellable.sorted, keys, values));
        within = omega (arith, is.whole, length-drop place body, so.within);
        ends = inr (record { front = m; value = value; is = grown; later = omega arith });
      }

  -- a key that is not above the last one
  pub pairs_fall : 0 < place → is_lt (bytes_cmp last key) ≡ false → checkpoint_map body ≡ None
  pairs_fall some falls =
      checkpoint_is body ∙ ap (λ (o : Option Map). and_then o (λ x. ascending x)) rest_is
      ∙ by (pairs_in (drop after body))
    where
      unsorted : (q : Map) → T (is_sorted bytes_cmp ((m ++ (key, value) ∷ []) ++ q)) → ⊥
      unsorted q sorted = elim so.ends [
        | inl start ↦ omega (arith, some, start.0)
        | inr ends ↦
            (let whole : (m ++ (key, value) ∷ []) ++ q ≡ ends.front ++ (last, ends.value) ∷ (key, value) ∷ q =
            append_assoc m ((key, value) ∷ []) q ∙ ap (λ (x : Map). x ++ (key, value) ∷ q) ends.is ∙ append_assoc ends.front ((last, ends.value) ∷ []) ((key, value) ∷ q) in
            let less = two_rise ends.front (last, ends.value) (key, value) q (subst (λ (x : Map). T (is_sorted bytes_cmp x)) whole sorted) in
            true≢false (sym (ap (λ (r : Ordering). is_lt r) less) ∙ falls))
      ]

      by : (o : Option Map) → and_then (option_map (λ q. (m ++ (key, value) ∷ []) ++ q) o) (λ x. ascending x) ≡ None
      by None = refl
      by (Some q) = ap (λ (t : Bool). if t then Some ((m ++ (key, value) ∷ []) ++ q) else None) (false_from (is_sorted bytes_cmp ((m ++ (key, value) ∷ []) ++ q)) (unsorted q))

-- whether a key may stand behind the last one, as it was tested
module _ (place : ℕ) (test below : Bool) (is : test ≡ (nat_eq place 0 || below)) where
  later_below : test ≡ true → 0 < place → below ≡ true
  later_below passed some = by (nat_eq place 0) refl
    where
      by : (t : Bool) → nat_eq place 0 ≡ t → below ≡ true
      by true first = absurd (let zero_place = eqb-true place 0 first in omega (arith, zero_place, some))
      by false later = sym (ap (λ (t : Bool). t || below) later) ∙ sym is ∙ passed

  not_below : test ≡ false → (0 < place) × (below ≡ false)
  not_below failed =
      let parts = or_parts (nat_eq place 0) below (sym is ∙ failed) in
      let some = eqb-false place 0 parts.0 in
      (omega (arith, some), parts.1)

module _ (body : List ℕ) (place : ℕ) (last : List ℕ) (m : Map) (head : RecordHead) (rest : List ℕ) (rest_is : rest ≡ drop place body)
    (so : IsPairsTo body place last m) (is : IsPutHeadOf rest head) (key value : List ℕ) (key_is : key ≡ part 5 head.first rest)
    (test : Bool) (tested : test ≡ (nat_eq place 0 || is_lt (bytes_cmp last key))) where
  here : IsPutHeadOf (drop place body) head
  here = subst (λ (q : List ℕ). IsPutHeadOf q head) rest_is is

  key_here : key ≡ part 5 head.first (drop place body)
  key_here = key_is ∙ ap (λ (q : List ℕ). part 5 head.first q) rest_is

  pub pairs_step : test ≡ true → value ≡ part (5 + head.first) head.second rest → (next : Map) → next ≡ put bytes_cmp key value m
      → (n : ℕ) → n ≡ 5 + (head.first + head.second) → IsPairsTo body (place + n) key next
  pairs_step passed value_is next made n count =
      let value_here = value_is ∙ ap (λ (q : List ℕ). part (5 + head.first) head.second q) rest_is in
      let above = λ (some : 0 < place). ap (λ (k : List ℕ). bytes_cmp last k) (sym key_here)
      ∙ less_from (bytes_cmp last key) (later_below place test (is_lt (bytes_cmp last key)) tested passed some) in
      let base = pairs_next body place last m head so here next (made ∙ (λ i. put bytes_cmp (key_here i) (value_here i) m)) above in
      subst (λ (k : ℕ). IsPairsTo body (place + k) key next) (sym count)
      (subst (λ (k : List ℕ). IsPairsTo body (place + (5 + (head.first + head.second))) k next) (sym key_here) base)

  pub pairs_fail : test ≡ false → checkpoint_map body ≡ None
  pairs_fail failed =
      let parts = not_below place test (is_lt (bytes_cmp last key)) tested failed in
      pairs_fall body place last m head so here parts.0 (ap (λ (k : List ℕ). is_lt (bytes_cmp last k)) (sym key_here) ∙ parts.1)

pub pairs_stop : (body : List ℕ) (place : ℕ) (last : List ℕ) (m : Map) → IsPairsTo body place last m → pairs_in (drop place body) ≡ None → checkpoint_map body ≡ None
pairs_stop body place last m so none =
    checkpoint_is body ∙ ap (λ (o : Option Map). and_then o (λ x. ascending x)) (so.rest ∙ ap (λ (o : Option Map). option_map (λ q. m ++ q) o) none)

pub pairs_whole : (body : List ℕ) (place : ℕ) (last : List ℕ) (m : Map) → IsPairsTo body place last m → length body ≤ place → checkpoint_map body ≡ Some m
pairs_whole body place last m so end =
    let all : pairs_in body ≡ Some m =
    so.rest ∙ ap (λ (q : List ℕ). option_map (λ x. m ++ x) (pairs_in q)) (drop_end place body end) ∙ ap (λ (x : Map). Some x) (append-nil m) in
    checkpoint_is body ∙ ap (λ (o : Option Map). and_then o (λ x. ascending x)) all
    ∙ ap (λ (t : Bool). if t then Some m else None) (true_from (is_sorted bytes_cmp m) so.spellable.sorted)

-- ---- no records

pub nothing_staged : (items : List ℕ) → length items ≡ 36 → records_of (drop 36 items) ≡ Some []
nothing_staged items size = ap (λ (q : List ℕ). records_of q) (drop_end 36 items (omega (arith, size)))
