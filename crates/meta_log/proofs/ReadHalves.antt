-- The checkpoint of a half and its groups, one after the other.
use Rattle.std.proofs.Common.{◌≡◌, ◌≢◌, ℕ, zero, suc, Bool, true, false, ◌+◌, ◌^◌, ◌≤◌, ◌<◌, List, [], ◌∷◌, ◌++◌, length, get_or, take, drop, nat_eq, nat_lt, refl, sym, ◌∙◌, ap, subst, arith, length-drop, length-take}
use Rattle.std.specs.Prelude.{◌==◌, if◌then◌else◌, Some, None, Option, option_map}
use Rattle.std.specs.Cmp.Lexicographic.{pointwise}
use Rattle.std.proofs.lemmas.Bool.{le-ltb, lt-ltb, ltb-true, eqb-true, eqb-false, and_parts}
use Rattle.std.proofs.lemmas.List.{drop-drop, drop_more}
use Rattle.vdisk.specs.Ranges.{part, same_front}
use Rattle.byte_map.specs.Words.{Map}
use Rattle.meta_log.specs.Records.{Record, changes, records_of}
use Rattle.meta_log.specs.Meta.{and_then, where_digest, digest_of, group_length, group_body, group_at, groups_from, groups_length, groups_end, is_epoch, epoch_of, body_length, body_of, checkpoint_map, checkpoint_at, map_of_half}
use Rattle.meta_log.specs.Ready.{GoesOn}
use Rattle.meta_log.specs.Reading.{IsGroupOf, IsGroupTaken, IsCheckpointOf, IsReadTo, IsSpellable, records_bytes}
use Rattle.meta_log.proofs.Groups.{length_skip}
use Rattle.meta_log.proofs.Fronts.{part_same, get_same, number_same}

-- ---- one group

pub group_cut : (bytes : List ℕ) → length bytes < 36 + group_length bytes → group_at bytes ≡ None
group_cut bytes short =
    let cut : nat_lt (length bytes) (36 + group_length bytes) ≡ true = lt-ltb _ _ short in
    ap (λ (t : Bool). if t then None else where_digest (part 4 32 bytes) (take 4 bytes ++ group_body bytes) (records_of (group_body bytes))) cut

group_whole : (bytes : List ℕ) → 36 + group_length bytes ≤ length bytes
    → group_at bytes ≡ where_digest (part 4 32 bytes) (take 4 bytes ++ group_body bytes) (records_of (group_body bytes))
group_whole bytes fits =
    let whole : nat_lt (length bytes) (36 + group_length bytes) ≡ false = le-ltb _ _ fits in
    ap (λ (t : Bool). if t then None else where_digest (part 4 32 bytes) (take 4 bytes ++ group_body bytes) (records_of (group_body bytes))) whole

module _ (bytes : List ℕ) (n : ℕ) (count : n ≡ group_length bytes) (fits : 36 + n ≤ length bytes) where
  tested : group_at bytes ≡ where_digest (part 4 32 bytes) (take 4 bytes ++ part 36 n bytes) (records_of (part 36 n bytes))
  tested =
      group_whole bytes (omega (arith, count, fits))
      ∙ ap (λ (k : ℕ). where_digest (part 4 32 bytes) (take 4 bytes ++ part 36 k bytes) (records_of (part 36 k bytes))) (sym count)

  pub group_differs : pointwise nat_eq (part 4 32 bytes) (digest_of (take 4 bytes ++ part 36 n bytes)) ≡ false → group_at bytes ≡ None
  group_differs test = tested ∙ ap (λ (t : Bool). if t then records_of (part 36 n bytes) else None) test

  pub group_sound : pointwise nat_eq (part 4 32 bytes) (digest_of (take 4 bytes ++ part 36 n bytes)) ≡ true → IsGroupOf bytes n
  group_sound test = record {
    count = count;
    whole = fits;
    reads = tested ∙ ap (λ (t : Bool). if t then records_of (part 36 n bytes) else None) test;
  }

groups_skip : (n : ℕ) (m : Map) (bytes : List ℕ) → groups_from n m bytes ≡ groups_from 0 m (drop n bytes)
groups_skip zero m bytes = refl
groups_skip (suc n) m [] = refl
groups_skip (suc n) m (b ∷ bytes) = groups_skip n m bytes

made_means : (m next : Map) (o : Option (List Record)) → Some next ≡ option_map (λ made. changes made m) o → (rs : List Record) × (o ≡ Some rs) × (next ≡ changes rs m)
made_means m next None is = absurd (cc)
made_means m next (Some rs) is = (rs, refl, cc)

pub group_taken : (bytes : List ℕ) (old new : Map) (n : ℕ) → IsGroupOf bytes n → Some new ≡ option_map (λ made. changes made old) (records_of (part 36 n bytes))
    → IsSpellable new → records_bytes new ≤ records_bytes old + length (part 36 n bytes) → IsGroupTaken bytes old new (36 + n)
group_taken bytes old new n is made spellable fits =
    let read = made_means old new (records_of (part 36 n bytes)) made in
    let whole = length-take n (drop 36 bytes) in
    record {
      made = read.0;
      reads = is.reads ∙ read.1;
      changed = read.2;
      count = ap (λ (k : ℕ). 36 + k) is.count;
      within = is.whole;
      fits = omega (arith, fits, whole);
      spellable = spellable;
    }

-- a group is told by its own bytes
module _ (x y : List ℕ) (n : ℕ) (is : n ≡ 36 + group_length x) (size : length y ≡ length x) (same : take n y ≡ take n x) where
  pub count_same : group_length y ≡ group_length x
  count_same = number_same n 0 4 y x (omega (arith, is)) same

  body_same : group_body y ≡ group_body x
  body_same = ap (λ (k : ℕ). part 36 k y) count_same ∙ part_same n 36 (group_length x) y x (omega (arith, is)) same

  pub group_same : group_at y ≡ group_at x
  group_same =
      let digest = part_same n 4 32 y x (omega (arith, is)) same in
      let head = part_same n 0 4 y x (omega (arith, is)) same in
      λ i. if nat_lt (size i) (36 + count_same i) then None else where_digest (digest i) (head i ++ body_same i) (records_of (body_same i))

-- ---- the checkpoint

pub epoch_out : (half : List ℕ) → is_epoch (epoch_of half) ≡ false → map_of_half half ≡ None
epoch_out half out =
    ap (λ (t : Bool). if t then and_then (checkpoint_at half) (λ m. groups_from 0 m (drop (45 + body_length half) half)) else None) out

pub unread_checkpoint : (half : List ℕ) → checkpoint_at half ≡ None → map_of_half half ≡ None
unread_checkpoint half none = by (is_epoch (epoch_of half))
  where
    by : (t : Bool) → (if t then and_then (checkpoint_at half) (λ m. groups_from 0 m (drop (45 + body_length half) half)) else None) ≡ None
    by true = ap (λ (o : Option Map). and_then o (λ m. groups_from 0 m (drop (45 + body_length half) half))) none
    by false = refl

pub checkpoint_cut : (half : List ℕ) → length half < 45 + body_length half → map_of_half half ≡ None
checkpoint_cut half short =
    let cut : nat_lt (length half) (45 + body_length half) ≡ true = lt-ltb _ _ short in
    unread_checkpoint half (ap (λ (t : Bool). if t then None else where_digest (part 13 32 half) (part 1 12 half ++ body_of half) (checkpoint_map (body_of half))) cut)

module _ (half : List ℕ) (n : ℕ) (count : n ≡ body_length half) (fits : 45 + n ≤ length half) where
  checked : checkpoint_at half ≡ where_digest (part 13 32 half) (part 1 12 half ++ part 45 n half) (checkpoint_map (part 45 n half))
  checked =
      let whole : nat_lt (length half) (45 + body_length half) ≡ false = le-ltb _ _ (omega (arith, count, fits)) in
      ap (λ (t : Bool). if t then None else where_digest (part 13 32 half) (part 1 12 half ++ body_of half) (checkpoint_map (body_of half))) whole
      ∙ ap (λ (k : ℕ). where_digest (part 13 32 half) (part 1 12 half ++ part 45 k half) (checkpoint_map (part 45 k half))) (sym count)

  pub checkpoint_differs : pointwise nat_eq (part 13 32 half) (digest_of (part 1 12 half ++ part 45 n half)) ≡ false → map_of_half half ≡ None
  checkpoint_differs test = unread_checkpoint half (checked ∙ ap (λ (t : Bool). if t then checkpoint_map (part 45 n half) else None) test)

  pub checkpoint_sound : is_epoch (epoch_of half) ≡ true → pointwise nat_eq (part 13 32 half) (digest_of (part 1 12 half ++ part 45 n half)) ≡ true → IsCheckpointOf half n
  checkpoint_sound epoch test = record {
    epoch = epoch;
    count = count;
    whole = fits;
    reads = checked ∙ ap (λ (t : Bool). if t then checkpoint_map (part 45 n half) else None) test;
  }

module _ (half : List ℕ) (n : ℕ) (is : IsCheckpointOf half n) where
  pub checkpoint_bad : checkpoint_map (part 45 n half) ≡ None → map_of_half half ≡ None
  checkpoint_bad none = unread_checkpoint half (is.reads ∙ none)

  module _ (s : List ℕ) (size : length s ≡ length half) (same : take (45 + n) s ≡ take (45 + n) half) where
    length_same : body_length s ≡ body_length half
    length_same = number_same (45 + n) 9 4 s half (omega arith) same

    content_same : body_of s ≡ body_of half
    content_same =
        ap (λ (k : ℕ). part 45 k s) length_same
        ∙ (let count = is.count in part_same (45 + n) 45 (body_length half) s half (omega (arith, count)) same)

    checkpoint_same : checkpoint_at s ≡ checkpoint_at half
    checkpoint_same =
        let digest = part_same (45 + n) 13 32 s half (omega arith) same in
        let head = part_same (45 + n) 1 12 s half (omega arith) same in
        λ i. if nat_lt (size i) (45 + length_same i) then None else where_digest (digest i) (head i ++ content_same i) (checkpoint_map (content_same i))

    spelled_on : (m : Map) → checkpoint_map (part 45 n half) ≡ Some m → map_of_half s ≡ groups_from 0 m (drop (45 + n) s)
    spelled_on m reads =
        ap (λ (e : ℕ). if is_epoch e then and_then (checkpoint_at s) (λ q. groups_from 0 q (drop (45 + body_length s) s)) else None) (number_same (45 + n) 1 8 s half (omega arith) same)
        ∙ ap (λ (t : Bool). if t then and_then (checkpoint_at s) (λ q. groups_from 0 q (drop (45 + body_length s) s)) else None) is.epoch
        ∙ ap (λ (o : Option Map). and_then o (λ q. groups_from 0 q (drop (45 + body_length s) s))) (checkpoint_same ∙ is.reads ∙ reads)
        ∙ ap (λ (k : ℕ). groups_from 0 m (drop (45 + k) s)) (length_same ∙ sym is.count)

    ends_on : groups_end s ≡ 45 + n + groups_length 0 (drop (45 + n) s)
    ends_on = ap (λ (k : ℕ). 45 + k + groups_length 0 (drop (45 + k) s)) (length_same ∙ sym is.count)

  pub read_checkpoint : (m : Map) → checkpoint_map (part 45 n half) ≡ Some m → IsSpellable m → records_bytes m ≤ length (part 45 n half)
      → IsReadTo (45 + n) half m
  read_checkpoint m reads spellable fits =
      let whole = length-take n (drop 45 half) in
      record {
        spells = λ s size same. spelled_on s size same m reads;
        ends = λ s size same. ends_on s size same;
        within = is.whole;
        fits = omega (arith, fits, whole);
        spellable = spellable;
      }

pub read_start : (half : List ℕ) (n : ℕ) → IsCheckpointOf half n → (body : List ℕ) → body ≡ part 45 n half → (m : Map) → checkpoint_map body ≡ Some m
    → IsSpellable m → records_bytes m ≤ length body → IsReadTo (45 + n) half m
read_start half n is body same m reads spellable fits =
    read_checkpoint half n is m (ap (λ (q : List ℕ). checkpoint_map q) (sym same) ∙ reads) spellable (subst (λ (q : List ℕ). records_bytes m ≤ length q) same fits)

-- ---- from group to group

-- an open gate, and what stands behind it
opened : (place : ℕ) (s : List ℕ) (m : Map) → place < length s → get_or s place 0 ≡ 1
    → groups_from 0 m (drop place s) ≡ and_then (group_at (drop (place + 1) s)) (λ rs. groups_from (36 + group_length (drop (place + 1) s)) (changes rs m) (drop (place + 1) s))
opened place s m inside gate =
    ap (λ (q : List ℕ). groups_from 0 m q) (drop_more s place 0 inside ∙ ap (λ (g : ℕ). g ∷ drop (place + 1) s) gate)

module _ (place : ℕ) (half : List ℕ) (m : Map) (so : IsReadTo place half m) (inside : place < length half) (gate : get_or half place 0 ≡ 1) where
  abbrev bytes : List ℕ
  bytes = drop (place + 1) half

  pub groups_stop : group_at bytes ≡ None → map_of_half half ≡ None
  groups_stop none =
      so.spells half refl refl ∙ opened place half m inside gate
      ∙ ap (λ (o : Option (List Record)). and_then o (λ rs. groups_from (36 + group_length bytes) (changes rs m) bytes)) none

  pub group_next : (next : Map) (n : ℕ) → IsGroupTaken bytes m next n → IsReadTo (place + (1 + n)) half next
  group_next next n is =
      let long = length-drop (place + 1) half in
      let count = is.count in
      record {
        spells = λ s size same.
            let y = drop (place + 1) s in
            let gate_same : get_or s place 0 ≡ 1 = get_same (place + (1 + n)) place s half (omega arith) same ∙ gate in
            let more : length y ≡ length bytes = omega (arith, length-drop (place + 1) s, long, size) in
            let front : take n y ≡ take n bytes = part_same (place + (1 + n)) (place + 1) n s half (omega arith) same in
            let number : 36 + group_length y ≡ n = ap (λ (k : ℕ). 36 + k) (count_same bytes y n count more front) ∙ sym count in
            let behind : place + 1 + n ≡ place + (1 + n) = omega arith in
            so.spells s size (same_front place (place + (1 + n)) half s (omega arith) same)
            ∙ opened place s m (omega (arith, inside, size)) gate_same
            ∙ ap (λ (o : Option (List Record)). and_then o (λ rs. groups_from (36 + group_length y) (changes rs m) y)) (group_same bytes y n count more front ∙ is.reads)
            ∙ ap (λ (q : Map). groups_from (36 + group_length y) q y) (sym is.changed)
            ∙ ap (λ (k : ℕ). groups_from k next y) number
            ∙ groups_skip n next y
            ∙ ap (λ (q : List ℕ). groups_from 0 next q) (drop-drop n (place + 1) s ∙ ap (λ (k : ℕ). drop k s) behind);
        ends = λ s size same.
            let y = drop (place + 1) s in
            let gate_same : get_or s place 0 ≡ 1 = get_same (place + (1 + n)) place s half (omega arith) same ∙ gate in
            let more : length y ≡ length bytes = omega (arith, length-drop (place + 1) s, long, size) in
            let front : take n y ≡ take n bytes = part_same (place + (1 + n)) (place + 1) n s half (omega arith) same in
            let number : 36 + group_length y ≡ n = ap (λ (k : ℕ). 36 + k) (count_same bytes y n count more front) ∙ sym count in
            let here : groups_length 0 (drop place s) ≡ suc (groups_length n y) =
            ap (λ (q : List ℕ). groups_length 0 q) (drop_more s place 0 (omega (arith, inside, size)) ∙ ap (λ (g : ℕ). g ∷ y) gate_same)
            ∙ ap (λ (k : ℕ). suc (groups_length k y)) number in
            let place_is : place + 1 + n ≡ place + (1 + n) = omega arith in
            let behind : groups_length 0 (drop n y) ≡ groups_length 0 (drop (place + (1 + n)) s) =
            ap (λ (q : List ℕ). groups_length 0 q) (drop-drop n (place + 1) s ∙ ap (λ (k : ℕ). drop k s) place_is) in
            let passed = length_skip n y (omega (arith, is.within, more)) in
            let before = so.ends s size (same_front place (place + (1 + n)) half s (omega arith) same) in
            omega (arith, before, here, passed, behind);
        within = omega (arith, is.within, long, inside);
        fits = omega (arith, is.fits, so.fits);
        spellable = is.spellable;
      }

pub groups_done : (place : ℕ) (half : List ℕ) (m : Map) → IsReadTo place half m → get_or half place 0 ≢ 1 → GoesOn place half m
groups_done place half m so closed = record { spells = so.spells; ends = so.ends; closed = closed; within = so.within; behind = omega (arith, so.fits) }

-- ---- gates and epochs

pub is_open_gate : (gate : ℕ) → (gate == 1) ≡ true → gate ≡ 1
is_open_gate gate test = eqb-true gate 1 test

pub is_closed_gate : (gate : ℕ) → (gate == 1) ≡ false → gate ≢ 1
is_closed_gate gate test = eqb-false gate 1 test

pub epoch_range : (e : ℕ) → is_epoch e ≡ true → (1 ≤ e) × (e < 2 ^ 63)
epoch_range e is = let parts = and_parts (nat_lt 0 e) (nat_lt e (2 ^ 63)) is in (ltb-true 0 e parts.0, ltb-true e (2 ^ 63) parts.1)
