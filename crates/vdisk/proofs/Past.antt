-- How one more call changes what a disk in memory had.
use Rattle.std.proofs.Common.{◌≡◌, ◌⊎◌, inl, inr, ⊎_elim, ℕ, ◌+◌, ◌-◌, ◌≤◌, ◌<◌, true, false, leb, ltb, if◌then◌else◌, List, [], ◌∷◌, ◌++◌, length, take, drop, reverse, get_or, sym, ◌∙◌, ap, subst, arith, refl, length-append, length-drop, take-append-drop}
use Rattle.std.proofs.Common.{Vec, length-take-le}
use Rattle.std.proofs.lemmas.List.{places, take_at, drop_at, drop-drop, reverse-append, get_or-take, get_or-drop, get_or_past, ext_get_or, append_assoc}
use Rattle.std.proofs.lemmas.Bool.{cases_lt, le-leb, lt-leb, lt-ltb, le-ltb, and_left, and_right, and_from, or_from, or_parts, and_cases, ltb-false, leb-false, cond-true, cond-false}
use Rattle.std.specs.declared.alloc.Global.{Global}
use Rattle.vdisk.specs.declared.record.Event.{Event}
use Rattle.vdisk.specs.declared.record.Change.TheVariants.{Wrote, Grew, Synced}
use Rattle.vdisk.specs.Past.{LeftByCrash, Had, before, put, lies_in, is_pending, byte_before, byte_at_sync}
use Rattle.vdisk.specs.Laws.{IsMix}
use Rattle.vdisk.specs.Disk.{ChangedWithin, GrownTo, Follows, Only}
use Rattle.vdisk.specs.Ranges.{changed_wider}

-- what a crash since t might have left
abbrev pub Since : List ℕ → List Event → ℕ → List ℕ → Type 0
Since image es t c = LeftByCrash image es c ⊎ Had t image es c

pub record GoesOn (m : ℕ) (image : List ℕ) (es : List Event) (image' : List ℕ) (es' : List Event) : Type 0 where
  pub since : (t : ℕ) (c : List ℕ) → t ≤ m → Since image' es' t c → Since image es t c ⊎ LeftByCrash image' es' c
  pub keeps : (t : ℕ) (c : List ℕ) → t ≤ m → Since image es t c → Since image' es' t c

pub had_later : (t u : ℕ) (image : List ℕ) (es : List Event) (c : List ℕ) → t ≤ u → Had u image es c → Had t image es c
had_later t u image [] c le had = had
had_later t u image (e ∷ es) c le (inl here) = inl (omega (arith, here.0), here.1)
had_later t u image (e ∷ es) c le (inr there) = inr (had_later t u (before e.change image) es c le there)

-- nothing was recorded
pub same_past : (m : ℕ) (image : List ℕ) (es : List Event) (image' : List ℕ) (es' : List Event)
    → image' ≡ image → es' ≡ es → GoesOn m image es image' es'
same_past m image es image' es' is same = subst (λ (l : List ℕ). GoesOn m image es l es') (sym is) (subst (λ (l : List Event). GoesOn m image es image l) (sym same) (record { since = λ t c le left. inl left; keeps = λ t c le left. left }))

push : (m : ℕ) (image : List ℕ) (es : List Event) (e : Event) (image' : List ℕ) → e.stamp ≡ m
    → before e.change image' ≡ image → GoesOn m image es image' (e ∷ es)
push m image es e image' now back = record {
  since = λ t c le left. ⊎_elim (λ new. inr new) (λ had. ⊎_elim
      (λ last. inl (inl (subst (λ (l : List ℕ). LeftByCrash l es c) back last.1)))
      (λ past. inl (inr (subst (λ (l : List ℕ). Had t l es c) back past))) had) left;
  keeps = λ t c le left. ⊎_elim
      (λ last. inr (inl (omega (arith, now, le), subst (λ (l : List ℕ). LeftByCrash l es c) (sym back) last)))
      (λ past. inr (inr (subst (λ (l : List ℕ). Had t l es c) (sym back) past))) left;
}

pub newest : (events events' : List Event) (e : Event) → events' ≡ events ++ e ∷ []
    → reverse events' ≡ e ∷ reverse events
newest events events' e is = ap reverse is ∙ reverse-append events (e ∷ [])

pub pushed : (m : ℕ) (image : List ℕ) (events events' : List Event) (e : Event) (image' : List ℕ)
    → events' ≡ events ++ e ∷ [] → e.stamp ≡ m → before e.change image' ≡ image
    → GoesOn m image (reverse events) image' (reverse events')
pushed m image events events' e image' is now back =
    subst (λ (l : List Event). GoesOn m image (reverse events) image' l) (sym (newest events events' e is)) (push m image (reverse events) e image' now back)

-- and it all lies before the next moment
pub ends_pushed : (m : ℕ) (image : List ℕ) (events events' : List Event) (e : Event) (image' : List ℕ)
    → events' ≡ events ++ e ∷ [] → e.stamp ≡ m → before e.change image' ≡ image
    → ((c : List ℕ) → Had m image (reverse events) c → ⊥) → (c : List ℕ) → Had (m + 1) image' (reverse events') c → ⊥
ends_pushed m image events events' e image' is now back ends c had =
    ⊎_elim (λ last. absurd (omega (arith, last.0, now)))
    (λ past. ends c (had_later m (m + 1) image (reverse events) c (omega arith) (subst (λ (l : List ℕ). Had (m + 1) l (reverse events) c) back past)))
    (subst (λ (l : List Event). Had (m + 1) image' l c) (newest events events' e is) had)

pub ends_same : (m n : ℕ) (image image' : List ℕ) (events events' : List Event) → image' ≡ image
    → events' ≡ events → m ≤ n
    → ((c : List ℕ) → Had m image (reverse events) c → ⊥) → (c : List ℕ) → Had n image' (reverse events') c → ⊥
ends_same m n image image' events events' is same le ends c had =
    ends c (had_later m n image (reverse events) c le (subst (λ (l : List ℕ). Had n l (reverse events) c) is (subst (λ (l : List Event). Had n image' (reverse l) c) same had)))

put_within : (x : List ℕ) (at : ℕ) (b : List ℕ) (i : ℕ) → at + length b ≤ length x → at ≤ i
    → i < at + length b → get_or (put x at b) i 0 ≡ get_or b (i - at) 0
put_within x at b i fits low high = grind (arith, places)

-- a place lies in a range, or outside it
pub inside : (at n i : ℕ) → at ≤ i → i < at + n → lies_in at n i ≡ true
inside at n i low high = and_from (leb at i) (ltb i (at + n)) (le-leb at i low) (lt-ltb i (at + n) high)

pub outside : (at n i : ℕ) → (i < at) ⊎ (at + n ≤ i) → lies_in at n i ≡ false
outside at n i (inl low) = and_left (leb at i) (ltb i (at + n)) (lt-leb at i low)
outside at n i (inr high) = and_right (leb at i) (ltb i (at + n)) (le-ltb i (at + n) high)

pub where_outside : (at n i : ℕ) → lies_in at n i ≡ false → (i < at) ⊎ (at + n ≤ i)
where_outside at n i out = ⊎_elim (λ low. inl (leb-false at i low)) (λ high. inr (ltb-false i (at + n) high)) (and_cases (leb at i) (ltb i (at + n)) out)

-- a byte outside a changed range
pub unchanged : (at n i : ℕ) (x y : List ℕ) → ChangedWithin at n x y → (i < at) ⊎ (at + n ≤ i)
    → get_or y i 0 ≡ get_or x i 0
unchanged at n i x y change (inl low) = sym (get_or-take at y i 0 low) ∙ ap (λ (l : List ℕ). get_or l i 0) change.before ∙ get_or-take at x i 0 low
unchanged at n i x y change (inr high) =
    let place : (at + n) + (i - (at + n)) ≡ i = omega (arith, high) in
    let P : ℕ → Type 0 = λ k. get_or y k 0 ≡ get_or x k 0 in
    subst P place (sym (get_or-drop (at + n) y (i - (at + n)) 0) ∙ ap (λ (l : List ℕ). get_or l (i - (at + n)) 0) change.after ∙ get_or-drop (at + n) x (i - (at + n)) 0)

length-piece : (x : List ℕ) (at n : ℕ) → at + n ≤ length x → length (take n (drop at x)) ≡ n
length-piece x at n fits = length-take-le n (drop at x) (omega (arith, length-drop at x))

-- the bytes that were there, put back
pub taken_back : (at n : ℕ) (x y was : List ℕ) → at + n ≤ length x → ChangedWithin at n x y
    → was ≡ take n (drop at x) → put y at was ≡ x
taken_back at n x y was fits change is =
    let long : length was ≡ n = omega (arith, ap length is, length-piece x at n fits) in
    ap (λ (k : ℕ). take at y ++ was ++ drop (at + k) y) long
    ∙ ap (λ (l : List ℕ). l ++ was ++ drop (at + n) y) change.before
    ∙ ap (λ (l : List ℕ). take at x ++ was ++ l) change.after
    ∙ ap (λ (l : List ℕ). take at x ++ l ++ drop (at + n) x) is
    ∙ append_assoc (take at x) (take n (drop at x)) (drop (at + n) x)
    ∙ ap (λ (l : List ℕ). take at x ++ (take n (drop at x) ++ l)) (sym (drop-drop n at x))
    ∙ ap (λ (l : List ℕ). take at x ++ l) (take-append-drop n (drop at x))
    ∙ take-append-drop at x

-- a write changes its range alone
pub put_changes : (at : ℕ) (x b : List ℕ) → at + length b ≤ length x → ChangedWithin at (length b) x (put x at b)
put_changes at x b fits = record {
  before = ap (λ (l : List ℕ). take at l) (append_assoc (take at x) b (drop (at + length b) x)) ∙ take_at (take at x) (b ++ drop (at + length b) x) at (length-take-le at x (omega arith));
  after = drop_at (take at x ++ b) (drop (at + length b) x) (at + length b) (omega (arith, length-append (take at x) b, length-take-le at x (omega arith)));
  size = grind (arith, places);
}

-- what a crash leaves after a write, with the old bytes of the range put back, a crash might have left before it
pub crash_wrote : (at n : ℕ) (x y : List ℕ) (v : Vec ℕ Global) (stamp : ℕ) (es : List Event)
    → at + n ≤ length x → ChangedWithin at n x y → v.items ≡ take n (drop at x)
    → Follows (ChangedWithin at n) (LeftByCrash x es) (LeftByCrash y (record { stamp = stamp; change = Wrote at v } ∷ es))
crash_wrote at n x y v stamp es fits change is c left =
    let long : length v.items ≡ n = omega (arith, ap length is, length-piece x at n fits) in
    let size : length c ≡ length x = left.size ∙ change.size in
    let room : at + length v.items ≤ length c = omega arith in
    let d : List ℕ = put c at v.items in
    let back : ChangedWithin at (length v.items) c d = put_changes at c v.items room in
    let torn : ChangedWithin at n d c = subst (λ (k : ℕ). ChangedWithin at k d c) long (record { before = sym back.before; after = sym back.after; size = sym back.size }) in
    let within : (i : ℕ) → at ≤ i → i < at + n → get_or d i 0 ≡ get_or x i 0 = λ i low high.
    put_within c at v.items i room low (omega (arith, high, long)) ∙ ap (λ (l : List ℕ). get_or l (i - at) 0) is
    ∙ get_or-take n (drop at x) (i - at) 0 (omega (arith, low, high)) ∙ get_or-drop at x (i - at) 0
    ∙ (let same : at + (i - at) ≡ i = omega (arith, low) in ap (λ (k : ℕ). get_or x k 0) same) in
    let apart : (i : ℕ) → is_pending es i ≡ false → (i < at) ⊎ (at + n ≤ i)
    → get_or d i 0 ≡ get_or x i 0 = λ i none out.
    sym (unchanged at n i d c torn out)
    ∙ left.clean i (or_from (lies_in at (length v.items) i) (is_pending es i) (subst (λ (k : ℕ). lies_in at k i ≡ false) (sym long) (outside at n i out)) none)
    ∙ unchanged at n i x y change out in (
      d,
      record {
        size = back.size ∙ size;
        clean = λ i none. ⊎_elim (λ low. apart i none (inl low)) (λ past. ⊎_elim (λ high. within i past high) (λ high. apart i none (inr high)) (cases_lt i (at + n))) (cases_lt i at);
      },
      torn,
    )

-- and every such image may be left
pub may_tear : (at n : ℕ) (x y d c : List ℕ) (v : Vec ℕ Global) (stamp : ℕ) (es : List Event)
    → length v.items ≡ n → ChangedWithin at n x y → LeftByCrash x es d → ChangedWithin at n d c
    → LeftByCrash y (record { stamp = stamp; change = Wrote at v } ∷ es) c
may_tear at n x y d c v stamp es long change left torn = record {
  size = torn.size ∙ left.size ∙ sym change.size;
  clean = λ i none.
      let parts = or_parts (lies_in at (length v.items) i) (is_pending es i) none in
      let out : (i < at) ⊎ (at + n ≤ i) = subst (λ (k : ℕ). (i < at) ⊎ (at + k ≤ i)) long (where_outside at (length v.items) i parts.0) in
      unchanged at n i d c torn out ∙ left.clean i parts.1 ∙ sym (unchanged at n i x y change out);
}

pub crash_grew : (to from : ℕ) (image image' : List ℕ) (stamp : ℕ) (es : List Event) → from ≡ length image
    → take (length image) image' ≡ image → length image' ≡ to → length image ≤ to
    → Follows (GrownTo to) (LeftByCrash image es) (LeftByCrash image' (record { stamp = stamp; change = Grew from } ∷ es))
crash_grew to from image image' stamp es starts front size more c left =
    let n = length image in
    let long : length (take n c) ≡ n = length-take-le n c (omega (arith, left.size, size, more)) in (
      take n c,
      record {
        size = long;
        clean = λ i none. elim (cases_lt i n) [
          | inl low ↦ get_or-take n c i 0 low ∙ left.clean i (or_from (leb from i) (is_pending es i) (lt-leb from i (omega (arith, low, starts))) none)
              ∙ sym (get_or-take n image' i 0 low) ∙ ap (λ (l : List ℕ). get_or l i 0) front
          | inr high ↦ get_or_past (take n c) i 0 (omega (arith, long, high)) ∙ sym (get_or_past image i 0 high)
        ];
      },
      record {
        front = ap (λ (k : ℕ). take k c) long;
        no_shorter = omega (arith, long, left.size, size, more);
        no_longer = omega (arith, left.size, size);
      },
    )

-- and every image that goes on behind the old end may be left
pub may_grow : (to from : ℕ) (image image' d c : List ℕ) (stamp : ℕ) (es : List Event) → from ≡ length image
    → take (length image) image' ≡ image → length image' ≡ to
    → LeftByCrash image es d → GrownTo to d c → length c ≡ to → LeftByCrash image' (record { stamp = stamp; change = Grew from } ∷ es) c
may_grow to from image image' d c stamp es starts front size left grown long = record {
  size = long ∙ sym size;
  clean = λ i none.
      let parts = or_parts (leb from i) (is_pending es i) none in
      let low : i < length image = omega (arith, leb-false from i parts.0, starts) in
      let low_too : i < length d = omega (arith, low, left.size) in
      sym (get_or-take (length d) c i 0 low_too) ∙ ap (λ (l : List ℕ). get_or l i 0) grown.front ∙ left.clean i parts.1
      ∙ sym (ap (λ (l : List ℕ). get_or l i 0) front) ∙ get_or-take (length image) image' i 0 low;
}

pub durable_synced : (image : List ℕ) (stamp : ℕ) (es : List Event)
    → Only image (LeftByCrash image (record { stamp = stamp; change = Synced } ∷ es))
durable_synced image stamp es c left = ext_get_or 0 c image left.size (λ i h. left.clean i refl)

-- the byte that was there, put back
byte_back : (at n i : ℕ) (x y was : List ℕ) → length was ≡ n → at + n ≤ length x → ChangedWithin at n x y
    → was ≡ take n (drop at x)
    → (if lies_in at (length was) i then get_or was (i - at) 0 else get_or y i 0) ≡ get_or x i 0
byte_back at n i x y was long fits change is =
    let apart : (i < at) ⊎ (at + n ≤ i)
    → (if lies_in at (length was) i then get_or was (i - at) 0 else get_or y i 0) ≡ get_or x i 0 = λ out.
    cond-false (lies_in at (length was) i) (get_or was (i - at) 0) (get_or y i 0) (subst (λ (k : ℕ). lies_in at k i ≡ false) (sym long) (outside at n i out)) ∙ unchanged at n i x y change out in
    let within : at ≤ i → i < at + n
    → (if lies_in at (length was) i then get_or was (i - at) 0 else get_or y i 0) ≡ get_or x i 0 = λ low high.
    cond-true (lies_in at (length was) i) (get_or was (i - at) 0) (get_or y i 0) (subst (λ (k : ℕ). lies_in at k i ≡ true) (sym long) (inside at n i low high))
    ∙ ap (λ (l : List ℕ). get_or l (i - at) 0) is ∙ get_or-take n (drop at x) (i - at) 0 (omega (arith, low, high)) ∙ get_or-drop at x (i - at) 0
    ∙ (let same : at + (i - at) ≡ i = omega (arith, low) in ap (λ (k : ℕ). get_or x k 0) same) in
    ⊎_elim (λ low. apart (inl low)) (λ past. ⊎_elim (λ high. within past high) (λ high. apart (inr high)) (cases_lt i (at + n))) (cases_lt i at)

-- a part of the bytes changes no more than their whole range
pub part_changes : (at kept : ℕ) (x b : List ℕ) → kept ≤ length b → at + length b ≤ length x
    → ChangedWithin at (length b) x (put x at (take kept b))
part_changes at kept x b within fits =
    let long : length (take kept b) ≡ kept = length-take-le kept b within in
    let room : at + length (take kept b) ≤ length x = omega (arith, long, within, fits) in
    changed_wider at (length (take kept b)) at (length b) x (put x at (take kept b)) (omega arith) (omega (arith, long, within)) (put_changes at x (take kept b) room)

-- a write that was recorded, in a range of n bytes, and was made at this moment
module _ (at n m : ℕ) (x y : List ℕ) (v : Vec ℕ Global) (events events' : List Event) (fits : at + n ≤ length x) (change : ChangedWithin at n x y)
    (was : v.items ≡ take n (drop at x)) (is : events' ≡ events ++ record { stamp = m; change = Wrote at v } ∷ []) where
  pub wrote_ends : ((c : List ℕ) → Had m x (reverse events) c → ⊥) → (c : List ℕ)
      → Had (m + 1) y (reverse events') c → ⊥
  wrote_ends ends = ends_pushed m x events events' (record { stamp = m; change = Wrote at v }) y is refl (taken_back at n x y v.items fits change was) ends

  pub wrote_on : GoesOn m x (reverse events) y (reverse events')
  wrote_on = pushed m x events events' (record { stamp = m; change = Wrote at v }) y is refl (taken_back at n x y v.items fits change was)

  pub wrote_crash : Follows (ChangedWithin at n) (LeftByCrash x (reverse events)) (LeftByCrash y (reverse events'))
  wrote_crash = subst (λ (es : List Event). Follows (ChangedWithin at n) (LeftByCrash x (reverse events)) (LeftByCrash y es)) (sym (newest events events' (record { stamp = m; change = Wrote at v }) is)) (crash_wrote at n x y v m (reverse events) fits change was)

  pub wrote_any : (d c : List ℕ) → LeftByCrash x (reverse events) d → ChangedWithin at n d c → LeftByCrash y (reverse events') c
  wrote_any d c left torn =
      let long : length v.items ≡ n = omega (arith, ap length was, length-piece x at n fits) in
      subst (λ (es : List Event). LeftByCrash y es c) (sym (newest events events' (record { stamp = m; change = Wrote at v }) is)) (may_tear at n x y d c v m (reverse events) long change left torn)

  pub wrote_synced : (i : ℕ)
      → byte_at_sync (reverse events') i (get_or y i 0) ≡ byte_at_sync (reverse events) i (get_or x i 0)
  wrote_synced i =
      let long : length v.items ≡ n = omega (arith, ap length was, length-piece x at n fits) in
      let back : byte_before (Wrote at v) i (get_or y i 0) ≡ get_or x i 0 = byte_back at n i x y v.items long fits change was in
      ap (λ (es : List Event). byte_at_sync es i (get_or y i 0)) (newest events events' (record { stamp = m; change = Wrote at v }) is) ∙ ap (byte_at_sync (reverse events) i) back

pub grew_synced : (from m : ℕ) (x y : List ℕ) (events events' : List Event) → from ≡ length x
    → take (length x) y ≡ x → events' ≡ events ++ record { stamp = m; change = Grew from } ∷ []
    → (i : ℕ) → byte_at_sync (reverse events') i (get_or y i 0) ≡ byte_at_sync (reverse events) i (get_or x i 0)
grew_synced from m x y events events' starts front is i =
    let back : byte_before (Grew from) i (get_or y i 0) ≡ get_or x i 0 = ⊎_elim
    (λ low. cond-false (leb from i) 0 (get_or y i 0) (lt-leb from i (omega (arith, low, starts))) ∙ sym (get_or-take (length x) y i 0 low) ∙ ap (λ (l : List ℕ). get_or l i 0) front)
    (λ past. cond-true (leb from i) 0 (get_or y i 0) (le-leb from i (omega (arith, past, starts))) ∙ sym (get_or_past x i 0 past))
    (cases_lt i (length x)) in
    ap (λ (es : List Event). byte_at_sync es i (get_or y i 0)) (newest events events' (record { stamp = m; change = Grew from }) is) ∙ ap (byte_at_sync (reverse events) i) back

pub synced_now : (m : ℕ) (x : List ℕ) (events events' : List Event)
    → events' ≡ events ++ record { stamp = m; change = Synced } ∷ [] → (i : ℕ)
    → byte_at_sync (reverse events') i (get_or x i 0) ≡ get_or x i 0
synced_now m x events events' is i = ap (λ (es : List Event). byte_at_sync es i (get_or x i 0)) (newest events events' (record { stamp = m; change = Synced }) is)

-- each mix of the bytes before a write and the written ones may be left
pub mix_left : (image bytes c : List ℕ) (at stamp : ℕ) (past : List Event) (was : Vec ℕ Global)
    → at + length bytes ≤ length image → length was.items ≡ length bytes → IsMix at bytes image c
    → LeftByCrash (put image at bytes) (record { stamp = stamp; change = Wrote at was } ∷ past) c
mix_left image bytes c at stamp past was fits long mix =
    let n = length bytes in
    let change = put_changes at image bytes fits in
    record {
      size = mix.size ∙ sym change.size;
      clean = λ i none.
          let parts = or_parts (lies_in at (length was.items) i) (is_pending past i) none in
          let out : (i < at) ⊎ (at + n ≤ i) = subst (λ (k : ℕ). (i < at) ⊎ (at + k ≤ i)) long (where_outside at (length was.items) i parts.0) in
          ⊎_elim (λ same. same) (λ written. ⊎_elim (λ low. absurd (omega (arith, low, written.0))) (λ high. absurd (omega (arith, high, written.1))) out) (mix.each i)
          ∙ sym (unchanged at n i image (put image at bytes) change out);
    }
