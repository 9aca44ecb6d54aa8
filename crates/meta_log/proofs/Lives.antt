-- Which half is live, and that what the halves hold alone tells the map.
use Rattle.std.proofs.Common.{◌≡◌, ◌⊎◌, inl, inr, ℕ, Bool, true, false, ◌+◌, ◌-◌, ◌*◌, ◌≤◌, List, get_or, take, drop, nat_lt, refl, sym, ◌∙◌, ap, subst, arith}
use Rattle.std.specs.Prelude.{◌&&◌, if◌then◌else◌, Some, None, Ok, Option, IsTrue}
use Rattle.std.proofs.lemmas.Bool.{eq-eqb, ne_eqb, lt-ltb, le-ltb}
use Rattle.std.proofs.lemmas.List.{get_or-take, drop-take}
use Rattle.byteorder.specs.Endian.{big_number}
use Rattle.byteorder.specs.Numbers.{big_from-take}
use Rattle.vdisk.specs.Disk.{DiskState, ChangedWithin, Follows}
use Rattle.vdisk.specs.Ranges.{part, part_part, part_apart, same_front}
use Rattle.byte_map.specs.Words.{Map}
use Rattle.meta_log.specs.Meta.{is_open, epoch_of, groups_end, live_of, live_one, live_half, map_of_live, or_damaged, map_of_half, meta_of}
use Rattle.meta_log.specs.Ready.{Layout, AreHalves, GoesOn, GoesOnFrom, IsLive, Stands}
use Rattle.meta_log.proofs.Groups.{half_spells, half_ends}

-- ---- parts of the two halves

pub part_inside : (at len b n : ℕ) (x y : List ℕ) → at ≤ b → b + n ≤ at + len → part at len x ≡ part at len y → part b n x ≡ part b n y
part_inside at len b n x y low high same =
    let within : (b - at) + n ≤ len = omega (arith, low, high) in
    let place : at + (b - at) ≡ b = omega (arith, low) in
    let there : (q : List ℕ) → part (b - at) n (part at len q) ≡ part b n q = λ q. part_part at len (b - at) n q within ∙ ap (λ (k : ℕ). part k n q) place in
    sym (there x) ∙ ap (λ (q : List ℕ). part (b - at) n q) same ∙ there y

-- where the live half and the other one stand
pub record Placed (l : Layout) : Type 0 where
  pub live_low : l.at ≤ l.live_at
  pub live_high : l.live_at + l.half ≤ l.at + 2 * l.half
  pub other_low : l.at ≤ l.other_at
  pub other_high : l.other_at + l.half ≤ l.at + 2 * l.half
  pub apart : (l.live_at + l.half ≤ l.other_at) ⊎ (l.other_at + l.half ≤ l.live_at)

pub placed : (l : Layout) → AreHalves l.at l.half l.live_at l.other_at → Placed l
placed l (inl is) = record {
  live_low = omega (arith, is.0);
  live_high = omega (arith, is.0);
  other_low = omega (arith, is.1);
  other_high = omega (arith, is.1);
  apart = inl (omega (arith, is.0, is.1));
}
placed l (inr is) = record {
  live_low = omega (arith, is.0);
  live_high = omega (arith, is.0);
  other_low = omega (arith, is.1);
  other_high = omega (arith, is.1);
  apart = inr (omega (arith, is.0, is.1));
}

-- images with the same halves spell the same
pub meta_same : (at half : ℕ) (x y : List ℕ) → part at (2 * half) x ≡ part at (2 * half) y → meta_of at half x ≡ meta_of at half y
meta_same at half x y same =
    let first : part at half x ≡ part at half y = part_inside at (2 * half) at half x y (omega arith) (omega arith) same in
    let second : part (at + half) half x ≡ part (at + half) half y = part_inside at (2 * half) (at + half) half x y (omega arith) (omega arith) same in
    λ i. map_of_live (live_of (first i) (second i)) (first i) (second i)

-- and so they have the same live half
pub live_same : (at half : ℕ) (x y : List ℕ) → part at (2 * half) x ≡ part at (2 * half) y → live_half at half x ≡ live_half at half y
live_same at half x y same =
    let first : part at half x ≡ part at half y = part_inside at (2 * half) at half x y (omega arith) (omega arith) same in
    let second : part (at + half) half x ≡ part (at + half) half y = part_inside at (2 * half) (at + half) half x y (omega arith) (omega arith) same in
    λ i. live_one (live_of (first i) (second i)) (first i) (second i)

-- ---- which half is live

-- by the two gates, and whether the second epoch is below the first, or the first below the second
pick : Bool → Bool → Bool → Bool → Option ℕ
pick a b lower greater = if a && b then (if lower then Some 0 else (if greater then Some 1 else None)) else (if a then Some 0 else (if b then Some 1 else None))

pick_first : (b greater : Bool) → pick true b true greater ≡ Some 0
unfolding pick
pick_first true greater = refl
pick_first false greater = refl

pick_second : (a : Bool) → pick a true false true ≡ Some 1
unfolding pick
pick_second true = refl
pick_second false = refl

first_alone : (lower greater : Bool) → pick true false lower greater ≡ Some 0
unfolding pick
first_alone lower greater = refl

second_alone : (lower greater : Bool) → pick false true lower greater ≡ Some 1
unfolding pick
second_alone lower greater = refl

picked : (f s : List ℕ) → live_of f s ≡ pick (is_open f) (is_open s) (nat_lt (epoch_of s) (epoch_of f)) (nat_lt (epoch_of f) (epoch_of s))
unfolding pick
picked f s = refl

first_lives : (epoch : ℕ) (other_open : Bool) (f s : List ℕ) → IsLive epoch other_open f s → live_of f s ≡ Some 0
first_lives epoch other_open f s live =
    let here : is_open f ≡ true = eq-eqb _ _ live.gate in
    picked f s ∙ ap (λ (t : Bool). pick t (is_open s) (nat_lt (epoch_of s) (epoch_of f)) (nat_lt (epoch_of f) (epoch_of s))) here
    ∙ elim live.beside [
      | inl shut ↦
          ap (λ (t : Bool). pick true t (nat_lt (epoch_of s) (epoch_of f)) (nat_lt (epoch_of f) (epoch_of s))) (ne_eqb (get_or s 0 0) 1 shut)
          ∙ first_alone (nat_lt (epoch_of s) (epoch_of f)) (nat_lt (epoch_of f) (epoch_of s))
      | inr below ↦
          ap (λ (t : Bool). pick true (is_open s) t (nat_lt (epoch_of f) (epoch_of s))) (lt-ltb (epoch_of s) (epoch_of f) (omega (arith, below.1, live.counts)))
          ∙ pick_first (is_open s) (nat_lt (epoch_of f) (epoch_of s))
    ]

second_lives : (epoch : ℕ) (other_open : Bool) (f s : List ℕ) → IsLive epoch other_open s f → live_of f s ≡ Some 1
second_lives epoch other_open f s live =
    let here : is_open s ≡ true = eq-eqb _ _ live.gate in
    picked f s ∙ ap (λ (t : Bool). pick (is_open f) t (nat_lt (epoch_of s) (epoch_of f)) (nat_lt (epoch_of f) (epoch_of s))) here
    ∙ elim live.beside [
      | inl shut ↦
          ap (λ (t : Bool). pick t true (nat_lt (epoch_of s) (epoch_of f)) (nat_lt (epoch_of f) (epoch_of s))) (ne_eqb (get_or f 0 0) 1 shut)
          ∙ second_alone (nat_lt (epoch_of s) (epoch_of f)) (nat_lt (epoch_of f) (epoch_of s))
      | inr below ↦
          ap (λ (t : Bool). pick (is_open f) true t (nat_lt (epoch_of f) (epoch_of s))) (le-ltb (epoch_of s) (epoch_of f) (omega (arith, below.1, live.counts)))
          ∙ ap (λ (t : Bool). pick (is_open f) true false t) (lt-ltb (epoch_of f) (epoch_of s) (omega (arith, below.1, live.counts)))
          ∙ pick_second (is_open f)
    ]

-- the live half's bytes, whichever of the two that is
pub live_bytes : (at half live_at other_at epoch : ℕ) (other_open : Bool) (c : List ℕ) → AreHalves at half live_at other_at
    → IsLive epoch other_open (part live_at half c) (part other_at half c) → live_half at half c ≡ part live_at half c
live_bytes at half live_at other_at epoch other_open c (inl is) live =
    let f : part live_at half c ≡ part at half c = ap (λ (k : ℕ). part k half c) is.0 in
    let s : part other_at half c ≡ part (at + half) half c = ap (λ (k : ℕ). part k half c) is.1 in
    let here : IsLive epoch other_open (part at half c) (part (at + half) half c) = subst (λ (q : List ℕ). IsLive epoch other_open (part at half c) q) s (subst (λ (q : List ℕ). IsLive epoch other_open q (part other_at half c)) f live) in
    ap (λ (o : Option ℕ). live_one o (part at half c) (part (at + half) half c)) (first_lives epoch other_open (part at half c) (part (at + half) half c) here) ∙ sym f
live_bytes at half live_at other_at epoch other_open c (inr is) live =
    let s : part live_at half c ≡ part (at + half) half c = ap (λ (k : ℕ). part k half c) is.0 in
    let f : part other_at half c ≡ part at half c = ap (λ (k : ℕ). part k half c) is.1 in
    let here : IsLive epoch other_open (part (at + half) half c) (part at half c) = subst (λ (q : List ℕ). IsLive epoch other_open (part (at + half) half c) q) f (subst (λ (q : List ℕ). IsLive epoch other_open q (part other_at half c)) s live) in
    ap (λ (o : Option ℕ). live_one o (part at half c) (part (at + half) half c)) (second_lives epoch other_open (part at half c) (part (at + half) half c) here) ∙ sym s

-- so an image tells where its journal goes on
pub live_goes_on : (at half live_at other_at place epoch : ℕ) (other_open : Bool) (c : List ℕ) (m : Map) → AreHalves at half live_at other_at
    → IsLive epoch other_open (part live_at half c) (part other_at half c) → GoesOn place (part live_at half c) m → GoesOnFrom at half place epoch c
live_goes_on at half live_at other_at place epoch other_open c m halves live goes =
    let same = live_bytes at half live_at other_at epoch other_open c halves live in
    record {
      next = sym (ap (λ (q : List ℕ). groups_end q) same ∙ half_ends place (part live_at half c) m goes);
      counts = sym (ap (λ (q : List ℕ). epoch_of q) same ∙ live.counts);
    }

-- an image spells what its live half does, whichever of the two that is
pub live_spells : (at half live_at other_at epoch : ℕ) (other_open : Bool) (c : List ℕ) (m : Map) → AreHalves at half live_at other_at
    → IsLive epoch other_open (part live_at half c) (part other_at half c) → map_of_half (part live_at half c) ≡ Some m → meta_of at half c ≡ Ok m
live_spells at half live_at other_at epoch other_open c m (inl is) live spells =
    let f : part live_at half c ≡ part at half c = ap (λ (k : ℕ). part k half c) is.0 in
    let s : part other_at half c ≡ part (at + half) half c = ap (λ (k : ℕ). part k half c) is.1 in
    let here : IsLive epoch other_open (part at half c) (part (at + half) half c) = subst (λ (q : List ℕ). IsLive epoch other_open (part at half c) q) s (subst (λ (q : List ℕ). IsLive epoch other_open q (part other_at half c)) f live) in
    ap (λ (o : Option ℕ). map_of_live o (part at half c) (part (at + half) half c)) (first_lives epoch other_open (part at half c) (part (at + half) half c) here)
    ∙ ap (λ (o : Option Map). or_damaged 0 o) (ap (λ (q : List ℕ). map_of_half q) (sym f) ∙ spells)
live_spells at half live_at other_at epoch other_open c m (inr is) live spells =
    let s : part live_at half c ≡ part (at + half) half c = ap (λ (k : ℕ). part k half c) is.0 in
    let f : part other_at half c ≡ part at half c = ap (λ (k : ℕ). part k half c) is.1 in
    let here : IsLive epoch other_open (part (at + half) half c) (part at half c) = subst (λ (q : List ℕ). IsLive epoch other_open (part (at + half) half c) q) f (subst (λ (q : List ℕ). IsLive epoch other_open q (part other_at half c)) s live) in
    ap (λ (o : Option ℕ). map_of_live o (part at half c) (part (at + half) half c)) (second_lives epoch other_open (part at half c) (part (at + half) half c) here)
    ∙ ap (λ (o : Option Map). or_damaged 1 o) (ap (λ (q : List ℕ). map_of_half q) (sym s) ∙ spells)

pub epoch_front : (x y : List ℕ) → take 9 y ≡ take 9 x → epoch_of y ≡ epoch_of x
epoch_front x y same =
    let there : (q : List ℕ) → epoch_of (take 9 q) ≡ epoch_of q = λ q.
    ap (λ (k : List ℕ). big_number 8 k) (drop-take 1 8 q) ∙ big_from-take 0 8 8 (drop 1 q) (omega arith) in
    sym (there y) ∙ ap (λ (q : List ℕ). epoch_of q) same ∙ there x

-- a half stays live while its gate and its epoch stay
pub live_stays : (epoch : ℕ) (other_open : Bool) (half next other : List ℕ) → take 45 next ≡ take 45 half → IsLive epoch other_open half other → IsLive epoch other_open next other
live_stays epoch other_open half next other same live = record {
  gate = sym (get_or-take 45 next 0 0 (omega arith)) ∙ ap (λ (q : List ℕ). get_or q 0 0) same ∙ get_or-take 45 half 0 0 (omega arith) ∙ live.gate;
  counts = epoch_front half next (same_front 9 45 half next (omega arith) same) ∙ live.counts;
  beside = live.beside;
  lesser = live.lesser;
}

-- ---- over a disk

module _ (l : Layout) (s₀ : DiskState) (m : Map) (stands : Stands l s₀ m) where
  abbrev live : List ℕ → List ℕ
  live c = part l.live_at l.half c

  abbrev other : List ℕ → List ℕ
  other c = part l.other_at l.half c

  pub same_live : (c : List ℕ) → s₀.may_leave c → live c ≡ live s₀.image
  same_live c left = let p = placed l stands.halves in part_inside l.at (2 * l.half) l.live_at l.half c s₀.image p.live_low p.live_high (stands.same c left).0

  pub same_other : (c : List ℕ) → s₀.may_leave c → other c ≡ other s₀.image
  same_other c left = let p = placed l stands.halves in part_inside l.at (2 * l.half) l.other_at l.half c s₀.image p.other_low p.other_high (stands.same c left).0

  -- an image whose live half keeps its header and spells a map, beside the same other half
  pub spells_by : (c : List ℕ) (n : Map) → other c ≡ other s₀.image → take 45 (live c) ≡ take 45 (live s₀.image) → map_of_half (live c) ≡ Some n → meta_of l.at l.half c ≡ Ok n
  spells_by c n beside header spells =
      let lives = live_stays l.epoch l.other_open (live s₀.image) (live c) (other s₀.image) header stands.live in
      live_spells l.at l.half l.live_at l.other_at l.epoch l.other_open c n stands.halves (subst (λ (q : List ℕ). IsLive l.epoch l.other_open (live c) q) (sym beside) lives) spells

  pub image_spells : meta_of l.at l.half s₀.image ≡ Ok m
  image_spells = spells_by s₀.image m refl refl (half_spells l.place (live s₀.image) m stands.goes_on)

  -- each crash image spells the map
  pub stands_spells : (c : List ℕ) → s₀.may_leave c → meta_of l.at l.half c ≡ Ok m
  stands_spells c left = meta_same l.at l.half c s₀.image (stands.same c left).0 ∙ image_spells

  -- and each tells where the journal goes on
  pub image_goes_on : GoesOnFrom l.at l.half l.place l.epoch s₀.image
  image_goes_on = live_goes_on l.at l.half l.live_at l.other_at l.place l.epoch l.other_open s₀.image m stands.halves stands.live stands.goes_on

  pub stands_goes_on : (c : List ℕ) → s₀.may_leave c → GoesOnFrom l.at l.half l.place l.epoch c
  stands_goes_on c left =
      let same = live_same l.at l.half c s₀.image (stands.same c left).0 in
      record {
        next = image_goes_on.next ∙ sym (ap (λ (q : List ℕ). groups_end q) same);
        counts = image_goes_on.counts ∙ sym (ap (λ (q : List ℕ). epoch_of q) same);
      }

  -- a change outside the halves, whatever the disk answered
  pub stands_apart : (s₁ : DiskState) (a n : ℕ) → (l.at + 2 * l.half ≤ a) ⊎ (a + n ≤ l.at) → s₁.tells ≡ s₀.tells
      → Follows (ChangedWithin a n) s₀.may_leave s₁.may_leave → ChangedWithin a n s₀.image s₁.image → Stands l s₁ m
  stands_apart s₁ a n apart tells crash change =
      let p = placed l stands.halves in
      let now : part l.at (2 * l.half) s₁.image ≡ part l.at (2 * l.half) s₀.image = part_apart a n l.at (2 * l.half) s₀.image s₁.image apart change in
      let here : live s₁.image ≡ live s₀.image = part_inside l.at (2 * l.half) l.live_at l.half s₁.image s₀.image p.live_low p.live_high now in
      let there : other s₁.image ≡ other s₀.image = part_inside l.at (2 * l.half) l.other_at l.half s₁.image s₀.image p.other_low p.other_high now in
      record {
        told = subst (λ b. IsTrue b) (sym tells) stands.told;
        fits = omega (arith, stands.fits, change.size);
        halves = stands.halves;
        same = λ c left.
            let from = crash c left in
            let was = stands.same from.0 from.1 in
            (part_apart a n l.at (2 * l.half) from.0 c apart from.2 ∙ was.0 ∙ sym now, from.2.size ∙ was.1 ∙ sym change.size);
        live = subst (λ (q : List ℕ). IsLive l.epoch l.other_open (live s₁.image) q) (sym there) (subst (λ (q : List ℕ). IsLive l.epoch l.other_open q (other s₀.image)) (sym here) stands.live);
        goes_on = subst (λ (q : List ℕ). GoesOn l.place q m) (sym here) stands.goes_on;
      }
