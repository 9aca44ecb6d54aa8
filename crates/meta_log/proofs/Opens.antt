-- A disk while its journal is opened.
use Rattle.std.proofs.Common.{◌≡◌, ◌≢◌, ◌⊎◌, inl, inr, ℕ, Bool, true, false, not, nat_lt, ◌+◌, ◌*◌, ◌≤◌, ◌<◌, List, length, get_or, take, drop, refl, sym, ◌∙◌, ap, subst, arith}
use Rattle.std.specs.Prelude.{◌&&◌, ◌||◌, ◌==◌, if◌then◌else◌, IsTrue, Option, Some, None, Ok, Err}
use Rattle.std.proofs.lemmas.Bool.{ltb-true, eqb-true, eqb-false, true≢false}
use Rattle.std.proofs.lemmas.List.{take-take}
use Rattle.vdisk.specs.Disk.{DiskState, Elapses, Untouched, Only}
use Rattle.vdisk.specs.Ranges.{part}
use Rattle.vdisk.specs.Steps.{keeps_then, keeps_as, keeps_call, keeps_read}
use Rattle.byte_map.specs.Words.{Map}
use Rattle.meta_log.specs.Meta.{is_open, epoch_of, map_of_half, live_of, map_of_live, or_damaged, meta_of}
use Rattle.meta_log.specs.Ready.{AreHalves, IsLive, GoesOn, GoesOnFrom, Stands}
use Rattle.meta_log.specs.Opened.{IsOnlyRead, is_live, first_choice, second_choice, IsChoice, IsChosen, chosen_layout}
use Rattle.meta_log.specs.declared.opening.HalfHeader.{HalfHeader}
use Rattle.meta_log.specs.declared.opening.Choice.{Choice}
use Rattle.meta_log.specs.declared.fault.MetaFault.TheVariants.{Damaged}
use Rattle.meta_log.proofs.Groups.{half_spells}
use Rattle.meta_log.proofs.Lives.{live_goes_on}
use Rattle.meta_log.proofs.Fronts.{get_same, number_same}

-- ---- syncs and reads

pub only_synced : (a b : DiskState) → Elapses a b → b.image ≡ a.image → ((c : List ℕ) → b.may_leave c → a.may_leave c) → a.faults ≤ b.faults → IsOnlyRead a b
only_synced a b time image crash later = record { keeps = keeps_call a b a.may_leave time crash; image = image; later = later }

pub only_read : (a b : DiskState) → Untouched a b → a.faults ≤ b.faults → IsOnlyRead a b
only_read a b same later = record { keeps = keeps_read a b a.may_leave same (λ c left. left); image = same.image; later = later }

pub only_then : (a b c : DiskState) → IsOnlyRead a b → IsOnlyRead b c → IsOnlyRead a c
only_then a b c first second = record {
  keeps = keeps_then a b c a.may_leave first.keeps (keeps_as b c b.may_leave a.may_leave first.keeps.now second.keeps);
  image = second.image ∙ first.image;
  later = omega (arith, first.later, second.later);
}

-- what a crash leaves after a sync, it leaves after reads
pub only_still : (a b : DiskState) (image : List ℕ) → IsOnlyRead a b → Only image a.may_leave → Only image b.may_leave
only_still a b image read only = λ c left. only c (read.keeps.now c left)

-- ---- the live half

module _ (at half : ℕ) (image : List ℕ) (long : 45 ≤ half) where
  front_same : take 9 (part at 9 image) ≡ take 9 (part at half image)
  front_same = take-take 9 9 (drop at image) (omega arith) ∙ sym (take-take 9 half (drop at image) (omega (arith, long)))

  pub front_open : is_open (part at 9 image) ≡ is_open (part at half image)
  front_open = ap (λ (gate : ℕ). gate == 1) (get_same 9 0 (part at 9 image) (part at half image) (omega arith) front_same)

  pub front_epoch : epoch_of (part at 9 image) ≡ epoch_of (part at half image)
  front_epoch = number_same 9 1 8 (part at 9 image) (part at half image) (omega arith) front_same

live_tells : (a b : Bool) (e f : ℕ) → (a && (not b || nat_lt f e)) ≡ true → (a ≡ true) × (b ≡ true → f < e)
live_tells true true e f live = (refl, λ _. ltb-true f e live)
live_tells true false e f live = (refl, λ open_gate. absurd (true≢false (sym open_gate)))
live_tells false b e f live = absurd (true≢false (sym live))

abbrev chosen_by : Bool → Bool → Option ℕ
chosen_by a b = if a then Some 0 else (if b then Some 1 else None)

abbrev live_by : Bool → Bool → ℕ → ℕ → Option ℕ
live_by a b e f = if a && b then (if nat_lt f e then Some 0 else (if nat_lt e f then Some 1 else None)) else (if a then Some 0 else (if b then Some 1 else None))

live_is : (a b : Bool) (e f : ℕ) → live_by a b e f ≡ chosen_by (a && (not b || nat_lt f e)) (b && (not a || nat_lt e f))
live_is true true e f = refl
live_is true false e f = refl
live_is false true e f = refl
live_is false false e f = refl

module _ (at half : ℕ) (image : List ℕ) (first second : HalfHeader)
    (gate : first.is_open ≡ is_open (part at half image)) (epoch : first.epoch ≡ epoch_of (part at half image))
    (gate₂ : second.is_open ≡ is_open (part (at + half) half image)) (epoch₂ : second.epoch ≡ epoch_of (part (at + half) half image)) where
  abbrev one : List ℕ
  one = part at half image

  abbrev two : List ℕ
  two = part (at + half) half image

  by_headers : live_of one two ≡ chosen_by (is_live first second) (is_live second first)
  by_headers =
      live_is (is_open one) (is_open two) (epoch_of one) (epoch_of two)
      ∙ (λ i. chosen_by (sym gate i && (not (sym gate₂ i) || nat_lt (sym epoch₂ i) (sym epoch i))) (sym gate₂ i && (not (sym gate i) || nat_lt (sym epoch i) (sym epoch₂ i))))

  pub none_live : is_live first second ≡ false → is_live second first ≡ false → meta_of at half image ≡ Err 2
  none_live first_dead second_dead =
      ap (λ (o : Option ℕ). map_of_live o one two) (by_headers ∙ (λ i. chosen_by (first_dead i) (second_dead i)))

  open_is : (gate : ℕ) → (gate == 1) ≡ true → gate ≡ 1
  open_is gate test = eqb-true gate 1 test

  beside_is : (epoch : ℕ) (b : Bool) (half other : List ℕ) → b ≡ is_open other → (b ≡ true → epoch_of other < epoch) → (get_or other 0 0 ≢ 1) ⊎ (IsTrue b × (epoch_of other < epoch))
  beside_is epoch true half other same lesser = inr (refl, lesser refl)
  beside_is epoch false half other same lesser = inl (eqb-false (get_or other 0 0) 1 (sym same))

  pub first_live : is_live first second ≡ true → IsChosen at half image (first_choice at half second.is_open)
  first_live live =
      let tells = live_tells first.is_open second.is_open first.epoch second.epoch live in
      let lesser : second.is_open ≡ true → epoch_of two < epoch_of one = λ is. let low = tells.1 is in omega (arith, low, epoch, epoch₂) in
      record {
        live = record { gate = open_is (get_or one 0 0) (sym gate ∙ tells.0); counts = refl; beside = beside_is (epoch_of one) second.is_open one two gate₂ lesser; lesser = lesser };
        spells = ap (λ (o : Option ℕ). map_of_live o one two) (by_headers ∙ ap (λ (t : Bool). chosen_by t (is_live second first)) live);
      }

  pub second_live : is_live first second ≡ false → is_live second first ≡ true → IsChosen at half image (second_choice at half first.is_open)
  second_live dead live =
      let tells = live_tells second.is_open first.is_open second.epoch first.epoch live in
      let lesser : first.is_open ≡ true → epoch_of one < epoch_of two = λ is. let low = tells.1 is in omega (arith, low, epoch, epoch₂) in
      record {
        live = record { gate = open_is (get_or two 0 0) (sym gate₂ ∙ tells.0); counts = refl; beside = beside_is (epoch_of two) first.is_open two one gate lesser; lesser = lesser };
        spells = ap (λ (o : Option ℕ). map_of_live o one two) (by_headers ∙ (λ i. chosen_by (dead i) (live i)));
      }

  pub chosen : (choice : Choice) → IsChoice at half first second choice → IsChosen at half image choice
  chosen choice is = elim is [
    | inl a ↦ subst (λ (c : Choice). IsChosen at half image c) (sym a.1) (first_live a.0)
    | inr b ↦ subst (λ (c : Choice). IsChosen at half image c) (sym b.2) (second_live b.0 b.1)
  ]

pub choice_halves : (at half : ℕ) (first second : HalfHeader) (choice : Choice) → IsChoice at half first second choice → AreHalves at half choice.live_at choice.other_at
choice_halves at half first second choice is = elim is [
  | inl a ↦ inl (ap (λ (c : Choice). c.live_at) a.1, ap (λ (c : Choice). c.other_at) a.1)
  | inr b ↦ inr (ap (λ (c : Choice). c.live_at) b.2, ap (λ (c : Choice). c.other_at) b.2)
]

-- by headers that were read when the disk was synced
module _ (at half : ℕ) (old now : List ℕ) (same : now ≡ old) (long : 45 ≤ half) (first second : HalfHeader)
    (gate : first.is_open ≡ is_open (part at 9 now)) (epoch : first.epoch ≡ epoch_of (part at 9 now))
    (gate₂ : second.is_open ≡ is_open (part (at + half) 9 now)) (epoch₂ : second.epoch ≡ epoch_of (part (at + half) 9 now)) where
  gate_is : first.is_open ≡ is_open (part at half old)
  gate_is = gate ∙ ap (λ (x : List ℕ). is_open (part at 9 x)) same ∙ front_open at half old long

  epoch_is : first.epoch ≡ epoch_of (part at half old)
  epoch_is = epoch ∙ ap (λ (x : List ℕ). epoch_of (part at 9 x)) same ∙ front_epoch at half old long

  gate₂_is : second.is_open ≡ is_open (part (at + half) half old)
  gate₂_is = gate₂ ∙ ap (λ (x : List ℕ). is_open (part (at + half) 9 x)) same ∙ front_open (at + half) half old long

  epoch₂_is : second.epoch ≡ epoch_of (part (at + half) half old)
  epoch₂_is = epoch₂ ∙ ap (λ (x : List ℕ). epoch_of (part (at + half) 9 x)) same ∙ front_epoch (at + half) half old long

  pub headers_chosen : (choice : Choice) → IsChoice at half first second choice → IsChosen at half old choice
  headers_chosen choice is = chosen at half old first second gate_is epoch_is gate₂_is epoch₂_is choice is

  pub headers_none : (is_live first second ≡ false) × (is_live second first ≡ false) → (h : ℕ) → Damaged 2 ≡ Damaged h → meta_of at half old ≡ Err h
  headers_none dead h is =
      let two : ℕ = 2 in
      let number : two ≡ h = cc in
      subst (λ (k : ℕ). meta_of at half old ≡ Err k) number (none_live at half old first second gate_is epoch_is gate₂_is epoch₂_is dead.0 dead.1)

-- ---- the journal stands

module _ (s₀ s₁ s₂ : DiskState) (at half : ℕ) (choice : Choice) (place epoch : ℕ) (m : Map) where
  pub opened_stands : IsTrue s₀.tells → at + 2 * half ≤ length s₀.image → IsOnlyRead s₀ s₁ → Only s₀.image s₁.may_leave → IsOnlyRead s₁ s₂
      → AreHalves at half choice.live_at choice.other_at → IsChosen at half s₀.image choice
      → epoch ≡ epoch_of (part choice.live_at half s₁.image) → GoesOn place (part choice.live_at half s₁.image) m
      → Stands (chosen_layout at half choice place epoch) s₂ m
  opened_stands told fits first only₁ second halves is counts goes =
      let read = only_then s₀ s₁ s₂ first second in
      let only = only_still s₁ s₂ s₀.image second only₁ in
      let same : s₂.image ≡ s₀.image = read.image in
      record {
        told = read.keeps.tells ∙ told;
        fits = subst (λ (x : List ℕ). at + 2 * half ≤ length x) (sym same) fits;
        halves = halves;
        same = λ c left.
            let now : c ≡ s₂.image = only c left ∙ sym same in
            (ap (λ (x : List ℕ). part at (2 * half) x) now, ap (λ (x : List ℕ). length x) now);
        live = subst (λ (x : List ℕ). IsLive epoch choice.other_open (part choice.live_at half x) (part choice.other_at half x)) (sym same)
            (subst (λ (e : ℕ). IsLive e choice.other_open (part choice.live_at half s₀.image) (part choice.other_at half s₀.image))
            (sym (counts ∙ ap (λ (x : List ℕ). epoch_of (part choice.live_at half x)) first.image)) is.live);
        goes_on = subst (λ (x : List ℕ). GoesOn place (part choice.live_at half x) m) (sym second.image) goes;
      }

-- ---- what the live half spells

module _ (at half : ℕ) (image now : List ℕ) (same : now ≡ image) (choice : Choice) (is : IsChosen at half image choice) where
  pub chosen_spells : (place : ℕ) (m : Map) → GoesOn place (part choice.live_at half now) m → meta_of at half image ≡ Ok m
  chosen_spells place m goes =
      is.spells ∙ ap (λ (o : Option Map). or_damaged choice.number o)
      (ap (λ (x : List ℕ). map_of_half (part choice.live_at half x)) (sym same) ∙ half_spells place (part choice.live_at half now) m goes)

  pub chosen_goes_on : (place epoch : ℕ) (m : Map) → AreHalves at half choice.live_at choice.other_at → epoch ≡ epoch_of (part choice.live_at half now)
      → GoesOn place (part choice.live_at half now) m → GoesOnFrom at half place epoch image
  chosen_goes_on place epoch m halves counts goes =
      let here : epoch_of (part choice.live_at half image) ≡ epoch = ap (λ (x : List ℕ). epoch_of (part choice.live_at half x)) (sym same) ∙ sym counts in
      live_goes_on at half choice.live_at choice.other_at place epoch choice.other_open image m halves
      (subst (λ (e : ℕ). IsLive e choice.other_open (part choice.live_at half image) (part choice.other_at half image)) here is.live)
      (subst (λ (x : List ℕ). GoesOn place (part choice.live_at half x) m) same goes)

  pub chosen_damaged : (h : ℕ) → (h ≡ choice.number) × (map_of_half (part choice.live_at half now) ≡ None) → meta_of at half image ≡ Err h
  chosen_damaged h found =
      is.spells ∙ ap (λ (o : Option Map). or_damaged choice.number o)
      (ap (λ (x : List ℕ). map_of_half (part choice.live_at half x)) (sym same) ∙ found.1)
      ∙ ap (λ (k : ℕ). Err k) (sym found.0)
