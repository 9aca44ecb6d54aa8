-- A checkpoint in the other half, over any disk: what a crash leaves at each of its moments, and what it ends in.
use Rattle.std.proofs.Common.{◌≡◌, ◌≢◌, ◌⊎◌, inl, inr, ℕ, Bool, true, false, ◌+◌, ◌-◌, ◌*◌, ◌^◌, ◌≤◌, ◌<◌, List, [], ◌∷◌, length, get_or, refl, sym, ◌∙◌, ap, subst, arith}
use Rattle.std.specs.Prelude.{T, Ok, Err, Result, OnOk, IsTrue}
use Rattle.std.specs.FinMap.Entries.{is_sorted}
use Rattle.std.proofs.lemmas.Bool.{cases_eq}
use Rattle.std.proofs.lemmas.List.{get_or-take}
use Rattle.byteorder.specs.Endian.{big_number}
use Rattle.vdisk.specs.Disk.{DiskState, ChangedWithin, Holds, Only}
use Rattle.vdisk.specs.Ranges.{part, part_part, part_apart, part_written, changed_same, changed_then, changed_wider}
use Rattle.vdisk.specs.Steps.{Keeps, keeps_start, keeps_then, keeps_as, keeps_torn}
use Rattle.byte_map.specs.Words.{Map, bytes_cmp}
use Rattle.meta_log.specs.Short.{are_short}
use Rattle.meta_log.specs.Meta.{epoch_of, map_of_half, meta_of}
use Rattle.meta_log.specs.Ready.{Layout, AreHalves, IsLive, Stands, IsCommitImage}
use Rattle.meta_log.specs.Checkpoint.{body_text, IsCheckpoint, IsHalfImage}
use Rattle.meta_log.specs.Turn.{IsShut, turned}
use Rattle.meta_log.specs.Stream.{WritesWithin}
use Rattle.meta_log.proofs.Groups.{half_spells}
use Rattle.meta_log.proofs.Lives.{Placed, placed, live_spells, same_live, same_other, stands_spells}
use Rattle.meta_log.proofs.Checkpoints.{epoch_there, checkpoint_goes_on}
use Rattle.meta_log.proofs.Halves.{half_gate_inside}

-- the two halves, the other way round
pub swapped : (at half live_at other_at : ℕ) → AreHalves at half live_at other_at → AreHalves at half other_at live_at
swapped at half live_at other_at (inl is) = inr (is.1, is.0)
swapped at half live_at other_at (inr is) = inl (is.1, is.0)

-- an epoch stands behind its gate
pub epoch_behind : (x y : List ℕ) → ChangedWithin 0 1 x y → epoch_of y ≡ epoch_of x
epoch_behind x y change = ap (λ (q : List ℕ). big_number 8 q) change.after

pub gate_part : (at half : ℕ) (x : List ℕ) → 1 ≤ half → get_or (part at half x) 0 0 ≡ get_or (part at 1 x) 0 0
gate_part at half x some =
    let place : at + 0 ≡ at = omega arith in
    sym (get_or-take 1 (part at half x) 0 0 (omega arith)) ∙ ap (λ (q : List ℕ). get_or q 0 0) (part_part at half 0 1 x (omega (arith, some)) ∙ ap (λ (k : ℕ). part k 1 x) place)

module _ (l : Layout) (s₀ : DiskState) (m : Map) (stands : Stands l s₀ m) (some : 1 ≤ l.half) where
  abbrev live : List ℕ → List ℕ
  live c = part l.live_at l.half c

  abbrev other : List ℕ → List ℕ
  other c = part l.other_at l.half c

  places : Placed l
  places = placed l stands.halves

  apart : (l.live_at + l.half ≤ l.other_at) ⊎ (l.other_at + l.half ≤ l.live_at)
  apart = places.apart

  wide : (d c : List ℕ) → ChangedWithin l.other_at l.half d c → ChangedWithin l.at (2 * l.half) d c
  wide d c change = changed_wider l.other_at l.half l.at (2 * l.half) d c places.other_low places.other_high change

  live_kept : (d c : List ℕ) → s₀.may_leave d → ChangedWithin l.other_at l.half d c → live c ≡ live s₀.image
  live_kept d c left change = part_apart l.other_at l.half l.live_at l.half d c apart change ∙ same_live l s₀ m stands d left

  -- whatever the other half holds, the live one counts while the other's gate is closed or its epoch lesser
  still_lives : (d c : List ℕ) → s₀.may_leave d → ChangedWithin l.other_at l.half d c → (get_or (other c) 0 0 ≢ 1) ⊎ (epoch_of (other c) < l.epoch) → meta_of l.at l.half c ≡ Ok m
  still_lives d c left change beside =
      let here = live_kept d c left change in
      let lives : IsLive l.epoch (l_open beside) (live c) (other c) = record {
        gate = ap (λ (q : List ℕ). get_or q 0 0) here ∙ stands.live.gate;
        counts = ap (λ (q : List ℕ). epoch_of q) here ∙ stands.live.counts;
        beside = which beside;
        lesser = less beside;
      } in
      live_spells l.at l.half l.live_at l.other_at l.epoch (l_open beside) c m stands.halves lives (ap (λ (q : List ℕ). map_of_half q) here ∙ half_spells l.place (live s₀.image) m stands.goes_on)
    where
      l_open : (get_or (other c) 0 0 ≢ 1) ⊎ (epoch_of (other c) < l.epoch) → Bool
      l_open (inl shut) = false
      l_open (inr below) = true

      which : (b : (get_or (other c) 0 0 ≢ 1) ⊎ (epoch_of (other c) < l.epoch)) → (get_or (other c) 0 0 ≢ 1) ⊎ (IsTrue (l_open b) × (epoch_of (other c) < l.epoch))
      which (inl shut) = inl shut
      which (inr below) = inr (refl, below)

      less : (b : (get_or (other c) 0 0 ≢ 1) ⊎ (epoch_of (other c) < l.epoch)) → IsTrue (l_open b) → epoch_of (other c) < l.epoch
      less (inl shut) open_gate = absurd cc
      less (inr below) open_gate = below

  -- such an image is one that a commit may leave
  as_before : (n : Map) (d c : List ℕ) → s₀.may_leave d → ChangedWithin l.other_at l.half d c → (get_or (other c) 0 0 ≢ 1) ⊎ (epoch_of (other c) < l.epoch) → IsCommitImage l.at l.half s₀ n c
  as_before n d c left change beside = inl (d, left, wide d c change, still_lives d c left change beside ∙ sym (stands_spells l s₀ m stands d left))

  pub not_turned : (n : Map) → Keeps s₀ s₀ (IsCommitImage l.at l.half s₀ n)
  not_turned n = keeps_start s₀ (IsCommitImage l.at l.half s₀ n) (λ c left. inl (c, left, changed_same l.at (2 * l.half) c, refl))

  gate_inside : (d c : List ℕ) → length d ≡ length s₀.image → ChangedWithin l.other_at 1 d c → ChangedWithin 0 1 (other d) (other c)
  gate_inside d c same change = half_gate_inside l.other_at l.half d c some (omega (arith, same, stands.fits, places.other_high)) change

  -- ---- a gate that may be open is closed

  module _ (may_be_open : IsTrue l.other_open) (s₁ : DiskState) (within : WritesWithin l.other_at 1 s₀ s₁) where
    pub shutting : (n : Map) → Keeps s₀ s₁ (IsCommitImage l.at l.half s₀ n)
    shutting n = keeps_torn s₀ s₁ l.other_at 1 s₀.may_leave (IsCommitImage l.at l.half s₀ n) within.torn (λ c left. left) (λ d c change left.
        let inside = gate_inside d c (stands.same d left).1 change in
        let below = stands.live.lesser may_be_open in
        let epoch : epoch_of (other c) ≡ epoch_of (other s₀.image) = epoch_behind (other d) (other c) inside ∙ ap (λ (q : List ℕ). epoch_of q) (same_other l s₀ m stands d left) in
        as_before n d c left (changed_wider l.other_at 1 l.other_at l.half d c (omega arith) (omega (arith, some)) change) (inr (omega (arith, below, epoch))))

    pub shut : Holds s₀.image l.other_at (0 ∷ []) s₁.image → Only s₁.image s₁.may_leave → IsShut l s₀ s₁
    shut written only =
        let change = changed_wider l.other_at 1 l.other_at l.half s₀.image s₁.image (omega arith) (omega (arith, some)) within.change in
        let closed : get_or (other s₁.image) 0 0 ≡ 0 =
        gate_part l.other_at l.half s₁.image some ∙ ap (λ (q : List ℕ). get_or q 0 0) (part_written l.other_at s₀.image (0 ∷ []) s₁.image (omega (arith, some, stands.fits, places.other_high)) written) in
        record {
          tells = within.torn.tells;
          change = change;
          from = λ c left.
              let is = only c left in (
                s₀.image,
                s₀.reads,
                subst (λ (q : List ℕ). ChangedWithin l.other_at l.half s₀.image q) (sym is) change,
                λ open_gate. absurd (omega (arith, open_gate, closed, ap (λ (q : List ℕ). get_or (other q) 0 0) is)),
              );
        }

  -- ---- a gate that stands closed is left alone

  pub shut_already : l.other_open ≡ false → IsShut l s₀ s₀
  shut_already closed = record {
    tells = refl;
    change = changed_same l.other_at l.half s₀.image;
    from = λ c left. (
      c,
      left,
      changed_same l.other_at l.half c,
      λ open_gate. elim stands.live.beside [
        | inl shut_gate ↦ shut_gate (sym (ap (λ (q : List ℕ). get_or q 0 0) (same_other l s₀ m stands c left)) ∙ open_gate)
        | inr below ↦ let is = below.0 in absurd cc
      ],
    );
  }

  -- ---- the checkpoint is written

  module _ (n : Map) (late : l.epoch + 1 < 2 ^ 63) (few : length (body_text n) < 2 ^ 32) (sorted : T (is_sorted bytes_cmp n)) (short : are_short n ≡ true)
      (s₁ : DiskState) (shut_now : IsShut l s₀ s₁) (before : Keeps s₀ s₁ (IsCommitImage l.at l.half s₀ n)) (s₂ : DiskState) where
    abbrev next : ℕ
    next = l.epoch + 1

    turned_lives : (c : List ℕ) → ChangedWithin l.other_at l.half s₀.image c → IsCheckpoint next n (other c) → get_or (other c) 0 0 ≡ 1 → IsLive next true (other c) (live c)
    turned_lives c change is opened =
        let below : epoch_of (live c) < next = omega (arith, ap (λ (q : List ℕ). epoch_of q) (live_kept s₀.image c s₀.reads change), stands.live.counts) in
        record {
          gate = opened;
          counts = epoch_there next n (omega arith) late few sorted short (other c) is;
          beside = inr (refl, below);
          lesser = λ _. below;
        }

    turned_spells : (c : List ℕ) → ChangedWithin l.other_at l.half s₀.image c → IsCheckpoint next n (other c) → get_or (other c) 0 0 ≡ 1 → meta_of l.at l.half c ≡ Ok n
    turned_spells c change is opened =
        live_spells l.at l.half l.other_at l.live_at next true c n (swapped l.at l.half l.live_at l.other_at stands.halves) (turned_lives c change is opened)
        (half_spells (45 + length (body_text n)) (other c) n (checkpoint_goes_on next n (omega arith) late few sorted short (other c) is))

    pub turning : Keeps s₁ s₂ (IsHalfImage l.other_at l.half s₁ next n) → Keeps s₀ s₂ (IsCommitImage l.at l.half s₀ n)
    turning run = keeps_then s₀ s₁ s₂ (IsCommitImage l.at l.half s₀ n) before (keeps_as s₁ s₂ (IsHalfImage l.other_at l.half s₁ next n) (IsCommitImage l.at l.half s₀ n) each run)
      where
        each : (c : List ℕ) → IsHalfImage l.other_at l.half s₁ next n c → IsCommitImage l.at l.half s₀ n c
        each c (inl torn) =
            let from = shut_now.from torn.0 torn.1 in
            let size : length torn.0 ≡ length s₀.image = from.2.size ∙ (stands.same from.0 from.1).1 in
            let range : l.other_at + l.half ≤ length torn.0 = omega (arith, size, stands.fits, places.other_high) in
            let gate : get_or (other c) 0 0 ≡ get_or (other torn.0) 0 0 =
            gate_part l.other_at l.half c some
            ∙ ap (λ (q : List ℕ). get_or q 0 0) (part_apart (l.other_at + 1) (l.half - 1) l.other_at 1 torn.0 c (inl (omega arith)) torn.2)
            ∙ sym (gate_part l.other_at l.half torn.0 some) in
            as_before n from.0 c from.1
            (changed_then l.other_at l.half from.0 torn.0 c from.2 (changed_wider (l.other_at + 1) (l.half - 1) l.other_at l.half torn.0 c (omega arith) (omega (arith, some)) torn.2))
            (inl (λ open_gate. from.3 (sym gate ∙ open_gate)))
        each c (inr written) =
            let change = changed_then l.other_at l.half s₀.image s₁.image c shut_now.change written.0 in
            elim (cases_eq (get_or (other c) 0 0) 1) [
              | inl opened ↦ inr (wide s₀.image c change, turned_spells c change written.1 opened)
              | inr closed ↦ as_before n s₀.image c s₀.reads change (inl closed)
            ]

    module _ (change : ChangedWithin l.other_at l.half s₁.image s₂.image) (tells : s₂.tells ≡ s₁.tells) (is : IsCheckpoint next n (other s₂.image)) (opened : get_or (other s₂.image) 0 0 ≡ 1)
        (only : Only s₂.image s₂.may_leave) where
      from_start : ChangedWithin l.other_at l.half s₀.image s₂.image
      from_start = changed_then l.other_at l.half s₀.image s₁.image s₂.image shut_now.change change

      pub turned_stands : Stands (turned l (45 + length (body_text n))) s₂ n
      turned_stands = record {
        told = subst (λ b. IsTrue b) (sym (tells ∙ shut_now.tells)) stands.told;
        fits = omega (arith, stands.fits, from_start.size);
        halves = swapped l.at l.half l.live_at l.other_at stands.halves;
        same = λ c left. (ap (λ (q : List ℕ). part l.at (2 * l.half) q) (only c left), ap length (only c left));
        live = turned_lives s₂.image from_start is opened;
        goes_on = checkpoint_goes_on next n (omega arith) late few sorted short (other s₂.image) is;
      }

      pub turned_image : (c : List ℕ) → s₂.may_leave c → (meta_of l.at l.half c ≡ Ok n) × ChangedWithin l.at (2 * l.half) s₀.image c
      turned_image c left =
          let same = only c left in (
            ap (λ (q : List ℕ). meta_of l.at l.half q) same ∙ turned_spells s₂.image from_start is opened,
            subst (λ (q : List ℕ). ChangedWithin l.at (2 * l.half) s₀.image q) (sym same) (wide s₀.image s₂.image from_start),
          )

pub on_ok_both : {T E P Q R : Type 0} (r : Result T E) → (P → Q → R) → OnOk r P → OnOk r Q → OnOk r R
on_ok_both (Ok x) both p q = both p q
on_ok_both (Err e) both p q = p
