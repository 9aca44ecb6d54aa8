-- A fresh journal, over any disk: what a crash leaves while it is made, and what it ends in.
use Rattle.std.proofs.Common.{◌≡◌, ◌≢◌, inl, inr, ℕ, Bool, true, false, ◌+◌, ◌-◌, ◌*◌, ◌≤◌, List, [], ◌∷◌, length, get_or, nat_lt, refl, sym, ◌∙◌, ap, subst, arith}
use Rattle.std.specs.Prelude.{◌&&◌, if◌then◌else◌, Some, None, Ok, Err, Option, IsTrue}
use Rattle.std.proofs.lemmas.Bool.{cases_eq, ne_eqb}
use Rattle.vdisk.specs.Disk.{DiskState, ChangedWithin, Holds, Only}
use Rattle.vdisk.specs.Ranges.{part, part_apart, part_written, changed_same, changed_then, changed_wider}
use Rattle.vdisk.specs.Steps.{Keeps, TornWithin, keeps_then, keeps_as, keeps_torn}
use Rattle.meta_log.specs.Meta.{is_open, epoch_of, map_of_live, meta_of}
use Rattle.meta_log.specs.Ready.{IsLive, Stands}
use Rattle.meta_log.specs.Checkpoint.{IsCheckpoint, IsHalfImage}
use Rattle.meta_log.specs.Format.{fresh, IsFormatImage}
use Rattle.meta_log.proofs.Groups.{half_spells}
use Rattle.meta_log.proofs.Lives.{live_spells}
use Rattle.meta_log.proofs.Checkpoints.{epoch_there, checkpoint_goes_on}
use Rattle.meta_log.proofs.Turns.{gate_part}

closed_pick : (a b : Bool) (x : Option ℕ) → a ≡ false → b ≡ false → (if a && b then x else (if a then Some 0 else (if b then Some 1 else None))) ≡ None
closed_pick false false x p q = refl
closed_pick true b x p q = absurd cc
closed_pick false true x p q = absurd cc

module _ (at half : ℕ) (s₀ : DiskState) (least : 45 ≤ half) (range : at + 2 * half ≤ length s₀.image) where
  abbrev first : List ℕ → List ℕ
  first c = part at half c

  abbrev second : List ℕ → List ℕ
  second c = part (at + half) half c

  abbrev P : List ℕ → Type 0
  P = IsFormatImage at half s₀

  none_open : (c : List ℕ) → get_or (first c) 0 0 ≢ 1 → get_or (second c) 0 0 ≢ 1 → meta_of at half c ≡ Err 2
  none_open c one two =
      let f = first c in
      let s = second c in
      let pick = if nat_lt (epoch_of s) (epoch_of f) then Some 0 else (if nat_lt (epoch_of f) (epoch_of s) then Some 1 else None) in
      ap (λ (o : Option ℕ). map_of_live o f s) (closed_pick (is_open f) (is_open s) pick (ne_eqb (get_or f 0 0) 1 one) (ne_eqb (get_or s 0 0) 1 two))

  lives : (c : List ℕ) → IsCheckpoint 1 [] (first c) → get_or (first c) 0 0 ≡ 1 → get_or (second c) 0 0 ≢ 1 → IsLive 1 false (first c) (second c)
  lives c is opened shut = record {
    gate = opened;
    counts = epoch_there 1 [] (omega arith) (omega arith) (omega arith) tt refl (first c) is;
    beside = inl shut;
    lesser = λ wrong. absurd cc;
  }

  empty_there : (c : List ℕ) → IsCheckpoint 1 [] (first c) → get_or (first c) 0 0 ≡ 1 → get_or (second c) 0 0 ≢ 1 → meta_of at half c ≡ Ok []
  empty_there c is opened shut =
      live_spells at half at (at + half) 1 false c [] (inl (refl, refl)) (lives c is opened shut)
      (half_spells 45 (first c) [] (checkpoint_goes_on 1 [] (omega arith) (omega arith) (omega arith) tt refl (first c) is))

  module _ (s₁ : DiskState) (torn₁ : TornWithin (at + half) 1 s₀ s₁) where
    pub second_closing : Keeps s₀ s₁ P
    second_closing = keeps_torn s₀ s₁ (at + half) 1 s₀.may_leave P torn₁ (λ c left. left) (λ d c change left. inl (d, c, left, change, changed_same at 1 c))

    module _ (s₂ : DiskState) (torn₂ : TornWithin at 1 s₁ s₂) where
      pub first_closing : Keeps s₀ s₂ P
      first_closing = keeps_then s₀ s₁ s₂ P second_closing (keeps_torn s₁ s₂ at 1 s₁.may_leave P torn₂ (λ c left. left) (λ e c change left.
          let from = torn₁.now e left in
          inl (from.0, e, from.1, from.2, change)))

      module _ (change₁ : ChangedWithin (at + half) 1 s₀.image s₁.image) (written₁ : Holds s₀.image (at + half) (0 ∷ []) s₁.image)
          (change₂ : ChangedWithin at 1 s₁.image s₂.image) (written₂ : Holds s₁.image at (0 ∷ []) s₂.image) (only₂ : Only s₂.image s₂.may_leave) (s₃ : DiskState) where
        whole : ChangedWithin at (2 * half) s₀.image s₂.image
        whole = changed_then at (2 * half) s₀.image s₁.image s₂.image
            (changed_wider (at + half) 1 at (2 * half) s₀.image s₁.image (omega arith) (omega (arith, least)) change₁)
            (changed_wider at 1 at (2 * half) s₁.image s₂.image (omega arith) (omega (arith, least)) change₂)

        first_shut : get_or (first s₂.image) 0 0 ≡ 0
        first_shut = gate_part at half s₂.image (omega (arith, least)) ∙ ap (λ (q : List ℕ). get_or q 0 0) (part_written at s₁.image (0 ∷ []) s₂.image (omega (arith, least, range, change₁.size)) written₂)

        second_shut : get_or (second s₂.image) 0 0 ≡ 0
        second_shut =
            ap (λ (q : List ℕ). get_or q 0 0) (part_apart at 1 (at + half) half s₁.image s₂.image (inr (omega (arith, least))) change₂)
            ∙ gate_part (at + half) half s₁.image (omega (arith, least))
            ∙ ap (λ (q : List ℕ). get_or q 0 0) (part_written (at + half) s₀.image (0 ∷ []) s₁.image (omega (arith, least, range)) written₁)

        second_stays : (c : List ℕ) → ChangedWithin at half s₂.image c → get_or (second c) 0 0 ≢ 1
        second_stays c change open_gate = absurd (omega (
          arith,
          open_gate,
          second_shut,
          ap (λ (q : List ℕ). get_or q 0 0) (part_apart at half (at + half) half s₂.image c (inr (omega arith)) change),
        ))

        wide : (c : List ℕ) → ChangedWithin at half s₂.image c → ChangedWithin at (2 * half) s₀.image c
        wide c change = changed_then at (2 * half) s₀.image s₂.image c whole (changed_wider at half at (2 * half) s₂.image c (omega arith) (omega arith) change)

        each : (c : List ℕ) → IsHalfImage at half s₂ 1 [] c → P c
        each c (inl torn) =
            let behind : ChangedWithin (at + 1) (half - 1) s₂.image c = subst (λ (q : List ℕ). ChangedWithin (at + 1) (half - 1) q c) (only₂ torn.0 torn.1) torn.2 in
            let change = changed_wider (at + 1) (half - 1) at half s₂.image c (omega arith) (omega (arith, least)) behind in
            let gate : get_or (first c) 0 0 ≡ get_or (first s₂.image) 0 0 =
            gate_part at half c (omega (arith, least)) ∙ ap (λ (q : List ℕ). get_or q 0 0) (part_apart (at + 1) (half - 1) at 1 s₂.image c (inl (omega arith)) behind)
            ∙ sym (gate_part at half s₂.image (omega (arith, least))) in
            inr (wide c change, inl (none_open c (λ open_gate. absurd (omega (arith, open_gate, gate, first_shut))) (second_stays c change)))
        each c (inr written) = inr (
          wide c written.0,
          elim (cases_eq (get_or (first c) 0 0) 1) [
            | inl opened ↦ inr (empty_there c written.1 opened (second_stays c written.0))
            | inr shut ↦ inl (none_open c shut (second_stays c written.0))
          ],
        )

        pub emptying : Keeps s₂ s₃ (IsHalfImage at half s₂ 1 []) → Keeps s₀ s₃ P
        emptying run = keeps_then s₀ s₂ s₃ P first_closing (keeps_as s₂ s₃ (IsHalfImage at half s₂ 1 []) P each run)

        pub fresh_stands : IsTrue s₃.tells → ChangedWithin at half s₂.image s₃.image → IsCheckpoint 1 [] (first s₃.image) → get_or (first s₃.image) 0 0 ≡ 1 → Only s₃.image s₃.may_leave → Stands (fresh at half) s₃ []
        fresh_stands told change is opened only = record {
          told = told;
          fits = omega (arith, range, whole.size, change.size);
          halves = inl (refl, refl);
          same = λ c left. (ap (λ (q : List ℕ). part at (2 * half) q) (only c left), ap length (only c left));
          live = lives s₃.image is opened (second_stays s₃.image change);
          goes_on = checkpoint_goes_on 1 [] (omega arith) (omega arith) (omega arith) tt refl (first s₃.image) is;
        }
