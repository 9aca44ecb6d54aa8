-- What a crash leaves of a write outside the halves and a commit behind it.
use Rattle.std.proofs.Common.{◌≡◌, ◌⊎◌, inl, inr, ⊎_elim, ℕ, ◌+◌, ◌*◌, ◌≤◌, List, length, ◌∙◌}
use Rattle.std.specs.Prelude.{Ok}
use Rattle.vdisk.specs.Disk.{DiskState, Holds}
use Rattle.vdisk.specs.Ranges.{part, part_apart, part_written}
use Rattle.vdisk.specs.Steps.{Keeps, TornWithin, keeps_as, keeps_then, keeps_torn}
use Rattle.byte_map.specs.Words.{Map}
use Rattle.meta_log.specs.Meta.{meta_of}
use Rattle.meta_log.specs.Ready.{IsCommitImage}
use Rattle.meta_log.specs.Client.{SpellsEither}

module _ (journal half : ℕ) (s₀ s₁ : DiskState) (m n : Map) (at : ℕ) (bytes : List ℕ)
    (spells : (c : List ℕ) → s₀.may_leave c → meta_of journal half c ≡ Ok m)
    (told : (c d : List ℕ) → part journal (2 * half) c ≡ part journal (2 * half) d → meta_of journal half c ≡ meta_of journal half d)
    (apart : (journal + 2 * half ≤ at) ⊎ (at + length bytes ≤ journal))
    (torn : TornWithin at (length bytes) s₀ s₁) where
  abbrev Q : List ℕ → Type 0
  Q = SpellsEither journal half m n at bytes

  wrote : Keeps s₀ s₁ (λ c. meta_of journal half c ≡ Ok m)
  wrote =
      let P : List ℕ → Type 0 = λ c. meta_of journal half c ≡ Ok m in
      keeps_torn s₀ s₁ at (length bytes) P P torn spells (λ d c change was. told c d (part_apart at (length bytes) journal (2 * half) d c apart change) ∙ was)

  -- after the write alone
  pub written_keeps : Keeps s₀ s₁ Q
  written_keeps = keeps_as s₀ s₁ (λ c. meta_of journal half c ≡ Ok m) Q (λ c old. inl old) wrote

  module _ (holds : Holds s₀.image at bytes s₁.image) (range : at + length bytes ≤ length s₀.image) (s₂ : DiskState) (run : Keeps s₁ s₂ (IsCommitImage journal half s₁ n)) where
    -- after the commit too
    pub committed_keeps : Keeps s₀ s₂ Q
    committed_keeps = keeps_then s₀ s₁ s₂ Q written_keeps (keeps_as s₁ s₂ (IsCommitImage journal half s₁ n) Q (λ c image. ⊎_elim
        (λ old. inl (old.3 ∙ wrote.now old.0 old.1))
        (λ new. inr (
          new.1,
          part_apart journal (2 * half) at (length bytes) s₁.image c (⊎_elim (λ high. inr high) (λ low. inl low) apart) new.0 ∙ part_written at s₀.image bytes s₁.image range holds,
        ))
        image) run)
