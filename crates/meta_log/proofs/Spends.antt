-- What a commit spends, as the images before and after it tell.
use Rattle.std.specs.Prelude.{◌≡◌, ◌+◌, ◌≤◌, ◌<◌, ◌&&◌, nat_lt, if◌then◌else◌, ℕ, Bool, true, false, refl}
use Rattle.std.proofs.Common.{sym, ◌∙◌, ap}
use Rattle.std.proofs.lemmas.Bool.{lt-ltb, le-ltb}
use Rattle.vdisk.specs.declared.disk.Disk.{Ghosts}
use Rattle.byte_map.specs.Words.{Map}
use Rattle.meta_log.specs.Meta.{epoch_in}
use Rattle.meta_log.specs.Log.{IsLog, state_of, staged_of, layout_of, epochs_for, epochs_taken, HasSpentEpochs}
use Rattle.meta_log.specs.declared.log.MetaLog.{MetaLog}
use Rattle.meta_log.proofs.Lives.{image_goes_on}

abbrev taken : Bool → ℕ
taken t = if t then 1 else 0

-- no epoch where the records fit, and one where they do not
pub none_taken : (half place bytes : ℕ) → place + (37 + bytes) ≤ half → epochs_for half place bytes ≡ 0
none_taken half place bytes fits =
    ap (λ (t : Bool). taken (nat_lt 0 bytes && t)) (le-ltb half (place + (37 + bytes)) fits) ∙ by (nat_lt 0 bytes)
  where
    by : (t : Bool) → taken (t && false) ≡ 0
    by true = refl
    by false = refl

pub one_taken : (half place bytes : ℕ) → 0 < bytes → half < place + (37 + bytes) → epochs_for half place bytes ≡ 1
one_taken half place bytes some passes =
    λ i. taken (lt-ltb 0 bytes some i && lt-ltb half (place + (37 + bytes)) passes i)

module _ {D : Type 0} {d : Ghosts D} where
  pub spent : (old new : MetaLog D d) (m n : Map) → IsLog old m → IsLog new n → new.at ≡ old.at → new.half ≡ old.half
      → new.epoch ≡ old.epoch + epochs_taken old → HasSpentEpochs old new
  spent old new m n before after at half epoch =
      let was = image_goes_on (layout_of old) (state_of old) m before.stands in
      let is = image_goes_on (layout_of new) (state_of new) n after.stands in
      let image = (state_of new).image in
      let here : new.epoch ≡ epoch_in old.at old.half image = is.counts ∙ (λ i. epoch_in (at i) (half i) image) in
      sym here ∙ epoch ∙ (λ i. was.counts i + epochs_for old.half (was.next i) (staged_of old))
