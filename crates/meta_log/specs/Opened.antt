-- What is known while a journal is opened.
use Rattle.std.specs.Prelude.{◌≡◌, ◌⊎◌, ◌≤◌, ◌+◌, ◌&&◌, ◌||◌, ℕ, Bool, true, false, not, nat_lt, List}
use Rattle.vdisk.specs.Disk.{DiskState}
use Rattle.vdisk.specs.Ranges.{part}
use Rattle.vdisk.specs.Steps.{Keeps}
use Rattle.meta_log.specs.Meta.{epoch_of, map_of_half, or_damaged, meta_of}
use Rattle.meta_log.specs.Ready.{Layout, IsLive}
use Rattle.meta_log.specs.declared.fault.MetaFault.{MetaFault}
use Rattle.meta_log.specs.declared.fault.MetaFault.TheVariants.{Damaged, Failed, Memory}
use Rattle.meta_log.specs.declared.opening.HalfHeader.{HalfHeader}
use Rattle.meta_log.specs.declared.opening.Choice.{Choice}

-- A disk that was only synced and read: what a crash may leave, it might have left before.
pub record IsOnlyRead (old new : DiskState) : Type 0 where
  pub keeps : Keeps old new old.may_leave
  pub image : new.image ≡ old.image
  pub later : old.faults ≤ new.faults

-- a half is live beside the other one
abbrev pub is_live : HalfHeader → HalfHeader → Bool
is_live one other = one.is_open && (not other.is_open || nat_lt other.epoch one.epoch)

abbrev pub first_choice : ℕ → ℕ → Bool → Choice
first_choice at half other_open = record { number = 0; live_at = at; other_at = at + half; other_open = other_open }

abbrev pub second_choice : ℕ → ℕ → Bool → Choice
second_choice at half other_open = record { number = 1; live_at = at + half; other_at = at; other_open = other_open }

-- the half that is live by the headers of both
abbrev pub IsChoice : ℕ → ℕ → HalfHeader → HalfHeader → Choice → Type 0
IsChoice at half first second choice =
    ((is_live first second ≡ true) × (choice ≡ first_choice at half second.is_open))
    ⊎ ((is_live first second ≡ false) × (is_live second first ≡ true) × (choice ≡ second_choice at half first.is_open))

-- the live half of an image
pub record IsChosen (at half : ℕ) (image : List ℕ) (choice : Choice) : Type 0 where
  pub live : IsLive (epoch_of (part choice.live_at half image)) choice.other_open
      (part choice.live_at half image) (part choice.other_at half image)
  pub spells : meta_of at half image ≡ or_damaged choice.number (map_of_half (part choice.live_at half image))

-- the journal's place, by its live half
abbrev pub chosen_layout : ℕ → ℕ → Choice → ℕ → ℕ → Layout
chosen_layout at half choice place epoch = record {
  at = at;
  half = half;
  live_at = choice.live_at;
  other_at = choice.other_at;
  place = place;
  epoch = epoch;
  other_open = choice.other_open;
}

-- why a disk's journal is not opened
abbrev pub IsOpenFault : MetaFault → Type 0
IsOpenFault fault = ((half : ℕ) × (fault ≡ Damaged half)) ⊎ ((fault ≡ Failed) ⊎ (fault ≡ Memory))
