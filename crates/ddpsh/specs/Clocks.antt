-- Readings of a clock.
use Rattle.std.specs.Prelude.{◌≡◌, ◌⊎◌, ◌+◌, ◌++◌, ℕ, List, length, Option, option_map, Result, Ok, Err, IsErrOf}
use Rattle.vdisk.specs.Streams.{Answers}
use Rattle.vdisk.specs.declared.disk.Failed.{Failed}
use Rattle.cmdlet_line.specs.Lines.{Ask, Silent, Refusal}
use Rattle.answer_text.specs.declared.answers.Answered.{Answered}
use Rattle.ddpsh.specs.declared.ending.End.{End}
use Rattle.ddpsh.specs.declared.ending.End.TheVariants as ends
use Rattle.answer_text.specs.declared.stops.SessionFault.{SessionFault}
use Rattle.answer_text.specs.declared.stops.SessionFault.TheVariants as stop

-- a line that asks nothing reads no clock; each other one reads it once
abbrev pub IsRead : Result Ask Refusal → Option (List ℕ) → Option (List ℕ) → Result ℕ Failed → Type 0
IsRead (Ok Silent) before now read = now ≡ before
IsRead asked before now read = Answers before now read

-- the second that is kept: the clock's answer, or the last one, where the clock was not read or failed
abbrev pub KeepsSecond : Result Ask Refusal → Result ℕ Failed → ℕ → ℕ → Type 0
KeepsSecond (Ok Silent) read old new = new ≡ old
KeepsSecond asked (Ok second) old new = new ≡ second
KeepsSecond asked (Err failed) old new = new ≡ old

-- a line whose clock failed fails too
abbrev pub FailsUnread : Result Ask Refusal → Result ℕ Failed → Result Answered SessionFault → Type 0
FailsUnread (Ok Silent) read result = Unit {0}
FailsUnread asked (Ok second) result = Unit {0}
FailsUnread asked (Err failed) result = IsErrOf result stop.Device

-- HOW A LINE READS THE CLOCK: not at all, where it asks nothing, else once; the session keeps the second.
pub record ReadsClock (asked : Result Ask Refusal) (before now : Option (List ℕ)) (old new : ℕ)
    (result : Result Answered SessionFault) : Type 0 where
  pub read : Result ℕ Failed
  pub is_read : IsRead asked before now read
  pub keeps : KeepsSecond asked read old new
  pub fails : FailsUnread asked read result

-- so many more seconds were answered, where the clock tells them
pub record AreRead (count : ℕ) (before now : Option (List ℕ)) : Type 0 where
  pub seconds : List ℕ
  pub many : length seconds ≡ count
  pub told : now ≡ option_map (λ answers. answers ++ seconds) before

-- HOW OFTEN A RUN READS THE CLOCK: once for each line that was answered, and once more only in a line that it was cut
-- off in.
pub record ReadsOften (lines : ℕ) (is_cut : Type 0) (before now : Option (List ℕ)) : Type 0 where
  pub count : ℕ
  pub read : AreRead count before now
  pub often : (count ≡ lines) ⊎ ((count ≡ lines + 1) × is_cut)

-- the ends of a run that may cut off a line
abbrev pub MayCut : End → Type 0
MayCut ends.Device = Unit {0}
MayCut ends.Memory = Unit {0}
MayCut ends.Sink = Unit {0}
MayCut other = ⊥

-- their statuses
abbrev pub IsCutStatus : ℕ → Type 0
IsCutStatus status = (status ≡ 3) ⊎ ((status ≡ 4) ⊎ (status ≡ 6))
