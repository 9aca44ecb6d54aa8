-- A run that nothing failed is complete.
use Rattle.std.proofs.Common.{◌≡◌, ◌<◌, ℕ, Bool, true, false, List, length, Result, Ok, Err, inl, inr, arith}
use Rattle.std.proofs.lemmas.Bool.{false≢true}
use Rattle.vdisk.specs.Disk.{DiskState}
use Rattle.volume_inside.specs.Inside.{Inside}
use Rattle.volume_inside.specs.InsideOf.{Reading, InsideOf}
use Rattle.volume_inside.specs.declared.mount_fault.MountFault.{MountFault}
use Rattle.volume_inside.specs.declared.mount_fault.MountFault.TheVariants as mount
use Rattle.volume_tables.specs.Mount.{read_meta}
use Rattle.ddpsh.specs.Complete.{CanOpen, IsComplete}
use Rattle.ddpsh.specs.Opens.{IsOpeningFault, is_reason}
use Rattle.ddpsh.specs.Outcomes.{status_of}
use Rattle.ddpsh.specs.declared.commands.Command.{Command}
use Rattle.ddpsh.specs.declared.commands.Command.TheVariants.{Mount, Format}
use Rattle.ddpsh.specs.declared.ending.End.{End}
use Rattle.ddpsh.specs.declared.ending.End.TheVariants as ends
use Rattle.script_items.specs.declared.limits.TheConstants.{MOST_SCRIPT}

-- the statuses that tell of a fault do not come
pub complete_by : (end : End) (refused : Bool) (status : ℕ) (s : List ℕ) → status ≡ status_of end refused
    → (status ≡ 3 → ⊥) → (status ≡ 5 → ⊥) → (status ≡ 6 → ⊥) → (status ≡ 7 → MOST_SCRIPT < length s)
    → IsComplete s status
complete_by ends.Over true status s is device refusal sink long = inr (inl is)
complete_by ends.Over false status s is device refusal sink long = inl is
complete_by ends.Exit true status s is device refusal sink long = inr (inl is)
complete_by ends.Exit false status s is device refusal sink long = inl is
complete_by ends.Worn refused status s is device refusal sink long = inr (inl is)
complete_by ends.Device refused status s is device refusal sink long = absurd (device is)
complete_by ends.Memory refused status s is device refusal sink long = inr (inr (inl is))
complete_by (ends.Refused fault) refused status s is device refusal sink long = absurd (refusal is)
complete_by ends.Sink refused status s is device refusal sink long = absurd (sink is)
complete_by ends.Source refused status s is device refusal sink long = inr (inr (inr (is, long is)))
complete_by ends.TooLong refused status s is device refusal sink long = inr (inr (inr (is, long is)))

-- an image has one inside, or one reason why it has none
abbrev HasOneInside : Type 0
HasOneInside = (read : Reading) (image : List ℕ) (one two : Result Inside MountFault)
    → InsideOf read image one → InsideOf read image two → one ≡ two

not_both : HasOneInside → (image : List ℕ) (inside : Inside) (fault : MountFault)
    → InsideOf read_meta image (Ok inside) → InsideOf read_meta image (Err fault) → ⊥
not_both once image inside fault has lacks =
    let same : Ok inside ≡ Err fault = once read_meta image (Ok inside) (Err fault) has lacks in
    let no : ⊥ = cc in no

-- a sound opening is not refused
pub not_refused : HasOneInside → (command : Command) (old new : DiskState) (fault : MountFault) → CanOpen command old
    → IsOpeningFault command old new fault → is_reason fault ≡ true → ⊥
not_refused once Mount old new mount.NotVolume can is h =
    not_both once old.image can.1.0 mount.NotVolume can.1.1 (is can.0)
not_refused once Mount old new (mount.VersionUnknown found) can is h =
    not_both once old.image can.1.0 (mount.VersionUnknown found) can.1.1 (is can.0)
not_refused once Mount old new (mount.SizeDiffers said size) can is h =
    not_both once old.image can.1.0 (mount.SizeDiffers said size) can.1.1 (is can.0)
not_refused once Mount old new (mount.MetaDamaged half) can is h =
    not_both once old.image can.1.0 (mount.MetaDamaged half) can.1.1 (is can.0)
not_refused once Mount old new (mount.BadTable rule) can is h =
    not_both once old.image can.1.0 (mount.BadTable rule) can.1.1 (is can.0)
not_refused once Mount old new mount.Failed can is h = false≢true h
not_refused once Mount old new mount.Memory can is h = false≢true h
not_refused once (Format clusters) old new (mount.SizeDiffers said size) can is h =
    omega (arith, can, is.0, is.1, is.2)
not_refused once (Format clusters) old new mount.Failed can is h = false≢true h
not_refused once (Format clusters) old new mount.Memory can is h = false≢true h
not_refused once (Format clusters) old new mount.NotVolume can is h = is
not_refused once (Format clusters) old new (mount.VersionUnknown found) can is h = is
not_refused once (Format clusters) old new (mount.MetaDamaged half) can is h = is
not_refused once (Format clusters) old new (mount.BadTable rule) can is h = is
