-- Why no volume was opened.
use Rattle.std.specs.Prelude.{◌≡◌, true, refl}
use Rattle.volume_inside.specs.declared.mount_fault.MountFault.{MountFault}
use Rattle.volume_inside.specs.declared.mount_fault.MountFault.TheVariants as mount
use Rattle.ddpsh.specs.Opens.{is_reason}

-- what is neither a fault of the device nor want of memory is a reason
pub is_other : (fault : MountFault) → (fault ≡ mount.Failed → ⊥) → (fault ≡ mount.Memory → ⊥) → is_reason fault ≡ true
is_other mount.NotVolume device memory = refl
is_other (mount.VersionUnknown found) device memory = refl
is_other (mount.SizeDiffers said size) device memory = refl
is_other (mount.MetaDamaged half) device memory = refl
is_other (mount.BadTable rule) device memory = refl
is_other mount.Failed device memory = absurd (device refl)
is_other mount.Memory device memory = absurd (memory refl)
