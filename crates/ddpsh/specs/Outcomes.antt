-- What the top call answers.
use Rattle.std.specs.Prelude.{◌++◌, ℕ, Bool, cond, List, [], codes}
use Rattle.volume_inside.specs.declared.mount_fault.MountFault.{MountFault}
use Rattle.volume_inside.specs.declared.mount_fault.MountFault.TheVariants as mount
use Rattle.answer_text.specs.Answers.{Refused, text_of, ended, number}
use Rattle.ddpsh.specs.declared.ending.End.{End}
use Rattle.ddpsh.specs.declared.ending.End.TheVariants as ends

-- the status of a run by its end, and by whether some line was refused
abbrev pub status_of : End → Bool → ℕ
status_of ends.Over refused = cond refused 1 0
status_of ends.Exit refused = cond refused 1 0
status_of ends.Worn refused = 1
status_of ends.Device refused = 3
status_of ends.Memory refused = 4
status_of (ends.Refused fault) refused = 5
status_of ends.Sink refused = 6
status_of ends.Source refused = 7
status_of ends.TooLong refused = 7

-- what stands behind `refused` where no volume is opened: the reason with its numbers
abbrev pub mount_text : MountFault → List ℕ
mount_text mount.NotVolume = codes " NotVolume"
mount_text (mount.VersionUnknown found) = codes " VersionUnknown" ++ number found
mount_text (mount.SizeDiffers said size) = codes " SizeDiffers" ++ (number said ++ number size)
mount_text (mount.MetaDamaged half) = codes " MetaDamaged" ++ number half
mount_text (mount.BadTable rule) = codes " BadTable" ++ number rule
mount_text mount.Failed = codes " Failed"
mount_text mount.Memory = codes " Memory"

-- what is printed last
abbrev pub last_line : End → List ℕ
last_line ends.Over = []
last_line ends.Exit = []
last_line ends.Worn = []
last_line ends.Device = ended (codes "fault device")
last_line ends.Memory = ended (codes "fault memory")
last_line (ends.Refused fault) = text_of (Refused (mount_text fault))
last_line ends.Sink = []
last_line ends.Source = ended (codes "fault source")
last_line ends.TooLong = ended (codes "fault script too long")
