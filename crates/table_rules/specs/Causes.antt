-- Why tables are refused.
use Rattle.std.specs.Prelude.{◌≡◌, ℕ}
use Rattle.byte_map.specs.Words.{Map}
use Rattle.table_records.specs.WellFormed.{AllWellFormed}
use Rattle.volume_inside.specs.Typed.{typed_of}
use Rattle.volume_inside.specs.Rules.{RecordsHold, IsLeastBrokenOfTables}
use Rattle.volume_inside.specs.InsideOf.{HasVersion}
use Rattle.volume_inside.specs.declared.mount_fault.MountFault.{MountFault}
use Rattle.volume_inside.specs.declared.mount_fault.MountFault.TheVariants as mount
use Rattle.volume_inside.specs.declared.mount_fault.MountFault.TheVariants.{NotVolume, VersionUnknown, SizeDiffers, MetaDamaged, BadTable}
use Rattle.table_rules.specs.declared.fault.TableFault.{TableFault}
use Rattle.table_rules.specs.declared.fault.TableFault.TheVariants.{Broken, Memory}

-- the first rule is broken, or memory was wanting
abbrev pub BreaksRecords : Map → TableFault → Type 0
BreaksRecords m (Broken rule) = (rule ≡ 1) × (AllWellFormed m × (let t = typed_of m in RecordsHold t.volume t.settings t.results) → ⊥)
BreaksRecords m Memory = Unit {0}

-- THE CAUSE: of the rules that tables alone tell, in their order, this is the first one that is broken; or memory was
-- wanting
abbrev pub IsCause : ℕ → Map → TableFault → Type 0
IsCause n m (Broken rule) = IsLeastBrokenOfTables n m rule
IsCause n m Memory = Unit {0}

-- why tables are not mounted: their version is not known, or it is, and this is the first rule that is broken of those
-- that tables alone tell
abbrev pub IsRefusal : ℕ → Map → MountFault → Type 0
IsRefusal n m NotVolume = ⊥
IsRefusal n m (VersionUnknown found) = HasVersion found m
IsRefusal n m (SizeDiffers said size) = ⊥
IsRefusal n m (MetaDamaged half) = ⊥
IsRefusal n m (BadTable rule) = ((found : ℕ) → HasVersion found m → ⊥) × IsLeastBrokenOfTables n m rule
IsRefusal n m mount.Failed = ⊥
IsRefusal n m mount.Memory = Unit {0}
