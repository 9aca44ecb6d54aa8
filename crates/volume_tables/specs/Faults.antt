-- What a refusal of the journal is for the tables.
use Rattle.std.specs.Prelude.{Result, Ok, Err}
use Rattle.plain_volume.specs.declared.call.Fault.{Fault}
use Rattle.plain_volume.specs.declared.call.Fault.TheVariants as fault
use Rattle.meta_log.specs.declared.fault.MetaFault.{MetaFault}
use Rattle.meta_log.specs.declared.fault.MetaFault.TheVariants.{GroupFull, TableFull, Worn, Damaged, Failed, Memory}

-- What comes where room for the records was ensured and the journal is open: Ok, or any refusal but that the group is
-- full and that a half is damaged.
abbrev pub IsHandedOn : Result (Unit {0}) MetaFault → Type 0
IsHandedOn (Ok done) = Unit {0}
IsHandedOn (Err GroupFull) = ⊥
IsHandedOn (Err TableFull) = Unit {0}
IsHandedOn (Err Worn) = Unit {0}
IsHandedOn (Err (Damaged half)) = ⊥
IsHandedOn (Err Failed) = Unit {0}
IsHandedOn (Err Memory) = Unit {0}

-- of those that do not come, anything
abbrev pub fault_of : MetaFault → Fault
fault_of GroupFull = fault.Memory
fault_of TableFull = fault.TableFull
fault_of Worn = fault.Worn
fault_of (Damaged half) = fault.Failed
fault_of Failed = fault.Failed
fault_of Memory = fault.Memory

abbrev pub answer_of : Result (Unit {0}) MetaFault → Result (Unit {0}) Fault
answer_of (Ok done) = Ok done
answer_of (Err e) = Err (fault_of e)
