-- The texts of answers.
use Rattle.std.specs.Prelude.{ℕ, Bool, true, false, List, [], ◌∷◌, ◌++◌, length, Option, Some, None, codes, decimal}
use Rattle.hex.specs.Hex.{encode_lower}
use Rattle.cmdlet_line.specs.Lines.{Refusal, LineTooLong, BadQuote, UnknownCommand, NotBuilt, UnknownParameter, LeftOut, RepeatedParameter, MissingValue, BadValue, MissingParameter}
use Rattle.plain_volume.specs.Volume.{Volume}
use Rattle.plain_volume.specs.declared.call.Reply.{Reply}
use Rattle.plain_volume.specs.declared.call.Reply.TheVariants as reply
use Rattle.plain_volume.specs.declared.call.Fault.{Fault}
use Rattle.plain_volume.specs.declared.call.Fault.TheVariants as fault

pub data Answer : Type 0 where
  Nothing : Answer
  -- what stands behind `ok`
  Accepted : List ℕ → Answer
  -- what stands behind `refused`
  Refused : List ℕ → Answer

abbrev pub ended : List ℕ → List ℕ
ended line = line ++ 10 ∷ []

abbrev pub text_of : Answer → List ℕ
text_of Nothing = []
text_of (Accepted more) = ended (codes "ok" ++ more)
text_of (Refused more) = ended (codes "refused" ++ more)

abbrev pub is_refused : Answer → Bool
is_refused Nothing = false
is_refused (Accepted more) = false
is_refused (Refused more) = true

abbrev pub is_answered : Answer → Bool
is_answered Nothing = false
is_answered (Accepted more) = true
is_answered (Refused more) = true

abbrev pub is_accepted : Answer → Bool
is_accepted Nothing = false
is_accepted (Accepted more) = true
is_accepted (Refused more) = false

abbrev pub number : ℕ → List ℕ
number n = 32 ∷ decimal n

-- what stands behind `refused` for a refused call: the refusal's name with its numbers
abbrev pub fault_text : Fault → List ℕ
fault_text fault.BadName = codes " BadName"
fault_text fault.NoFile = codes " NoFile"
fault_text fault.Exists = codes " Exists"
fault_text (fault.OutsideFile length) = codes " OutsideFile" ++ number length
fault_text (fault.TooLarge limit) = codes " TooLarge" ++ number limit
fault_text fault.Worn = codes " Worn"
fault_text fault.TableFull = codes " TableFull"
fault_text (fault.Full need free) = codes " Full" ++ (number need ++ number free)
fault_text fault.Failed = codes " Failed"
fault_text (fault.Damaged place) = codes " Damaged" ++ number place
fault_text fault.Memory = codes " Memory"

-- what stands behind `refused` for a refused line
abbrev pub refusal_text : Refusal → List ℕ
refusal_text LineTooLong = codes " LineTooLong 4096"
refusal_text BadQuote = codes " BadQuote"
refusal_text (UnknownCommand word) = codes " UnknownCommand " ++ word
refusal_text (NotBuilt word) = codes " NotBuilt " ++ word
refusal_text (UnknownParameter word) = codes " UnknownParameter " ++ word
refusal_text (LeftOut title) = codes " LeftOut " ++ title
refusal_text (RepeatedParameter title) = codes " RepeatedParameter " ++ title
refusal_text (MissingValue title) = codes " MissingValue " ++ title
refusal_text (BadValue title) = codes " BadValue " ++ title
refusal_text (MissingParameter title) = codes " MissingParameter " ++ title

-- what a refused call prints; a fault of the device and want of memory print nothing, since the run ends there
abbrev pub said_fault : Fault → Option Answer
said_fault fault.Failed = None
said_fault fault.Memory = None
said_fault other = Some (Refused (fault_text other))

-- what the reply of a line's one call prints
abbrev pub said : Reply → Option Answer
said reply.Done = Some (Accepted [])
said (reply.Bytes bytes) = Some (Accepted (number (length bytes) ++ 10 ∷ bytes))
said (reply.Digest digest) = Some (Accepted (32 ∷ encode_lower digest))
said (reply.Length size) = Some (Accepted (number size))
said (reply.Refused other) = said_fault other
said other = None

-- a file's line, with the newline in front of it: its length and its name
abbrev pub file_line : ℕ → List ℕ → List ℕ
file_line size name = 10 ∷ (decimal size ++ 32 ∷ name)

abbrev pub file_lines : Volume → List ℕ
file_lines [] = []
file_lines (f ∷ files) = file_line (length f.1) f.0 ++ file_lines files
