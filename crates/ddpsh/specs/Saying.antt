-- An answer before it is written.
use Rattle.std.specs.Prelude.{◌&&◌, Bool, true, false, Result, Ok, Err}
use Rattle.cmdlet_line.specs.Lines.{Ask, Flush, Refusal}
use Rattle.answer_text.specs.Answers.{Answer}
use Rattle.answer_text.specs.Saying.{exit_kind, is_ok}
use Rattle.ddpsh.specs.Answers.{is_exit}
use Rattle.script_items.specs.Script.{Item}
use Rattle.plain_volume.specs.declared.call.Fault.{Fault}
use Rattle.plain_volume.specs.declared.call.Fault.TheVariants as fault
use Rattle.answer_text.specs.declared.stops.SessionFault.{SessionFault}
use Rattle.answer_text.specs.declared.stops.SessionFault.TheVariants as stop
use Rattle.answer_text.specs.declared.answers.Answered.{Answered}
use Rattle.answer_text.specs.declared.answers.Answered.TheVariants as answered

-- the kind of the answer to an item
abbrev pub kind_of : Item → Answer → Answered
kind_of item answer = exit_kind (is_exit item) answer

abbrev pub asks_flush : Result Ask Refusal → Bool
asks_flush (Ok Flush) = true
asks_flush asked = false

-- a `flush` was answered `ok`
abbrev pub is_flushed : Result Ask Refusal → Answered → Bool
is_flushed asked kind = asks_flush asked && is_ok kind

-- how a session ends where its last flush is refused
abbrev pub ended_by : Fault → Result Answered SessionFault
ended_by fault.Failed = Err stop.Device
ended_by other = Ok answered.Refused
