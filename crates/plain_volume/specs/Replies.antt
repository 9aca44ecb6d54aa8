-- A machine's own reply, and results of code as replies.
use Rattle.std.specs.Prelude.{◌≡◌, ◌⊎◌, IsTrue, ℕ, List, Result, Ok, Err}
use Rattle.plain_volume.specs.Volume.{Volume}
use Rattle.plain_volume.specs.Step.{Outcome, plain, after, takes_memory}
use Rattle.plain_volume.specs.declared.call.Call.{Call}
use Rattle.plain_volume.specs.declared.call.Reply.{Reply}
use Rattle.plain_volume.specs.declared.call.Reply.TheVariants as reply
use Rattle.plain_volume.specs.declared.call.Fault.{Fault}
use Rattle.plain_volume.specs.declared.call.Fault.TheVariants.{Memory}

-- the answer, or the refusal
abbrev pub own_reply : Outcome → Reply
own_reply (Ok (answer, w)) = answer
own_reply (Err fault) = reply.Refused fault

-- the plain machine's own reply or, of a call that takes memory, a refusal for want of it; and what is left after it
pub record IsOwnOrMemory (v : Volume) (call : Call) (given : Reply) (w : Volume) : Type 0 where
  pub own : (given ≡ own_reply (plain v call)) ⊎ ((given ≡ reply.Refused Memory) × IsTrue (takes_memory call))
  pub left : w ≡ after v call given

-- the reply of a call that has nothing to tell
abbrev pub done_reply : Result (Unit {0}) Fault → Reply
done_reply (Ok done) = reply.Done
done_reply (Err fault) = reply.Refused fault

-- the reply of a read whose buffer then holds these bytes
abbrev pub bytes_reply : List ℕ → Result (Unit {0}) Fault → Reply
bytes_reply bytes (Ok done) = reply.Bytes bytes
bytes_reply bytes (Err fault) = reply.Refused fault

-- the plain machine's own reply, and what is left after it
pub record IsOwn (v : Volume) (call : Call) (given : Reply) (w : Volume) : Type 0 where
  pub own : given ≡ own_reply (plain v call)
  pub left : w ≡ after v call given

-- the result of code that answers the plain machine's own reply, or a refusal as an error; want of memory changes
-- nothing
abbrev pub IsOwnResult : Volume → Call → Result Reply Fault → Volume → Type 0
IsOwnResult v call (Ok given) w = IsOwn v call given w
IsOwnResult v call (Err Memory) w = w ≡ v
IsOwnResult v call (Err fault) w = IsOwn v call (reply.Refused fault) w
