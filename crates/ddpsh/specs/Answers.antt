-- What is printed for an item, and which calls it makes.
use Rattle.std.specs.Prelude.{◌≡◌, ◌⊎◌, ℕ, Bool, IsTrue, true, false, List, [], ◌∷◌, ◌++◌, length, replicate, Some, None, codes}
use Rattle.cmdlet_line.specs.Lines.{Ask, Silent, Create, Write, Read, Fill, Length, Rename, Delete, Digest, Stat, Listing, Flush, Exit}
use Rattle.plain_volume.specs.Step.{after as volume_after, takes_memory}
use Rattle.plain_volume.specs.declared.call.Call.{Call}
use Rattle.plain_volume.specs.declared.call.Call.TheVariants as call
use Rattle.plain_volume.specs.declared.call.Reply.{Reply}
use Rattle.plain_volume.specs.declared.call.Reply.TheVariants as reply
use Rattle.plain_volume.specs.declared.call.Fault.TheVariants as fault
use Rattle.volume_core.specs.States.{plain_in}
use Rattle.volume_core.specs.Moves.{Moves}
use Rattle.ddpsh.specs.States.{State, reply_in}
use Rattle.ddpsh.specs.Listing.{listing}
use Rattle.answer_text.specs.Answers.{Answer, Nothing, Accepted, Refused, number, refusal_text, said, file_lines}
use Rattle.script_items.specs.Script.{Item, Bad, Bare, Paid, Cut, Spoilt}

-- A line of one call. The volume gives the plain machine's own reply, or the resource that is wanting, and leaves the
-- state that the call with this reply leaves.
pub record OneCall (call : Call) (before : State) (calls : List (Call × Reply)) (answer : Answer) (after : State) : Type 0 where
  pub calls_are : calls ≡ (call, reply_in before call) ∷ []
  pub says : said (reply_in before call) ≡ Some answer
  pub leaves : plain_in after ≡ volume_after (plain_in before) call (reply_in before call)
  pub moves : Moves call (reply_in before call) before after

-- a line of no call, whose answer is told by the state
pub record NoCall (says : State → Answer) (before : State) (calls : List (Call × Reply)) (answer : Answer) (after : State) : Type 0 where
  pub calls_are : calls ≡ []
  pub says_so : answer ≡ says before
  pub leaves : after ≡ before

-- A line that lets the volume go. What is not durable yet is made so, which is no call of a user, and which is
-- refused where a flush is.
pub record Unmounts (before : State) (calls : List (Call × Reply)) (answer : Answer) (after : State) : Type 0 where
  pub calls_are : calls ≡ []
  pub says : said (reply_in before call.Flush) ≡ Some answer
  pub moves : Moves call.Flush (reply_in before call.Flush) before after

-- A line that lists the files: their number, and behind it the line of each.
pub record Lists (before : State) (calls : List (Call × Reply)) (answer : Answer) (after : State) : Type 0 where
  pub calls_are : calls ≡ listing None (plain_in before)
  pub says : answer ≡ Accepted (number (length (plain_in before)) ++ file_lines (plain_in before))
  pub leaves : after ≡ before

-- the calls of an accepted line with their replies, and its answer to these
abbrev pub Serves : Ask → List ℕ → State → List (Call × Reply) → Answer → State → Type 0
Serves Silent payload = NoCall (λ before. Nothing)
Serves (Create name) payload = OneCall (call.Create name)
Serves (Write name at count) payload = OneCall (call.Write name at payload)
Serves (Read name at count) payload = OneCall (call.Read name at count)
Serves (Fill name at count byte) payload = OneCall (call.Write name at (replicate count byte))
Serves (Length name size) payload = OneCall (call.SetLength name size)
Serves (Rename source target) payload = OneCall (call.Rename source target)
Serves (Delete name) payload = OneCall (call.Delete name)
Serves (Digest name) payload = OneCall (call.Digest name)
Serves (Stat name) payload = OneCall (call.Stat name)
Serves Listing payload = Lists
Serves Flush payload = OneCall call.Flush
Serves Exit payload = Unmounts

-- the calls of an item with their replies, its answer, and the state that it leaves
abbrev pub Comes : Item → State → List (Call × Reply) → Answer → State → Type 0
Comes (Bad refusal) = NoCall (λ before. Refused (refusal_text refusal))
Comes (Bare ask) = Serves ask []
Comes (Paid ask payload) = Serves ask payload
Comes Cut = NoCall (λ before. Refused (codes " Cut"))
Comes Spoilt = NoCall (λ before. Refused (codes " PayloadEnd"))

-- A line of one call in which the run ended: the call was not made, or it has the reply of its state, wanted memory, of
-- which it takes some, or met a fault of the device.
abbrev pub OneBegun : Call → State → List (Call × Reply) → Type 0
OneBegun call before calls = (calls ≡ []) ⊎ ((given : Reply) × (calls ≡ (call, given) ∷ [])
    × ((given ≡ reply_in before call) ⊎ (((given ≡ reply.Refused fault.Memory) × IsTrue (takes_memory call))
    ⊎ (given ≡ reply.Refused fault.Failed))))

-- the call that is due next, which wanted memory
abbrev pub LacksMemory : List (Call × Reply) → List (Call × Reply) → Type 0
LacksMemory [] last = ⊥
LacksMemory (due ∷ rest) last = (last ≡ (due.0, reply.Refused fault.Memory) ∷ []) × IsTrue (takes_memory due.0)

-- A list in which the run ended: a front of its calls was made, behind which one may have wanted memory.
pub record ListBegun (before : State) (calls : List (Call × Reply)) : Type 0 where
  pub front : List (Call × Reply)
  pub rest : List (Call × Reply)
  pub last : List (Call × Reply)
  pub whole : listing None (plain_in before) ≡ front ++ rest
  pub calls_are : calls ≡ front ++ last
  pub wanted : (last ≡ []) ⊎ LacksMemory rest last

-- the calls that a line had made where the run ended in it
abbrev pub Begun : Ask → List ℕ → State → List (Call × Reply) → Type 0
Begun (Create name) payload before calls = OneBegun (call.Create name) before calls
Begun (Write name at count) payload before calls = OneBegun (call.Write name at payload) before calls
Begun (Read name at count) payload before calls = OneBegun (call.Read name at count) before calls
Begun (Fill name at count byte) payload before calls =
    OneBegun (call.Write name at (replicate count byte)) before calls
Begun (Length name size) payload before calls = OneBegun (call.SetLength name size) before calls
Begun (Rename source target) payload before calls = OneBegun (call.Rename source target) before calls
Begun (Delete name) payload before calls = OneBegun (call.Delete name) before calls
Begun (Digest name) payload before calls = OneBegun (call.Digest name) before calls
Begun (Stat name) payload before calls = OneBegun (call.Stat name) before calls
Begun Listing payload before calls = ListBegun before calls
Begun Flush payload before calls = OneBegun call.Flush before calls
Begun other payload before calls = calls ≡ []

abbrev pub Starts : Item → State → List (Call × Reply) → Type 0
Starts (Bare ask) before calls = Begun ask [] before calls
Starts (Paid ask payload) before calls = Begun ask payload before calls
Starts other before calls = calls ≡ []

-- the line makes no call
abbrev pub makes_none : Item → Bool
makes_none (Bad refusal) = true
makes_none (Bare Silent) = true
makes_none Cut = true
makes_none Spoilt = true
makes_none other = false

-- what is asked may write to the disk
abbrev pub may_change : Ask → Bool
may_change Silent = false
may_change (Read name at count) = false
may_change (Digest name) = false
may_change (Stat name) = false
may_change Listing = false
may_change other = true

-- the line may write to the disk
abbrev pub may_stop : Item → Bool
may_stop (Bare ask) = may_change ask
may_stop (Paid ask payload) = may_change ask
may_stop other = false

-- the line acknowledges that all calls so far are durable, once its whole answer is written
abbrev pub is_durable : Item → Bool
is_durable (Bare Flush) = true
is_durable (Bare Exit) = true
is_durable other = false

-- the line lets the volume go
abbrev pub is_exit : Item → Bool
is_exit (Bare Exit) = true
is_exit other = false
