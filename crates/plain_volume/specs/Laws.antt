-- Laws of the plain machine.
use Rattle.std.specs.Prelude.{◌≡◌, Bool, true, false, IsTrue, List, [], ◌++◌}
use Rattle.plain_volume.specs.Volume.{Volume, IsLawfulVolume}
use Rattle.plain_volume.specs.Step.{Step, Legal, replay, after, takes_memory}
use Rattle.plain_volume.specs.Replies.{IsOwnOrMemory}
use Rattle.plain_volume.specs.declared.call.Call.{Call}
use Rattle.plain_volume.specs.declared.call.Call.TheVariants.{Create, Write, SetLength, Rename, Delete, Read, Digest, Stat, Next, Flush}
use Rattle.plain_volume.specs.declared.call.Reply.{Reply}
use Rattle.plain_volume.specs.declared.call.Reply.TheVariants as reply
use Rattle.plain_volume.specs.declared.call.Fault.{Fault}
use Rattle.plain_volume.specs.declared.call.Fault.TheVariants.{Memory}

-- from a volume, a call and a reply there is at most one volume after
abbrev pub StepsLeaveOneVolume : Type 0
StepsLeaveOneVolume = (v w : Volume) (call : Call) (given : Reply) → Step v call given w → w ≡ after v call given

abbrev pub RefusedCallsChangeNothing : Type 0
RefusedCallsChangeNothing = (v w : Volume) (call : Call) (fault : Fault) → Step v call (reply.Refused fault) w → w ≡ v

-- answers of the call's own kind
abbrev pub answers : Call → Reply → Bool
answers call (reply.Refused fault) = false
answers (Read name at count) (reply.Bytes bytes) = true
answers (Digest name) (reply.Digest digest) = true
answers (Stat name) (reply.Length length) = true
answers (Next above) (reply.Name name) = true
answers (Create name) reply.Done = true
answers (Write name at bytes) reply.Done = true
answers (SetLength name length) reply.Done = true
answers (Rename from to) reply.Done = true
answers (Delete name) reply.Done = true
answers Flush reply.Done = true
answers call given = false

-- a refusal, or an answer of the call's own kind
abbrev pub fits : Call → Reply → Bool
fits call (reply.Refused fault) = true
fits call given = answers call given

abbrev pub RepliesFitTheirCalls : Type 0
RepliesFitTheirCalls = (v w : Volume) (call : Call) (given : Reply) → Step v call given w → IsTrue (fits call given)

abbrev pub OwnRepliesAreSteps : Type 0
OwnRepliesAreSteps = (v w : Volume) (call : Call) (given : Reply) → IsOwnOrMemory v call given w → Step v call given w

-- want of memory answers only calls that take some
abbrev pub OnlyTakersLackMemory : Type 0
OnlyTakersLackMemory = (v w : Volume) (call : Call) → Step v call (reply.Refused Memory) w → IsTrue (takes_memory call)

abbrev pub ReplaySplits : Type 0
ReplaySplits = (v : Volume) (front rest : List (Call × Reply)) → replay v (front ++ rest) ≡ replay (replay v front) rest

abbrev pub LegalSplits : Type 0
LegalSplits = (v : Volume) (front rest : List (Call × Reply)) → Legal v (front ++ rest)
    → Legal v front × Legal (replay v front) rest

abbrev pub LegalJoins : Type 0
LegalJoins = (v : Volume) (front rest : List (Call × Reply)) → Legal v front → Legal (replay v front) rest
    → Legal v (front ++ rest)

abbrev pub EmptyIsLawful : Type 0
EmptyIsLawful = IsLawfulVolume []

abbrev pub CallsKeepLawfulVolumes : Type 0
CallsKeepLawfulVolumes = (v : Volume) (call : Call) (given : Reply) → IsLawfulVolume v
    → IsLawfulVolume (after v call given)
