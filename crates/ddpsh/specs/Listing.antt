-- The files of a volume, one after the other.
use Rattle.std.specs.Prelude.{ℕ, List, [], ◌∷◌, length, Option, Some, None}
use Rattle.plain_volume.specs.Volume.{Volume}
use Rattle.plain_volume.specs.declared.call.Call.{Call}
use Rattle.plain_volume.specs.declared.call.Call.TheVariants as call
use Rattle.plain_volume.specs.declared.call.Reply.{Reply}
use Rattle.plain_volume.specs.declared.call.Reply.TheVariants as reply

-- The calls that list these files, which stand behind a name, with their replies: the next name is asked for, and for
-- each file its length and then the name next to it; none is next to the last.
abbrev pub listing : Option (List ℕ) → Volume → List (Call × Reply)
listing above [] = (call.Next above, reply.Name None) ∷ []
listing above (f ∷ files) =
    (call.Next above, reply.Name (Some f.0)) ∷ (call.Stat f.0, reply.Length (length f.1)) ∷ listing (Some f.0) files
