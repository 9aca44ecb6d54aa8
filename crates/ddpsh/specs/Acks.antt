-- Acknowledgements.
use Rattle.std.specs.Prelude.{List, [], ◌∷◌, Option, Some, None}
use Rattle.ddpsh.specs.declared.acks.Ack.{Ack}

-- the list of one acknowledgement, or of none
abbrev pub ack_list : Option Ack → List Ack
ack_list None = []
ack_list (Some ack) = ack ∷ []
