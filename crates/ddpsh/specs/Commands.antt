-- The words of the command.
use Rattle.std.specs.Prelude.{◌≡◌, ◌≤◌, ℕ, List, [], ◌∷◌, codes, decimal}
use Rattle.answer_text.specs.Answers.{ended}
use Rattle.volume_inside.specs.declared.layout.TheConstants.{LEAST_CLUSTERS, MOST_CLUSTERS}
use Rattle.ddpsh.specs.declared.commands.Command.{Command}
use Rattle.ddpsh.specs.declared.commands.Command.TheVariants.{Mount, Format}

-- a number of clusters is written in decimal digits, without a sign or a leading zero
pub record IsClusters (word : List ℕ) (clusters : ℕ) : Type 0 where
  pub spelled : word ≡ decimal clusters
  pub least : LEAST_CLUSTERS ≤ clusters
  pub most : clusters ≤ MOST_CLUSTERS

-- a number of clusters behind `--format`
abbrev pub AsksFormat : List ℕ → List ℕ → Command → Type 0
AsksFormat option word Mount = ⊥
AsksFormat option word (Format clusters) = (option ≡ codes "--format") × IsClusters word clusters

-- an image alone is mounted; before `--format` and a number of clusters it is made anew
abbrev pub Asks : List (List ℕ) → Command → Type 0
Asks (image ∷ []) Mount = Unit {0}
Asks (image ∷ option ∷ word ∷ []) command = AsksFormat option word command
Asks other command = ⊥

-- a fresh volume has a number of clusters that it may have
abbrev pub IsInRange : Command → Type 0
IsInRange Mount = Unit {0}
IsInRange (Format clusters) = (LEAST_CLUSTERS ≤ clusters) × (clusters ≤ MOST_CLUSTERS)

abbrev pub usage : List ℕ
usage = ended (codes "usage: ddpsh IMAGE [--format CLUSTERS] [--volume V] [--turns N] [--cores N]")
