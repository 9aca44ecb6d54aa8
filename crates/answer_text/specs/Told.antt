-- What a sink holds, where it tells it.
use Rattle.std.specs.Prelude.{◌≡◌, ◌⊎◌, ℕ, List, ◌++◌, Option, option_map}
use Rattle.vdisk.specs.Causes.{Rose}

-- these bytes stand behind what was held
abbrev pub IsPut : Option (List ℕ) → List ℕ → Option (List ℕ) → Type 0
IsPut before bytes now = now ≡ option_map (λ held. held ++ bytes) before

-- a front of these bytes stands behind what was held
pub record IsPutInPart (before : Option (List ℕ)) (bytes : List ℕ) (now : Option (List ℕ)) : Type 0 where
  pub part : List ℕ
  pub more : List ℕ
  pub front : bytes ≡ part ++ more
  pub put : IsPut before part now

-- these bytes stand behind what was held, or the sink has failed and holds a front of them
abbrev pub IsPrinted : Option (List ℕ) → ℕ → List ℕ → Option (List ℕ) → ℕ → Type 0
IsPrinted before faults_before bytes now faults_now =
    IsPut before bytes now ⊎ (IsPutInPart before bytes now × Rose faults_before faults_now)
