-- What a cluster that is written leaves.
use Rattle.std.specs.Prelude.{◌<◌, ◌+◌, ℕ, List}
use Rattle.cluster_space.specs.declared.state.State.{State}
use Rattle.cluster_space.specs.declared.state.State.TheVariants.{Free}
use Rattle.cluster_space.specs.declared.run.Run.{Run}
use Rattle.cluster_space.specs.States.{IsIn}
use Rattle.volume_inside.specs.Layout.{first_data_cluster}
use Rattle.volume_inside.specs.Typed.{Typed}
use Rattle.volume_inside.specs.Named.{clusters_of}
use Rattle.volume_inside.specs.Lists.{IsOut}
use Rattle.volume_tables.specs.Clusters.{HasState}

-- tables name no cluster that is free
abbrev pub NamesNoFree : ℕ → List State → Typed → Type 0
NamesNoFree n states t = (k : ℕ) → IsIn states k Free → IsOut (first_data_cluster n + k) (clusters_of t)

-- all clusters of a run are free
abbrev pub AreFree : ℕ → List State → Run → Type 0
AreFree n states run = (k : ℕ) → k < run.count → HasState n states Free (run.first + k)
