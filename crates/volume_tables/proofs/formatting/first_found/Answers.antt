use Rattle.std.proofs.Common.{ℕ, replicate, ◌∙◌, ap}
use Rattle.cluster_space.specs.declared.state.State.TheVariants.{Free}
use Rattle.volume_tables.proofs.Committed.{empty_space}
use Rattle.volume_tables.proofs.formatting.first_found.Goals as goal

pub returns-clause-space : goal.returns-clause-space
returns-clause-space c =
    empty_space c.args.clusters c.in_ok-space.space
    (c.in_ok-space.ensures ∙ ap (λ (k : ℕ). replicate k Free) c.data_clusters.ensures)
