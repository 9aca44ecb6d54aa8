use Rattle.std.proofs.Common.{◌∙◌, ap, set}
use Rattle.std.proofs.lemmas.List.{set-set}
use Rattle.cluster_space.specs.declared.state.State.TheVariants.{Used}
use Rattle.cluster_space.proofs.space.Space.mark_used.Goals as goal

pub returns : goal.returns
returns c =
    c.reuse.ensures ∙ (ap (λ s. set s c.args.cluster Used) c.hold.ensures.states ∙ set-set _ _ _ _)
