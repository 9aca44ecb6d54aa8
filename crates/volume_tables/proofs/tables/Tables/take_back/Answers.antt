use Rattle.std.proofs.Common.{ℕ, List, ◌-◌, slice_set, ◌∙◌, ap, refl}
use Rattle.std.proofs.lemmas.List.{set-set}
use Rattle.cluster_space.specs.declared.state.State.{State}
use Rattle.cluster_space.specs.declared.state.State.TheVariants.{Free, Used}
use Rattle.volume_tables.proofs.tables.Tables.take_back.Goals as goal

pub returns-then-eq : goal.returns-then-eq
returns-then-eq g c = record {
  states =
      let i = c.args.cluster - c.first_cluster.result in
      let states : List State = c.args.self.now.space in
      c.mark_used.ensures ∙ ap (λ (xs : List State). slice_set xs i Used) c.release.ensures ∙ set-set states i Free Used
      ∙ ap (λ (k : ℕ). slice_set states (c.args.cluster - k) Used) c.first_cluster.ensures.is;
  log = refl;
  tables = refl;
  clusters = refl;
  ends = refl;
  worn = refl;
}
