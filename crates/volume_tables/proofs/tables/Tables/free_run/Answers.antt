use Rattle.std.proofs.Common.{◌≡◌, ◌+◌, ◌-◌, ℕ, subst, arith}
use Rattle.cluster_space.specs.declared.state.State.TheVariants.{Free}
use Rattle.cluster_space.specs.States.{IsIn}
use Rattle.volume_inside.specs.Layout.{first_data_cluster}
use Rattle.volume_tables.specs.Tables.{states_of}
use Rattle.volume_tables.proofs.tables.Tables.free_run.Goals as goal

pub returns-clause-free : goal.returns-clause-free
returns-clause-free g c k low =
    let t = c.args.self.now in
    let first = c.first_cluster.ensures.is in
    let place : c.free_run-run.result.first + k
    ≡ c.first_cluster.result + c.free_run-run.result.first + k - first_data_cluster t.clusters = omega (arith, first) in
    record {
      from_first = omega (arith, first);
      is = subst (λ (x : ℕ). IsIn (states_of t) x Free) place (c.free_run-run.ensures.free k low);
    }
