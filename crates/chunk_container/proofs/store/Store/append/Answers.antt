use Rattle.std.proofs.Common.{length, sym, subst}
use Rattle.volume_tables.specs.Tables.{tables_now, clusters_in}
use Rattle.chunk_container.specs.declared.containers.Target.{Target}
use Rattle.chunk_container.specs.Appending.{IsTargetIn}
use Rattle.chunk_container.specs.Stores.{tables_of, open_in}
use Rattle.chunk_container.proofs.Targets.{target_is}
use Rattle.chunk_container.proofs.store.Store.append.Goals as goal

pub append-requires-clause-target : goal.append-requires-clause-target
append-requires-clause-target g c =
    let s = c.args.self.now in
    let t = tables_of s in
    subst (λ (x : Target). IsTargetIn c.args.kind (length c.args.bytes.now) x (tables_now t)) (sym c.target-target.ensures)
    (target_is (clusters_in t) c.args.kind (length c.args.bytes.now) (tables_now t) c.requires.sound.rules c.requires.few
    (open_in s))
