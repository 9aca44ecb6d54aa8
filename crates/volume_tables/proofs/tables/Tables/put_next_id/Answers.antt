use Rattle.std.proofs.Common.{arith, ap, subst, sym, refl}
use Rattle.volume_inside.specs.Typed.{Typed, typed_of}
use Rattle.volume_inside.specs.Changes.{with_volume}
use Rattle.volume_tables.specs.Clusters.{AreHeld}
use Rattle.volume_tables.specs.Log.{log_now}
use Rattle.volume_tables.specs.Tables.{with_ends}
use Rattle.volume_tables.proofs.WellFormed.{volume_table}
use Rattle.volume_tables.proofs.Sizes.{volume_key}
use Rattle.volume_tables.proofs.Held.{held_same}
use Rattle.volume_tables.proofs.Setting.{volume_is_ok, volume_all, volume_staged, volume_checkpoint}
use Rattle.volume_tables.proofs.Setting.{volume_contents}
use Rattle.volume_tables.proofs.Counts.{entry_named}
use Rattle.table_records.specs.Tables.{volume_codec}
use Rattle.volume_tables.proofs.WellFormed.{apart}
use Rattle.volume_tables.proofs.Leaving.{quiet_leaves}
use Rattle.volume_tables.proofs.Tailed.{pages_of_tables}
use Rattle.volume_tables.proofs.tables.Tables.put_next_id.Goals as goal

pub put-requires : goal.put-requires
put-requires g c b w key value =
    let long = volume_key b key in
    let size = volume_table.sized w value in
    omega (arith, long, size, c.requires.room)

pub unwrap-requires : goal.unwrap-requires
unwrap-requires g c = volume_is_ok c.args.self.now c.put.new.log c.args.next_id c.put.result c.put.ensures

pub invariant_of-self-clause-contents : goal.invariant_of-self-clause-contents
invariant_of-self-clause-contents g c =
    volume_contents c.args.self.now c.put.new.log c.args.next_id c.put.result c.put.ensures

pub invariant_of-self-clause-held : goal.invariant_of-self-clause-held
invariant_of-self-clause-held g c =
    let t = c.args.self.now in
    subst (λ (x : Typed). AreHeld t.clusters t.space x)
    (sym (volume_all t c.put.new.log c.args.next_id c.put.result c.put.ensures))
    (held_same t.clusters t.space (typed_of (log_now t.log)) t.held
    (with_volume (record { version = 1; next_id = c.args.next_id }) (typed_of (log_now t.log))) refl)

pub invariant_of-self-clause-few : goal.invariant_of-self-clause-few
invariant_of-self-clause-few g c running worn =
    let staged = volume_staged c.args.self.now c.put.new.log c.args.next_id c.put.result c.put.ensures in
    omega (arith, staged, c.requires.room)

pub returns-clause-now : goal.returns-clause-now
returns-clause-now g c =
    let t = c.args.self.now in
    ap (λ (x : Typed). with_ends t.ends x) (volume_all t c.put.new.log c.args.next_id c.put.result c.put.ensures)

pub returns-clause-staged : goal.returns-clause-staged
returns-clause-staged g c = volume_staged c.args.self.now c.put.new.log c.args.next_id c.put.result c.put.ensures

pub returns-clause-checkpoint : goal.returns-clause-checkpoint
returns-clause-checkpoint g c =
    volume_checkpoint c.args.self.now c.put.new.log c.args.next_id c.put.result c.put.ensures

pub returns-clause-leaves : goal.returns-clause-leaves
returns-clause-leaves g c = quiet_leaves c.args.self.now _ c.put.ensures.quiet refl refl refl refl
    (g.met.D.Disk.same_self c.args.self.now.log.disk)
    (ap pages_of_tables (volume_all c.args.self.now c.put.new.log c.args.next_id c.put.result c.put.ensures))

pub invariant_of-self-clause-named : goal.invariant_of-self-clause-named
invariant_of-self-clause-named g c =
    entry_named c.args.self.now c.put.new.log volume_codec (apart 1 2 refl) tt
    (record { version = 1; next_id = c.args.next_id }) c.put.result c.put.ensures
