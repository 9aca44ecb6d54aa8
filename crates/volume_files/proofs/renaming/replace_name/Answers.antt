use Rattle.std.proofs.Common.{◌≡◌, ◌≤◌, ◌+◌, length, Err, Result, rules, ap, sym, subst, refl, arith}
use Rattle.std.specs.FinMap.{put}
use Rattle.std.proofs.lemmas.Map.Lookups.{exact_bytes}
use Rattle.byte_map.specs.Words.{bytes_cmp}
use Rattle.plain_volume.specs.declared.call.Fault.{Fault}
use Rattle.volume_inside.specs.Changes.{with_name}
use Rattle.volume_inside.specs.Entries.{each_put}
use Rattle.volume_inside.specs.Typed.{Typed}
use Rattle.volume_tables.specs.Tables.{tables_now}
use Rattle.volume_files.specs.Needs.{drop_bytes, rename_bytes}
use Rattle.volume_tables.specs.Stages.{if_ok, Stages}
use Rattle.volume_files.specs.Names.{AreShort}
use Rattle.volume_tables.proofs.Stagings.{quiet_stages, stages_as, stages_then}
use Rattle.volume_files.proofs.renaming.replace_name.Goals as goal

pub drop_one_name-requires-clause-names : goal.drop_one_name-requires-clause-names
drop_one_name-requires-clause-names g c =
    let names = (tables_now c.args.tables.now).names in
    subst (λ (q : Typed). AreShort q.names) (sym c.in_ok-set_name.ensures.ok)
    (each_put bytes_cmp exact_bytes (λ name id. length name ≤ 255) c.args.to.now c.args.id names c.requires.short_to
    c.requires.names)

pub returns-in_err-set_name-clause-stages : goal.returns-in_err-set_name-clause-stages
returns-in_err-set_name-clause-stages g c =
    let t = c.args.tables.now in
    let set = c.in_err-set_name.ensures in
    let names = (tables_now t).names in
    let is : c.from_residual.result ≡ Err c.in_err-set_name.field-0.0 = search rules in
    stages_as 0 _ t c.set_name.new.self
    (quiet_stages 0 t c.set_name.new.self set.leaves set.set.image set.set.running
    (omega (arith, set.set.none_staged)) set.states (tables_now t) set.err refl)
    (ap (λ (r : Result (Unit {0}) Fault). if_ok r (rename_bytes names c.args.from.now c.args.to.now c.args.id)) (sym is))

pub returns-clause-stages : goal.returns-clause-stages
returns-clause-stages g c =
    let t = c.args.tables.now in
    let s = c.set_name.new.self in
    let from = c.args.from.now in
    let to = c.args.to.now in
    let id = c.args.id in
    let set = c.in_ok-set_name.ensures in
    let one = drop_bytes (put bytes_cmp to id (tables_now t).names) from in
    let first : Stages (14 + length to) t s = quiet_stages (14 + length to) t s set.leaves set.set.image
    set.set.running set.set.staged set.states (with_name to id (tables_now t)) set.ok refl in
    let second : Stages one s c.drop_one_name.new.tables = stages_as _ one s c.drop_one_name.new.tables
    c.drop_one_name.ensures.stages (ap (λ (q : Typed). drop_bytes q.names from) set.ok) in
    stages_then g.met.D.Disk.same_next (14 + length to) one (14 + (length to + one)) t s c.drop_one_name.new.tables
    first second (omega arith)
