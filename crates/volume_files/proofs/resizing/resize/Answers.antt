use Rattle.std.proofs.Common.{◌≡◌, ◌+◌, Bool, cond, sym, ap, subst, refl, arith, lt-ltb, nat_lt}
use Rattle.std.proofs.lemmas.Bool.{le-ltb}
use Rattle.volume_inside.specs.Changes.{with_file}
use Rattle.volume_tables.specs.Tables.{tables_now}
use Rattle.volume_files.specs.Needs.{set_at_end}
use Rattle.volume_tables.specs.Stages.{Stages}
use Rattle.volume_tables.proofs.Stagings.{as_ok}
use Rattle.volume_tables.proofs.Stagings.{quiet_stages, stages_as, stages_then}
use Rattle.volume_files.proofs.resizing.resize.Goals as goal
use Rattle.volume_files.proofs.resizing.resize.Goals.{then-length-file, else-length-file}

pub returns-clause-stages : goal.returns-clause-stages
returns-clause-stages g c =
    let t = c.args.tables.now in
    let v = c.if-length-file.tables in
    let s = c.set_file.new.self in
    let e = c.set_file.ensures in
    let len = c.args.length in
    let most = set_at_end (tables_now t) c.args.id len in
    let set : Stages 38 v s = quiet_stages 38 v s e.leaves e.set.image e.set.running
    (as_ok _ c.set_file.result c.unwrap.result c.unwrap.ensures e.set.staged) e.states
    (with_file c.args.id _ (tables_now v)) (as_ok _ c.set_file.result c.unwrap.result c.unwrap.ensures e.ok) refl in
    elim c.if-length-file.branch [
      | then-length-file w ↦
          let cut : Stages (31 + most) t v =
          subst (λ x. Stages (31 + most) t x) (sym w.tables-is) w.cut.ensures.stages in
          let sum : (31 + most) + 38 ≡ 38 + cond (nat_lt len c.args.file.length) (31 + most) 0 =
          subst (λ (b : Bool). (31 + most) + 38 ≡ 38 + cond b (31 + most) 0)
          (sym (lt-ltb len c.args.file.length w.if-length-file.true)) (omega arith) in
          stages_then g.met.D.Disk.same_next (31 + most) 38 _ t v s cut set sum
      | else-length-file w ↦
          stages_as 38 _ t s (subst (λ x. Stages 38 x s) w.tables-is set)
          (ap (λ (b : Bool). 38 + cond b (31 + most) 0)
          (sym (le-ltb len c.args.file.length w.if-length-file.false)))
    ]
