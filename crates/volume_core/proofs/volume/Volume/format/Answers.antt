use Rattle.std.proofs.Common.{sym, subst, ap, ◌∙◌, [], ◌≡◌}
use Rattle.volume_inside.specs.Fresh.{fresh_tables}
use Rattle.volume_tables.specs.Log.{log_epoch}
use Rattle.volume_tables.specs.Sound.{IsSound, IsKept}
use Rattle.volume_tables.specs.Tables.{tables_now, view_now}
use Rattle.volume_tables.specs.declared.tables.Tables.{Tables}
use Rattle.volume_core.specs.States.{state_at, IsFreshState}
use Rattle.volume_core.proofs.Opened.{found_sound, shows_no_file, fresh_state}
use Rattle.volume_core.proofs.Adding.{fresh_spent}
use Rattle.volume_core.proofs.volume.Volume.format.Goals as goal

pub invariant_of-result : goal.invariant_of-result
invariant_of-result g c = record {
  sound = subst (λ (x : Tables g.row.D.Denot g.D.Disk). IsSound x) (sym c.filter_over.ensures)
      (found_sound c.in-Ok.fresh c.in-Ok.ensures.opened c.in-Ok.ensures.maps);
}

pub returns-in-Ok-clause-now : goal.returns-in-Ok-clause-now
returns-in-Ok-clause-now g c =
    subst (λ (x : Tables g.row.D.Denot g.D.Disk). view_now x ≡ []) (sym c.filter_over.ensures)
    (shows_no_file c.in-Ok.fresh c.in-Ok.ensures.now)

pub returns-in-Ok-clause-fresh : goal.returns-in-Ok-clause-fresh
returns-in-Ok-clause-fresh g c =
    let s = c.in-Ok.ensures in
    let same = c.filter_over.ensures in
    fresh_spent _ (ap (λ (x : Tables g.row.D.Denot g.D.Disk). tables_now x) same ∙ s.now)
    (ap (λ (x : Tables g.row.D.Denot g.D.Disk). x.worn) same ∙ s.opened.fresh)
    (ap (λ (x : Tables g.row.D.Denot g.D.Disk). log_epoch x.log) same ∙ s.first)

pub returns-in-Ok-clause-state : goal.returns-in-Ok-clause-state
returns-in-Ok-clause-state g c =
    let s = c.in-Ok.ensures in
    subst (λ (x : Tables g.row.D.Denot g.D.Disk). IsFreshState c.args.clusters (state_at x)) (sym c.filter_over.ensures)
    (fresh_state c.in-Ok.fresh s.opened s.maps c.args.clusters s.clusters s.now s.first s.next)

pub returns-in-Ok-clause-kept : goal.returns-in-Ok-clause-kept
returns-in-Ok-clause-kept g c tells =
    let s = c.in-Ok.ensures in
    subst (λ (x : Tables g.row.D.Denot g.D.Disk). IsKept x []) (sym c.filter_over.ensures)
    (record { stored = fresh_tables; tables = s.tables tells; kept = s.kept tells })
