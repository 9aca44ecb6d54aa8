use Rattle.std.proofs.Common.{sym, subst}
use Rattle.volume_tables.specs.Sound.{IsSound, IsKept}
use Rattle.volume_tables.specs.Tables.{tables_now, view_now}
use Rattle.volume_tables.specs.declared.tables.Tables.{Tables}
use Rattle.volume_core.specs.States.{state_at, IsStateOf}
use Rattle.volume_core.proofs.Opened.{found_sound, mounted_state}
use Rattle.volume_core.proofs.volume.Volume.mount.Goals as goal

pub invariant_of-result : goal.invariant_of-result
invariant_of-result g c = record {
  sound = subst (λ (x : Tables g.row.D.Denot g.D.Disk). IsSound x) (sym c.filter_over.ensures)
      (found_sound c.in-Ok.tables c.in-Ok.ensures.opened c.in-Ok.ensures.maps);
}

pub returns-in-Ok-clause-state : goal.returns-in-Ok-clause-state
returns-in-Ok-clause-state g c tells =
    let s = c.in-Ok.ensures in
    subst (λ (x : Tables g.row.D.Denot g.D.Disk). IsStateOf (g.D.Disk.state c.args.disk).image (state_at x))
    (sym c.filter_over.ensures)
    (mounted_state c.in-Ok.tables s.opened s.maps (g.D.Disk.state c.args.disk) s.read (s.goes_on tells) (s.inside tells))

pub returns-in-Ok-clause-kept : goal.returns-in-Ok-clause-kept
returns-in-Ok-clause-kept g c tells =
    let t = c.in-Ok.tables in
    let s = c.in-Ok.ensures in
    subst (λ (x : Tables g.row.D.Denot g.D.Disk). IsKept x (view_now x)) (sym c.filter_over.ensures)
    (record { stored = tables_now t; tables = s.tables tells; kept = s.kept tells })
