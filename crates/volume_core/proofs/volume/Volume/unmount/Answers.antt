use Rattle.std.proofs.Common.{◌∙◌, Ok, refl, sym, subst}
use Rattle.vdisk.specs.Steps.{Keeps}
use Rattle.volume_inside.specs.Shows.{Area, Kept, ShowsEither}
use Rattle.plain_volume.specs.Replies.{done_reply}
use Rattle.plain_volume.specs.declared.call.Call.TheVariants.{Flush}
use Rattle.volume_inside.specs.Inside.{Inside}
use Rattle.volume_inside.specs.InsideOf.{InsideOf}
use Rattle.volume_tables.specs.Mount.{read_meta}
use Rattle.volume_tables.specs.Tables.{inside_now}
use Rattle.volume_tables.proofs.Leaving.{area_same}
use Rattle.volume_core.proofs.Moving.{after_none}
use Rattle.volume_core.specs.Volumes.{tables_of, disk_of, area_of, view_now}
use Rattle.volume_core.proofs.volume.Volume.unmount.Goals as goal

pub returns-in-Ok-clause-kept : goal.returns-in-Ok-clause-kept
returns-in-Ok-clause-kept g c w kept =
    let v = c.args.self in
    let u = c.flush.new.self in
    let done = c.in-Ok.ensures.durable w kept in
    subst (λ (x : g.row.D.Denot). Kept (area_of v) (g.D.Disk.state x) (view_now v)) (sym c.into_disk.ensures)
    (subst (λ (a : Area). Kept a (disk_of u) (view_now v))
    (area_same (tables_of v) (tables_of u) c.flush.ensures.endures.clusters) done.kept)

pub returns-in-Ok-clause-moments : goal.returns-in-Ok-clause-moments
returns-in-Ok-clause-moments g c w kept =
    let v = c.args.self in
    subst (λ (x : g.row.D.Denot). Keeps (disk_of v) (g.D.Disk.state x) (ShowsEither (area_of v) w (view_now v)))
    (sym c.into_disk.ensures)
    (c.flush.ensures.endures.moments w kept)

pub returns-in-Err-clause-moments_err : goal.returns-in-Err-clause-moments_err
returns-in-Err-clause-moments_err g c w kept =
    let v = c.args.self in
    subst (λ (x : g.row.D.Denot). Keeps (disk_of v) (g.D.Disk.state x) (ShowsEither (area_of v) w (view_now v)))
    (sym c.into_disk-in-Err.ensures)
    (c.flush.ensures.endures.moments w kept)

pub returns-in-Ok-clause-inside : goal.returns-in-Ok-clause-inside
returns-in-Ok-clause-inside g c w kept =
    let v = c.args.self in
    let stored = c.in-Ok.ensures.stored w kept in
    subst (λ (x : g.row.D.Denot). InsideOf read_meta (g.D.Disk.state x).image (Ok (inside_now (tables_of v))))
    (sym c.into_disk.ensures)
    (subst (λ (i : Inside). InsideOf read_meta (disk_of c.flush.new.self).image (Ok i))
    (c.flush.ensures.moves.inside ∙ after_none Flush (done_reply c.flush.result) (inside_now (tables_of v)) refl)
    stored.inside)
