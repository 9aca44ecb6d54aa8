use Rattle.std.proofs.Common.{◌∙◌, sym}
use Rattle.std.specs.Prelude.{Ok, IsTrue}
use Rattle.meta_log.specs.Opened.{IsOnlyRead}
use Rattle.row_reading.proofs.Readable.{readable}
use Rattle.volume_inside.specs.InsideOf.{InsideOf}
use Rattle.volume_inside.specs.Rules.{next_id_of}
use Rattle.volume_inside.specs.Shows.{Kept}
use Rattle.volume_inside.specs.declared.mount_fault.MountFault.{MountFault}
use Rattle.volume_tables.specs.After.{only_then}
use Rattle.volume_tables.specs.Mount.{read_meta, IsMapsFault, IsMountFault}
use Rattle.volume_tables.specs.Mounted.{IsOpened, AreTablesOf}
use Rattle.volume_tables.specs.Reads.{ReadsOnly}
use Rattle.volume_tables.specs.Tables.{tables_now, inside_now, view_now, area_of, disk_of, IsTables, IsToldBy, HasMaps}
use Rattle.volume_tables.specs.declared.tables.Tables.{Tables}
use Rattle.volume_tables.proofs.Mounts.{mounted_tables, mounted_whole, mounted_goes_on, mounted_kept, mounted_found}
use Rattle.volume_tables.proofs.Mounts.{read_on, whole_on, goes_still_on, kept_on, opened_on, inner_refused, maps_refused}
use Rattle.volume_tables.proofs.Mounts.{ok_then, ok_known, err_then}
use Rattle.volume_tables.proofs.Mapped.{maps_read}
use Rattle.volume_tables.proofs.tables.Tables.mount.Goals as goal

pub with_maps-requires : goal.with_maps-requires
with_maps-requires g c =
    let t = c.in-Ok-open_tables.tables in
    let opened = c.in-Ok-open_tables.ensures.opened in
    record {
      readable = readable t.clusters (next_id_of (tables_now t)) (tables_now t).chunks (disk_of t).image t.size
          opened.rules.chunks;
    }

pub returns-in-Ok-open_tables-clause-inside : goal.returns-in-Ok-open_tables-clause-inside
returns-in-Ok-open_tables-clause-inside g c told =
    let s₀ = g.D.Disk.state c.args.disk in
    let s₁ = g.D.Disk.state c.read_front.new.disk in
    let t = c.in-Ok-open_tables.tables in
    let n = c.in-Ok.clusters in
    let first = c.in-Ok.ensures.read in
    let o = c.in-Ok-open_tables.ensures in
    let from = o.spells (first.keeps.tells ∙ told) in
    let is = mounted_tables t n s₀ s₁ first o.read from o.clusters o.opened.space in
    ok_known c.with_maps.result (λ (u : Tables g.row.D.Denot g.D.Disk). ReadsOnly t u)
    (λ (u : Tables g.row.D.Denot g.D.Disk). InsideOf read_meta s₀.image (Ok (inside_now u)))
    (λ u ok reads. mounted_found t n s₀ s₁ first o.read from u reads (c.with_maps.ensures.maps (tables_now t, is) ok)
    (c.in-Ok.ensures.image told)) c.with_maps.ensures.reads

pub returns-in-Ok-open_tables-clause-whole : goal.returns-in-Ok-open_tables-clause-whole
returns-in-Ok-open_tables-clause-whole g c told =
    let s₀ = g.D.Disk.state c.args.disk in
    let s₁ = g.D.Disk.state c.read_front.new.disk in
    let t = c.in-Ok-open_tables.tables in
    let first = c.in-Ok.ensures.read in
    let o = c.in-Ok-open_tables.ensures in
    let whole = mounted_whole t c.in-Ok.clusters s₀ s₁ first o.read (o.spells (first.keeps.tells ∙ told)) o.clusters in
    ok_then c.with_maps.result (λ (u : Tables g.row.D.Denot g.D.Disk). ReadsOnly t u)
    (λ (u : Tables g.row.D.Denot g.D.Disk). AreTablesOf u.clusters s₀.image (tables_now u))
    (λ u reads. whole_on t u reads s₀.image whole) c.with_maps.ensures.reads

pub returns-in-Ok-open_tables-clause-goes_on : goal.returns-in-Ok-open_tables-clause-goes_on
returns-in-Ok-open_tables-clause-goes_on g c told =
    let s₀ = g.D.Disk.state c.args.disk in
    let s₁ = g.D.Disk.state c.read_front.new.disk in
    let t = c.in-Ok-open_tables.tables in
    let first = c.in-Ok.ensures.read in
    let o = c.in-Ok-open_tables.ensures in
    let on = mounted_goes_on t c.in-Ok.clusters s₀ s₁ first o.read (o.spells (first.keeps.tells ∙ told)) o.clusters in
    ok_then c.with_maps.result (λ (u : Tables g.row.D.Denot g.D.Disk). ReadsOnly t u)
    (λ (u : Tables g.row.D.Denot g.D.Disk). IsToldBy u s₀.image)
    (λ u reads. goes_still_on t u reads s₀.image on) c.with_maps.ensures.reads

pub returns-in-Ok-open_tables-clause-tables : goal.returns-in-Ok-open_tables-clause-tables
returns-in-Ok-open_tables-clause-tables g c told =
    let s₀ = g.D.Disk.state c.args.disk in
    let s₁ = g.D.Disk.state c.read_front.new.disk in
    let t = c.in-Ok-open_tables.tables in
    let first = c.in-Ok.ensures.read in
    let o = c.in-Ok-open_tables.ensures in
    let is = mounted_tables t c.in-Ok.clusters s₀ s₁ first o.read (o.spells (first.keeps.tells ∙ told)) o.clusters
    o.opened.space in
    ok_then c.with_maps.result (λ (u : Tables g.row.D.Denot g.D.Disk). ReadsOnly t u)
    (λ (u : Tables g.row.D.Denot g.D.Disk). IsTables u (tables_now u))
    (λ u reads. read_on t u reads is) c.with_maps.ensures.reads

pub returns-in-Ok-open_tables-clause-kept : goal.returns-in-Ok-open_tables-clause-kept
returns-in-Ok-open_tables-clause-kept g c told =
    let s₀ = g.D.Disk.state c.args.disk in
    let s₁ = g.D.Disk.state c.read_front.new.disk in
    let t = c.in-Ok-open_tables.tables in
    let n = c.in-Ok.clusters in
    let first = c.in-Ok.ensures.read in
    let o = c.in-Ok-open_tables.ensures in
    let from = o.spells (first.keeps.tells ∙ told) in
    let is = mounted_tables t n s₀ s₁ first o.read from o.clusters o.opened.space in
    ok_known c.with_maps.result (λ (u : Tables g.row.D.Denot g.D.Disk). ReadsOnly t u)
    (λ (u : Tables g.row.D.Denot g.D.Disk). Kept (area_of u) (disk_of u) (view_now u))
    (λ u ok reads. kept_on t u reads (mounted_kept t n s₀ s₁ first o.read from
    (c.with_maps.ensures.maps (tables_now t, is) ok) o.clusters (c.in-Ok.ensures.image told)
    (c.in-Ok.ensures.settled told))) c.with_maps.ensures.reads

pub returns-in-Ok-open_tables-clause-opened : goal.returns-in-Ok-open_tables-clause-opened
returns-in-Ok-open_tables-clause-opened g c =
    let t = c.in-Ok-open_tables.tables in
    ok_then c.with_maps.result (λ (u : Tables g.row.D.Denot g.D.Disk). ReadsOnly t u)
    (λ (u : Tables g.row.D.Denot g.D.Disk). IsOpened u)
    (λ u reads. opened_on t u reads c.in-Ok-open_tables.ensures.opened) c.with_maps.ensures.reads

pub returns-in-Ok-open_tables-clause-maps : goal.returns-in-Ok-open_tables-clause-maps
returns-in-Ok-open_tables-clause-maps g c =
    let s₀ = g.D.Disk.state c.args.disk in
    let s₁ = g.D.Disk.state c.read_front.new.disk in
    let t = c.in-Ok-open_tables.tables in
    let first = c.in-Ok.ensures.read in
    let o = c.in-Ok-open_tables.ensures in
    ok_known c.with_maps.result (λ (u : Tables g.row.D.Denot g.D.Disk). ReadsOnly t u)
    (λ (u : Tables g.row.D.Denot g.D.Disk). HasMaps u)
    (λ u ok reads told.
    let there : IsTrue (disk_of t).tells = sym reads.leaves.tells ∙ told in
    let before : IsTrue s₁.tells = sym o.read.keeps.tells ∙ there in
    let is = mounted_tables t c.in-Ok.clusters s₀ s₁ first o.read (o.spells before) o.clusters o.opened.space in
    maps_read t u reads (λ known. c.with_maps.ensures.maps (tables_now t, is) ok) told) c.with_maps.ensures.reads

pub returns-in-Ok-open_tables-clause-refused : goal.returns-in-Ok-open_tables-clause-refused
returns-in-Ok-open_tables-clause-refused g c =
    let s₀ = g.D.Disk.state c.args.disk in
    let s₁ = g.D.Disk.state c.read_front.new.disk in
    let t = c.in-Ok-open_tables.tables in
    let first = c.in-Ok.ensures.read in
    let o = c.in-Ok-open_tables.ensures in
    err_then c.with_maps.result
    (λ (e : g.row.D.Denot × MountFault). IsMapsFault t (g.D.Disk.state e.0) e.1)
    (λ (e : g.row.D.Denot × MountFault). IsMountFault s₀ (g.D.Disk.state e.0) e.1)
    (λ e why. maps_refused t c.in-Ok.clusters s₀ s₁ first o.read (g.D.Disk.state e.0) e.1 o.clusters o.opened
    (λ told. o.spells (first.keeps.tells ∙ told)) (λ told. c.in-Ok.ensures.image told) why) c.with_maps.ensures.refused

pub returns-in-Ok-open_tables-clause-read : goal.returns-in-Ok-open_tables-clause-read
returns-in-Ok-open_tables-clause-read g c =
    let s₀ = g.D.Disk.state c.args.disk in
    let s₁ = g.D.Disk.state c.read_front.new.disk in
    let t = c.in-Ok-open_tables.tables in
    let before : IsOnlyRead s₀ (disk_of t) = only_then s₀ s₁ (disk_of t) c.in-Ok.ensures.read
    c.in-Ok-open_tables.ensures.read in
    ok_then c.with_maps.result (λ (u : Tables g.row.D.Denot g.D.Disk). ReadsOnly t u)
    (λ (u : Tables g.row.D.Denot g.D.Disk). IsOnlyRead s₀ (disk_of u))
    (λ u reads. only_then s₀ (disk_of t) (disk_of u) before reads.only) c.with_maps.ensures.reads

pub returns-in-Ok-open_tables-clause-read_err : goal.returns-in-Ok-open_tables-clause-read_err
returns-in-Ok-open_tables-clause-read_err g c =
    let s₀ = g.D.Disk.state c.args.disk in
    let s₁ = g.D.Disk.state c.read_front.new.disk in
    let t = c.in-Ok-open_tables.tables in
    let before : IsOnlyRead s₀ (disk_of t) = only_then s₀ s₁ (disk_of t) c.in-Ok.ensures.read
    c.in-Ok-open_tables.ensures.read in
    err_then c.with_maps.result (λ (e : g.row.D.Denot × MountFault). IsOnlyRead (disk_of t) (g.D.Disk.state e.0))
    (λ (e : g.row.D.Denot × MountFault). IsOnlyRead s₀ (g.D.Disk.state e.0))
    (λ e second. only_then s₀ (disk_of t) (g.D.Disk.state e.0) before second) c.with_maps.ensures.read_err

pub returns-in-Ok-open_tables-clause-same : goal.returns-in-Ok-open_tables-clause-same
returns-in-Ok-open_tables-clause-same g c =
    let t = c.in-Ok-open_tables.tables in
    let next = g.met.D.Disk.same_next in
    let before = next c.args.disk c.read_front.new.disk t.log.disk c.in-Ok.ensures.same
    c.in-Ok-open_tables.ensures.same in
    ok_then c.with_maps.result (λ (u : Tables g.row.D.Denot g.D.Disk). ReadsOnly t u)
    (λ (u : Tables g.row.D.Denot g.D.Disk). g.D.Disk.is_same c.args.disk u.log.disk)
    (λ u reads. next c.args.disk t.log.disk u.log.disk before reads.leaves.same) c.with_maps.ensures.reads

pub returns-in-Ok-open_tables-clause-same_err : goal.returns-in-Ok-open_tables-clause-same_err
returns-in-Ok-open_tables-clause-same_err g c =
    let t = c.in-Ok-open_tables.tables in
    let next = g.met.D.Disk.same_next in
    let before = next c.args.disk c.read_front.new.disk t.log.disk c.in-Ok.ensures.same
    c.in-Ok-open_tables.ensures.same in
    err_then c.with_maps.result (λ (e : g.row.D.Denot × MountFault). g.D.Disk.is_same t.log.disk e.0)
    (λ (e : g.row.D.Denot × MountFault). g.D.Disk.is_same c.args.disk e.0)
    (λ e second. next c.args.disk t.log.disk e.0 before second) c.with_maps.ensures.same_err

pub returns-in-Err-open_tables-clause-refused : goal.returns-in-Err-open_tables-clause-refused
returns-in-Err-open_tables-clause-refused g c =
    let e = c.in-Err-open_tables.refusal in
    inner_refused c.in-Ok.clusters (g.D.Disk.state c.args.disk) (g.D.Disk.state c.read_front.new.disk)
    (g.D.Disk.state e.0) c.in-Ok.ensures.read e.1 (λ told. c.in-Ok.ensures.image told)
    c.in-Err-open_tables.ensures.refused
