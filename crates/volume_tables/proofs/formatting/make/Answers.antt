use Rattle.std.proofs.Common.{◌∙◌, ℕ, ap, subst, sym, length}
use Rattle.meta_log.specs.Log.{state_of, now_of}
use Rattle.vdisk.specs.Steps.{Keeps}
use Rattle.meta_log.specs.Log.{IsLog}
use Rattle.meta_log.specs.declared.log.MetaLog.{MetaLog}
use Rattle.volume_inside.specs.Fresh.{fresh_map}
use Rattle.volume_tables.specs.Formats.{SpellsFresh, IsMakeImage}
use Rattle.volume_inside.specs.Fresh.{fresh_tables}
use Rattle.volume_inside.specs.Typed.{typed_of}
use Rattle.volume_inside.proofs.Freshness.{fresh_typed}
use Rattle.volume_tables.proofs.Told.{told_by_image}
use Rattle.volume_tables.proofs.Committed.{formatted_tables, formatted_kept}
use Rattle.volume_tables.proofs.Formatted.{make_start, make_records}
use Rattle.volume_tables.proofs.formatting.make.Goals as goal

pub returns-in-Ok-commit_first-clause-tables : goal.returns-in-Ok-commit_first-clause-tables
returns-in-Ok-commit_first-clause-tables g c told =
    let log = c.in-Ok-commit_first.ensures.log (c.in-Ok-make_log.ensures.log told) in
    formatted_tables c.assemble.result c.args.clusters c.assemble.ensures.clusters
    (ap (λ (l : MetaLog g.row.D.Denot g.D.Disk). typed_of (now_of l)) c.assemble.ensures.log
    ∙ ap typed_of c.in-Ok-commit_first.ensures.now ∙ fresh_typed)
    (subst (λ (l : MetaLog g.row.D.Denot g.D.Disk). IsLog l fresh_map) (sym c.assemble.ensures.log) log)

pub returns-in-Ok-commit_first-clause-kept : goal.returns-in-Ok-commit_first-clause-kept
returns-in-Ok-commit_first-clause-kept g c told =
    let made = c.in-Ok-make_log.log in
    let image = (g.D.Disk.state made.disk).image in
    formatted_kept c.assemble.result c.args.clusters c.assemble.ensures.clusters image
    (c.in-Ok-make_log.ensures.superblock told) c.in-Ok-make_log.ensures.size
    (λ q left.
    let before = subst (λ (l : MetaLog g.row.D.Denot g.D.Disk). (g.D.Disk.state l.disk).may_leave q)
    c.assemble.ensures.log left in
    let settled = c.in-Ok-commit_first.ensures.settled (c.in-Ok-make_log.ensures.log told) q before in
    subst (λ (k : ℕ). SpellsFresh 4096 k image q) c.in-Ok-make_log.ensures.half
    (subst (λ (k : ℕ). SpellsFresh k made.half image q) c.in-Ok-make_log.ensures.at settled))

pub returns-in-Ok-commit_first-clause-same : goal.returns-in-Ok-commit_first-clause-same
returns-in-Ok-commit_first-clause-same g c =
    let made = c.in-Ok-make_log.log in
    let done = c.in-Ok-commit_first.log in
    let same = g.met.D.Disk.same_next c.args.disk made.disk done.disk c.in-Ok-make_log.ensures.same
    c.in-Ok-commit_first.ensures.same in
    subst (λ (l : MetaLog g.row.D.Denot g.D.Disk). g.D.Disk.is_same c.args.disk l.disk)
    (sym c.assemble.ensures.log) same

pub returns-in-Err-clause-moments_err : goal.returns-in-Err-clause-moments_err
returns-in-Err-clause-moments_err g c told = make_start c.args.clusters (g.D.Disk.state c.args.disk)

pub returns-in-Ok-commit_first-clause-moments : goal.returns-in-Ok-commit_first-clause-moments
returns-in-Ok-commit_first-clause-moments g c told =
    let made = c.in-Ok-make_log.log in
    let m = c.in-Ok-make_log.ensures in
    let s₀ = g.D.Disk.state c.args.disk in
    subst (λ (l : MetaLog g.row.D.Denot g.D.Disk). Keeps s₀ (state_of l) (IsMakeImage c.args.clusters s₀))
    (sym c.assemble.ensures.log)
    (make_records c.args.clusters s₀ (state_of made) (state_of c.in-Ok-commit_first.log) made.at made.half
    (length (state_of made).image) m.at m.half m.size (m.moments told)
    (c.in-Ok-commit_first.ensures.moments (m.log told)))

pub returns-in-Err-commit_first-clause-moments_err : goal.returns-in-Err-commit_first-clause-moments_err
returns-in-Err-commit_first-clause-moments_err g c told =
    let made = c.in-Ok-make_log.log in
    let m = c.in-Ok-make_log.ensures in
    let s₀ = g.D.Disk.state c.args.disk in
    make_records c.args.clusters s₀ (state_of made) (g.D.Disk.state c.in-Err-commit_first.fault.0) made.at made.half
    (length (state_of made).image) m.at m.half m.size (m.moments told)
    (c.in-Err-commit_first.ensures.moments_err (m.log told))

pub returns-in-Err-commit_first-clause-same_err : goal.returns-in-Err-commit_first-clause-same_err
returns-in-Err-commit_first-clause-same_err g c =
    g.met.D.Disk.same_next c.args.disk c.in-Ok-make_log.log.disk c.in-Err-commit_first.fault.0
    c.in-Ok-make_log.ensures.same c.in-Err-commit_first.ensures.same_err

pub returns-in-Ok-commit_first-clause-goes_on : goal.returns-in-Ok-commit_first-clause-goes_on
returns-in-Ok-commit_first-clause-goes_on g c told =
    let log = c.in-Ok-commit_first.ensures.log (c.in-Ok-make_log.ensures.log told) in
    told_by_image c.assemble.result fresh_tables
    (formatted_tables c.assemble.result c.args.clusters c.assemble.ensures.clusters
    (ap (λ (l : MetaLog g.row.D.Denot g.D.Disk). typed_of (now_of l)) c.assemble.ensures.log
    ∙ ap typed_of c.in-Ok-commit_first.ensures.now ∙ fresh_typed)
    (subst (λ (l : MetaLog g.row.D.Denot g.D.Disk). IsLog l fresh_map) (sym c.assemble.ensures.log) log))
