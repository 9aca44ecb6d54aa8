use Rattle.std.proofs.Common.{◌≡◌, ◌+◌, ◌*◌, ◌/◌, ◌%◌, ℕ, length, take, drop, ◌∙◌, ap}
use Rattle.std.proofs.lemmas.List.{length-take-le}
use Rattle.vdisk.specs.Ranges.{part}
use Rattle.volume_tables.specs.Tables.{tables_now, inside_now, disk_of, clusters_in}
use Rattle.volume_files.proofs.ReadBytes.{extent_found, lying_read}
use Rattle.volume_files.proofs.stretches.read_held.Goals as goal

pub read_run-requires-clause-in_data : goal.read_run-requires-clause-in_data
read_run-requires-clause-in_data g c =
    let t = c.args.tables.now in
    let holds = extent_found (clusters_in t) (tables_now t) (c.args.file, c.args.place / 4096) c.args.first
    c.requires.first c.requires.extents in
    holds.in_data

pub returns-clause-bytes : goal.returns-clause-bytes
returns-clause-bytes g c stored is =
    let t = c.args.tables.now in
    let s = c.stretch_held-stretch.result in
    let image = (disk_of t).image in
    let start = 4096 * c.args.first.cluster + c.args.place % 4096 in
    let room : length (take s.count c.args.out.now) ≡ s.count =
    length-take-le s.count c.args.out.now c.stretch_held-stretch.ensures.is.fits in
    lying_read (inside_now t) image c.read_run.new.out (drop s.count c.args.out.now) c.args.file c.args.place start
    s.count (c.read_run.auto.out ∙ room)
    (c.in_ok-read_run.ensures.bytes stored is ∙ ap (λ (n : ℕ). part start n image) room)
    c.stretch_held-stretch.ensures.lie
