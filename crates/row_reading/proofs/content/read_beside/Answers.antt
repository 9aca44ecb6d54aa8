use Rattle.std.proofs.Common.{◌≡◌, ◌≤◌, ◌+◌, ◌*◌, ◌/◌, ◌%◌, ℕ, length, drop, arith, ◌∙◌, ap, subst}
use Rattle.std.proofs.lemmas.List.{take_at, length-take-le}
use Rattle.vdisk.specs.Ranges.{part}
use Rattle.volume_inside.specs.Layout.{IsDataCluster}
use Rattle.row_reading.proofs.Runs.{page_in_data, run_fits, run_is_part}
use Rattle.row_reading.proofs.content.read_beside.Goals as goal

pub read_run-requires-clause-in_data : goal.read_run-requires-clause-in_data
read_run-requires-clause-in_data g c =
    let t = g.D.ChunkDisk.chunks c.args.disk.now in
    let n = length (g.D.ChunkDisk.image c.args.disk.now) / 4096 in
    let first = c.run_at-run.result.first in
    let same : first + 0 ≡ first = omega arith in
    subst (λ (k : ℕ). IsDataCluster n k) same
    (page_in_data n (c.args.container, c.args.at / 4096 + 0) (first + 0) t.clusters c.requires.content.in_data
    (c.run_at-run.ensures.beside 0 (omega (arith, c.run_at-run.ensures.some))))

pub read_run-requires-clause-in_image : goal.read_run-requires-clause-in_image
read_run-requires-clause-in_image g c =
    let t = g.D.ChunkDisk.chunks c.args.disk.now in
    let image = g.D.ChunkDisk.image c.args.disk.now in
    let n = c.min-count.result in
    let most : n ≤ length c.args.out.now = omega arith in
    let some : 1 ≤ n = omega (arith, c.run_at-run.ensures.some, c.requires.some) in
    let short : c.args.at % 4096 + n ≤ 4096 * c.run_at-run.result.count = omega (arith, c.run_at-run.ensures.some) in
    let fits = run_fits t c.args.container image c.requires.content c.args.at c.run_at-run.result.first c.run_at-run.result.count n
    c.run_at-run.ensures.beside short (omega (arith, c.requires.within, most)) some in
    omega (arith, fits, length-take-le n c.args.out.now most)

pub returns-clause-bytes : goal.returns-clause-bytes
returns-clause-bytes g c tells =
    let t = g.D.ChunkDisk.chunks c.args.disk.now in
    let image = g.D.ChunkDisk.image c.args.disk.now in
    let n = c.min-count.result in
    let out = c.args.out.now in
    let most : n ≤ length out = omega arith in
    let some : 1 ≤ n = omega (arith, c.run_at-run.ensures.some, c.requires.some) in
    let short : c.args.at % 4096 + n ≤ 4096 * c.run_at-run.result.count = omega (arith, c.run_at-run.ensures.some) in
    let room = length-take-le n out most in
    let long : length c.read_run.new.out ≡ n = omega (arith, c.read_run.auto.out, room) in
    take_at c.read_run.new.out (drop n out) n long
    ∙ c.in_ok-read_run.ensures.bytes tells
    ∙ ap (λ (m : ℕ). part (4096 * c.run_at-run.result.first + c.args.at % 4096) m image) room
    ∙ run_is_part t c.args.container image c.requires.content c.args.at c.run_at-run.result.first c.run_at-run.result.count n
    c.run_at-run.ensures.beside short (omega (arith, c.requires.within, most)) some
