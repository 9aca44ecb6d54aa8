use Rattle.std.proofs.Common.{◌≡◌, ◌++◌, ◌+◌, ◌*◌, ℕ, List, length, take, drop, sym, ap, ◌∙◌, arith}
use Rattle.std.proofs.lemmas.List.{length-take-le, take-take}
use Rattle.std.proofs.lemmas.Result.{on_ok_weaker}
use Rattle.vdisk.specs.Ranges.{part}
use Rattle.volume_inside.specs.Inside.{block_of}
use Rattle.volume_tables.specs.Tables.{disk_of}
use Rattle.volume_files.proofs.edges.read_extent.Goals as goal

pub returns-clause-bytes : goal.returns-clause-bytes
returns-clause-bytes g c stored is =
    let e = c.args.extent in
    let block = c.args.block.now in
    let image = (disk_of c.args.tables.now).image in
    let size : length (take e.valid block) ≡ e.valid = length-take-le e.valid block (omega arith) in
    let place : 4096 * e.cluster + 0 ≡ 4096 * e.cluster = omega arith in
    let named : part (4096 * e.cluster) e.valid image ≡ block_of e image =
    sym (take-take e.valid 4096 (drop (4096 * e.cluster) image) c.requires.readable.in_cluster) in
    on_ok_weaker c.read_run.result
    (λ read. ap (λ (xs : List ℕ). xs ++ drop e.valid block)
    (read ∙ (λ i. part (place i) (size i) image) ∙ named))
    (c.read_run.ensures.bytes stored is)
