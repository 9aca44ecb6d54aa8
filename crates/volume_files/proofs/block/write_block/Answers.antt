use Rattle.std.proofs.Common.{◌≡◌, ◌+◌, ◌-◌, ◌*◌, ℕ, List, take, length, min, sym, ◌∙◌, ap, subst, arith}
use Rattle.std.specs.FinMap.{find}
use Rattle.table_records.specs.Keys.{pair_cmp}
use Rattle.volume_inside.specs.Inside.{Inside, block_of, cluster_bytes, inside_at}
use Rattle.volume_inside.specs.Typed.{Typed, FileBlock}
use Rattle.volume_inside.specs.Changes.{with_block}
use Rattle.volume_tables.specs.Tables.{tables_now, disk_of}
use Rattle.volume_tables.proofs.Leaving.{leaves_then}
use Rattle.volume_files.specs.Edges.{edge_byte}
use Rattle.volume_files.specs.Writing.{without_first, AreAhead, AreFilled}
use Rattle.volume_files.proofs.Ahead.{free_still, first_free, rest_free, first_low, first_whole}
use Rattle.volume_files.proofs.BlockSet.{rules_same, rules_block, inside_set}
use Rattle.volume_files.proofs.Insides.{block_is_written}
use Rattle.volume_files.proofs.block.write_block.Goals as goal

pub name_block-requires-clause-some : goal.name_block-requires-clause-some
name_block-requires-clause-some g c =
    let h = c.write_ahead.new.tables in
    let w = c.in_ok-ready.ensures in
    first_free h h c.in_ok-ready.ready w.some
    (free_still c.args.tables.now h c.in_ok-ready.ready c.write_ahead.ensures.leaves.clusters c.write_ahead.ensures.states
    w.free)

pub overflow_add-result : goal.overflow_add-result
overflow_add-result g c =
    let low = first_low c.args.tables.now c.args.tables.now c.in_ok-ready.ready c.in_ok-ready.ensures.some
    c.in_ok-ready.ensures.free in
    omega (arith, low)

pub returns-clause-rules : goal.returns-clause-rules
returns-clause-rules g c =
    let t = c.args.tables.now in
    let h = c.write_ahead.new.tables in
    let s = c.name_block.new.tables in
    let k : FileBlock = (c.args.key.0, c.args.key.1) in
    let n = c.in_ok-extent.ensures in
    let valid = n.valid in
    rules_block h s k c.args.grown c.name_block.ensures.leaves.clusters
    (rules_same t h k c.args.grown c.write_ahead.ensures.leaves.clusters c.requires.rules c.write_ahead.ensures.now)
    c.in_ok-extent.extent n.ok (omega (arith, valid)) (omega (arith, valid)) (omega (arith, valid))

pub returns-clause-inside : goal.returns-clause-inside
returns-clause-inside g c =
    let h = c.write_ahead.new.tables in
    let s = c.name_block.new.tables in
    let k : FileBlock = (c.args.key.0, c.args.key.1) in
    let e = c.in_ok-extent.extent in
    inside_set h s k e c.in_ok-extent.ensures.ok
    (ap (λ (image : List ℕ). inside_at (tables_now h) image) c.name_block.ensures.image)
    ∙ ap (λ (i : Inside). with_block k (block_of e (disk_of s).image) i) c.write_ahead.ensures.same

pub returns-clause-block : goal.returns-clause-block
returns-clause-block g c stored is ahead =
    let h = c.write_ahead.new.tables in
    let run = c.in_ok-ready.ready in
    let index = c.args.key.1 in
    let len = c.args.grown.length in
    let valid = c.min-valid.result in
    let n = c.in_ok-extent.ensures in
    let whole = first_whole h h run c.in_ok-ready.ensures.some
    (free_still c.args.tables.now h run c.write_ahead.ensures.leaves.clusters c.write_ahead.ensures.states
    c.in_ok-ready.ensures.free) in
    let size : valid ≡ min 4096 (len - 4096 * index) = omega arith in
    (λ i. take (n.valid i) (cluster_bytes (n.cluster i) (c.name_block.ensures.image i)))
    ∙ block_is_written len c.args.at index c.args.bytes.now (cluster_bytes run.first (disk_of h).image) valid
    (edge_byte c.args.edges.now c.args.at) whole size (c.in_ok-ready.ensures.block stored is ahead)

pub returns-clause-free_ahead : goal.returns-clause-free_ahead
returns-clause-free_ahead g c =
    let t = c.args.tables.now in
    let h = c.write_ahead.new.tables in
    let run = c.in_ok-ready.ready in
    rest_free h c.name_block.new.tables run c.in_ok-extent.ensures.others
    (free_still t h run c.write_ahead.ensures.leaves.clusters c.write_ahead.ensures.states c.in_ok-ready.ensures.free)

pub returns-clause-filled : goal.returns-clause-filled
returns-clause-filled g c =
    let next : 4096 * c.args.key.1 + 4096 ≡ 4096 * (c.args.key.1 + 1) = omega arith in
    subst (λ (start : ℕ). AreFilled start c.args.at (length c.args.bytes.now) (c.in_ok-ready.ready.count - 1)) next
    c.in_ok-ready.ensures.filled

pub returns-clause-ahead : goal.returns-clause-ahead
returns-clause-ahead g c stored is ahead =
    let next : 4096 * c.args.key.1 + 4096 ≡ 4096 * (c.args.key.1 + 1) = omega arith in
    subst (λ (p : ℕ × List ℕ). AreAhead p.0 c.args.at c.args.bytes.now (without_first c.in_ok-ready.ready) p.1)
    (λ i. (next i, sym c.name_block.ensures.image i))
    (c.in_ok-ready.ensures.ahead stored is ahead)

pub returns-clause-leaves : goal.returns-clause-leaves
returns-clause-leaves g c =
    leaves_then g.met.D.Disk.same_next c.args.tables.now c.write_ahead.new.tables c.name_block.new.tables
    c.write_ahead.ensures.leaves c.name_block.ensures.leaves

pub returns-clause-replaced : goal.returns-clause-replaced
returns-clause-replaced g c o was =
    let k : FileBlock = (c.args.key.0, c.args.key.1) in
    c.in_ok-extent.ensures.replaced o (ap (λ (q : Typed). find pair_cmp k q.extents) c.write_ahead.ensures.now
    ∙ sym c.requires.is ∙ was)

pub returns-clause-frame : goal.returns-clause-frame
returns-clause-frame g c q apart =
    ap (λ (image : List ℕ). inside_at q image) c.name_block.ensures.image ∙ c.write_ahead.ensures.frame q apart

pub returns-in_err-extent-clause-leaves : goal.returns-in_err-extent-clause-leaves
returns-in_err-extent-clause-leaves g c =
    leaves_then g.met.D.Disk.same_next c.args.tables.now c.write_ahead.new.tables c.name_block.new.tables
    c.write_ahead.ensures.leaves c.name_block.ensures.leaves
