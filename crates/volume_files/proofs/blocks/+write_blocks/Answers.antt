use Rattle.std.proofs.Common.{◌≡◌, ◌≤◌, ◌<◌, ◌+◌, ◌-◌, ◌*◌, ℕ, length, sym, ◌∙◌, ap, subst, arith}
use Rattle.std.specs.Prelude.{Option}
use Rattle.std.specs.FinMap.{find}
use Rattle.cluster_space.specs.declared.state.State.TheVariants.{Used, Deferred}
use Rattle.table_records.specs.Keys.{pair_cmp}
use Rattle.table_records.specs.declared.records.Extent.{Extent}
use Rattle.volume_inside.specs.Inside.{block_of}
use Rattle.volume_inside.specs.Layout.{first_data_cluster, half_bytes}
use Rattle.volume_inside.specs.Typed.{Typed, FileBlock}
use Rattle.volume_tables.specs.Clusters.{HasState}
use Rattle.volume_tables.specs.Tables.{tables_now, inside_now, new_bytes, checkpoint_of, disk_of}
use Rattle.volume_tables.proofs.Leaving.{leaves_then, found_used}
use Rattle.volume_files.specs.Edges.{edge_byte}
use Rattle.volume_files.specs.Needs.{missing}
use Rattle.volume_files.specs.Writing.{blocks_up_to}
use Rattle.volume_files.proofs.Extents.{found_put}
use Rattle.volume_files.proofs.Setting.{sorted_now, held_now}
use Rattle.volume_files.proofs.States.{places_differ, used_is_not_deferred}
use Rattle.volume_files.proofs.Touched.{fits_next, extents_then, cell_apart}
use Rattle.volume_files.proofs.Spent.{spends_none, spends_then, spends_block}
use Rattle.volume_files.proofs.Insides.{blocks_then}
use Rattle.volume_files.proofs.blocks.+write_blocks.Goals as goal

pub write_blocks-requires : goal.write_blocks-requires
write_blocks-requires g t c κs within =
    let a = c.args.tables.now in
    let u = c.write_block.new.tables in
    let to : ℕ = c.args.at + length c.args.bytes.now in
    let w = c.in_ok-written.ensures in
    let low : 4096 * c.args.index < to = omega arith in
    let fewer : blocks_up_to to (c.args.index + 1) + 1 ≡ blocks_up_to to c.args.index = omega arith in
    let fits : checkpoint_of u + 24 * missing (tables_now u) c.args.file (c.args.index + 1)
    (blocks_up_to to (c.args.index + 1)) ≤ half_bytes a.clusters =
    fits_next (tables_now a) (tables_now u) c.args.file c.args.index to (checkpoint_of a) (checkpoint_of u)
    (half_bytes a.clusters) c.in_ok-written.written.extent low w.ok c.requires.fits
    (w.checkpoint ∙ ap (λ (o : Option Extent). checkpoint_of a + new_bytes o 24) c.get_extent-was.ensures) in (
      omega arith,
      (
        within,
        (
          w.runs,
          (
            w.rules,
            (
              c.requires.short,
              (
                c.requires.reach,
                (
                  c.requires.most,
                  (
                    omega (arith, c.requires.from_first),
                    (
                      omega (arith, fewer, w.free, c.requires.clusters),
                      (
                        omega (arith, fewer, w.staged, c.requires.room),
                        (
                          subst (λ (n : ℕ). checkpoint_of u + 24 * missing (tables_now u) c.args.file
                              (c.args.index + 1) (blocks_up_to to (c.args.index + 1)) ≤ half_bytes n)
                              (sym w.leaves.clusters) fits,
                          (w.free_ahead, w.filled),
                        ),
                      ),
                    ),
                  ),
                ),
              ),
            ),
          ),
        ),
      ),
    )

pub restore_extent-requires-clause-there : goal.restore_extent-requires-clause-there
restore_extent-requires-clause-there g t c =
    let k : FileBlock = (c.args.file, c.args.index) in
    let e = c.in_ok-written.written.extent in
    ap (λ (q : Typed). find pair_cmp k q.extents) (c.in-Err.ensures.err ∙ c.in_ok-written.ensures.ok)
    ∙ found_put k e (tables_now c.args.tables.now).extents

pub restore_extent-requires-clause-deferred : goal.restore_extent-requires-clause-deferred
restore_extent-requires-clause-deferred g t c o was =
    let has = c.in_ok-written.ensures.replaced o was in
    let clusters = c.write_blocks.ensures.leaves.clusters in
    let there : first_data_cluster c.write_blocks.new.tables.clusters ≡ first_data_cluster
    c.write_block.new.tables.clusters = ap first_data_cluster clusters in
    subst (λ (n : ℕ). HasState n c.write_blocks.new.tables.space Deferred o.cluster) (sym clusters)
    (record {
      from_first = has.from_first;
      is = c.in-Err.ensures.deferred
          (o.cluster - first_data_cluster c.write_block.new.tables.clusters) has.is;
    })

pub returns-in-Ok-clause-ok : goal.returns-in-Ok-clause-ok
returns-in-Ok-clause-ok g t c =
    extents_then c.args.file c.args.index (c.args.at + length c.args.bytes.now) (tables_now c.args.tables.now)
    (tables_now c.write_block.new.tables) (tables_now c.write_blocks.new.tables)
    c.in_ok-written.written.extent (omega arith) c.in_ok-written.ensures.ok c.in-Ok.ensures.ok

pub returns-in-Ok-clause-others : goal.returns-in-Ok-clause-others
returns-in-Ok-clause-others g t c other p record_of differ =
    let image = (disk_of c.write_block.new.tables).image in
    c.in-Ok.ensures.others other p record_of differ
    ∙ cell_apart (inside_now c.args.tables.now) (inside_now c.write_block.new.tables) c.args.file c.args.index
    (block_of c.in_ok-written.written.extent image) other p record_of differ
    c.in_ok-written.ensures.inside

pub returns-in-Ok-clause-leaves : goal.returns-in-Ok-clause-leaves
returns-in-Ok-clause-leaves g t c =
    leaves_then g.met.D.Disk.same_next c.args.tables.now c.write_block.new.tables c.write_blocks.new.tables
    c.write_block.ensures.leaves c.write_blocks.ensures.leaves

pub returns-in-Err-clause-err : goal.returns-in-Err-clause-err
returns-in-Err-clause-err g t c =
    let a = c.args.tables.now in
    c.restore_extent.ensures.tables (tables_now a) c.in_ok-written.written.extent (sorted_now a) (sym c.get_extent-was.ensures)
    (c.in-Err.ensures.err ∙ c.in_ok-written.ensures.ok)

pub returns-in-Err-clause-leaves : goal.returns-in-Err-clause-leaves
returns-in-Err-clause-leaves g t c =
    let next = g.met.D.Disk.same_next in
    leaves_then next c.args.tables.now c.write_block.new.tables c.restore_extent.new.tables c.write_block.ensures.leaves
    (leaves_then next c.write_block.new.tables c.write_blocks.new.tables c.restore_extent.new.tables
    c.write_blocks.ensures.leaves c.restore_extent.ensures.leaves)

pub returns-in-Err-clause-deferred : goal.returns-in-Err-clause-deferred
returns-in-Err-clause-deferred g t c k is =
    let a = c.args.tables.now in
    let key : FileBlock = (c.args.file, c.args.index) in
    let clusters : c.write_blocks.new.tables.clusters ≡ a.clusters = c.write_blocks.ensures.leaves.clusters
    ∙ c.write_block.ensures.leaves.clusters in
    let first : first_data_cluster c.write_blocks.new.tables.clusters ≡ first_data_cluster a.clusters = ap
    first_data_cluster clusters in
    c.restore_extent.ensures.deferred k (c.in-Err.ensures.deferred k (c.write_block.ensures.fewer.deferred k is))
    (λ o was same.
    let has = found_used a.clusters key o a.space (tables_now a) (held_now a) a.spaces
    (sym c.get_extent-was.ensures ∙ was) in
    let place : o.cluster - first_data_cluster a.clusters ≡ k = omega (arith, same, first, has.from_first) in
    places_differ a.space (o.cluster - first_data_cluster a.clusters) k Used Deferred used_is_not_deferred has.is is
    place)

pub returns-in_err-written-clause-spends : goal.returns-in_err-written-clause-spends
returns-in_err-written-clause-spends g t c =
    spends_none (blocks_up_to (c.args.at + length c.args.bytes.now) c.args.index) 0 c.args.tables.now
    c.write_block.new.tables c.in_err-written.ensures.err

pub returns-in-Ok-clause-spends : goal.returns-in-Ok-clause-spends
returns-in-Ok-clause-spends g t c =
    let a = c.args.tables.now in
    let u = c.write_block.new.tables in
    let to : ℕ = c.args.at + length c.args.bytes.now in
    let low : 4096 * c.args.index < to = omega arith in
    let fewer : blocks_up_to to (c.args.index + 1) + 1 ≡ blocks_up_to to c.args.index = omega arith in
    spends_then 1 (blocks_up_to to (c.args.index + 1)) (blocks_up_to to c.args.index) a u c.write_blocks.new.tables
    (spends_block a u (c.args.file, c.args.index) c.in_ok-written.written.extent c.in_ok-written.ensures.ok)
    c.write_blocks.ensures.spends (omega (arith, fewer))

pub returns-in-Err-clause-spends : goal.returns-in-Err-clause-spends
returns-in-Err-clause-spends g t c =
    let a = c.args.tables.now in
    spends_none (blocks_up_to (c.args.at + length c.args.bytes.now) c.args.index) 0 a c.restore_extent.new.tables
    (c.restore_extent.ensures.tables (tables_now a) c.in_ok-written.written.extent (sorted_now a)
    (sym c.get_extent-was.ensures) (c.in-Err.ensures.err ∙ c.in_ok-written.ensures.ok))

pub returns-in-Ok-clause-inside : goal.returns-in-Ok-clause-inside
returns-in-Ok-clause-inside g t c stored is ahead =
    let a = c.args.tables.now in
    let u = c.write_block.new.tables in
    let e = c.in_ok-written.written.extent in
    c.in-Ok.ensures.inside stored (c.write_block.ensures.leaves.tables stored is)
    (c.in_ok-written.ensures.ahead stored is ahead)
    ∙ blocks_then c.args.file c.args.grown.length c.args.at c.args.bytes.now (edge_byte c.args.edges.now c.args.at)
    c.args.index (c.args.at + length c.args.bytes.now) (inside_now a) (inside_now u) (block_of e (disk_of u).image) (omega arith)
    c.in_ok-written.ensures.inside (c.in_ok-written.ensures.block stored is ahead)

pub returns-in-Ok-clause-staged : goal.returns-in-Ok-clause-staged
returns-in-Ok-clause-staged g t c =
    let to : ℕ = c.args.at + length c.args.bytes.now in
    let low : 4096 * c.args.index < to = omega arith in
    let fewer : blocks_up_to to (c.args.index + 1) + 1 ≡ blocks_up_to to c.args.index = omega arith in
    omega (arith, fewer, c.in_ok-written.ensures.staged, c.in-Ok.ensures.staged)

pub returns-in-Ok-clause-taken : goal.returns-in-Ok-clause-taken
returns-in-Ok-clause-taken g t c =
    let to : ℕ = c.args.at + length c.args.bytes.now in
    let low : 4096 * c.args.index < to = omega arith in
    let fewer : blocks_up_to to (c.args.index + 1) + 1 ≡ blocks_up_to to c.args.index = omega arith in
    omega (arith, fewer, c.in_ok-written.ensures.free, c.in-Ok.ensures.taken)
