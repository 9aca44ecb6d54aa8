use Rattle.std.proofs.Common.{◌≡◌, ◌≤◌, ◌<◌, ◌+◌, ◌-◌, ◌*◌, ◌/◌, ◌%◌, ℕ, arith, ◌∙◌, ap, sym}
use Rattle.std.specs.FinMap.{find}
use Rattle.table_records.specs.Keys.{pair_cmp}
use Rattle.volume_tables.specs.Tables.{tables_now, disk_of, clusters_in}
use Rattle.volume_files.proofs.ReadBytes.{extent_found, lie_first, next_beside}
use Rattle.volume_files.proofs.stretches.stretch_held.Goals as goal

pub loop-count-init : goal.loop-count-init
loop-count-init g c =
    let t = c.args.tables.now in
    let e = c.args.first in
    let place = c.args.place in
    let holds = extent_found (clusters_in t) (tables_now t) (c.args.file, place / 4096) e c.requires.first
    c.requires.extents in
    let count = c.min-count.result in
    let last = holds.in_data.within in
    let fits = holds.in_cluster in
    let within : place % 4096 + count ≤ e.valid = omega arith in
    let block : place / 4096 ≡ (place + count - 1) / 4096 = omega (arith, within, fits) in
    record {
      some = omega arith;
      fits = omega arith;
      next = sym c.requires.first ∙ ap (λ (b : ℕ). find pair_cmp (c.args.file, b) (tables_now t).extents) block;
      within = omega (arith, within, fits, last);
      lie = lie_first (tables_now t) (disk_of t).image c.args.file place e fits count c.requires.first within;
    }

pub loop-count-preserved : goal.loop-count-preserved
loop-count-preserved g c =
    let t = c.args.tables.now in
    let place = c.args.place in
    let inv = c.loop-count.invariant in
    let count = c.loop-count.count in
    let beside = c.bytes_beside-beside.result in
    let more = c.min-count-in-loop-count.result in
    let some : 0 < beside = omega (arith, c.if-beside-eq0.false) in
    let whole : (place + count) % 4096 ≡ 0 = c.if-place-count-eq0.true in
    let within : more ≤ beside = omega arith in
    let longer = next_beside (clusters_in t) (tables_now t) (disk_of t).image c.args.file place
    (4096 * c.args.first.cluster + place % 4096) count beside more c.extent_at-next.result c.extent_at-next.ensures
    (c.bytes_beside-beside.ensures some) c.requires.extents whole within inv.lie in
    let fits = longer.0 in
    let any : 0 < more = omega arith in
    let block : (place + count) / 4096 ≡ (place + (count + more) - 1) / 4096 =
    omega (arith, whole, within, fits, any) in
    record {
      some = omega (arith, any);
      fits = omega arith;
      next = c.extent_at-next.ensures
          ∙ ap (λ (b : ℕ). find pair_cmp (c.args.file, b) (tables_now t).extents) block;
      within = longer.1;
      lie = longer.2;
    }
