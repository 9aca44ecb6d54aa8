use Rattle.std.proofs.Common.{◌≡◌, ◌≤◌, ◌<◌, ◌+◌, ◌-◌, ℕ, Some, length, take, drop, arith, ◌∙◌, ap, sym, length-take, length-drop}
use Rattle.std.specs.Ordering.{nat_cmp}
use Rattle.std.specs.FinMap.{find}
use Rattle.volume_inside.specs.Typed.{Typed}
use Rattle.volume_inside.specs.View.{file_cells}
use Rattle.plain_volume.specs.Volume.{bytes_of}
use Rattle.volume_tables.specs.Tables.{tables_now, inside_now, disk_of, clusters_in}
use Rattle.volume_tables.proofs.Rereads.{reads_then, same_inside}
use Rattle.rw_filter.specs.Own.{is_own}
use Rattle.rw_filter.proofs.OwnRead.{own_of, cells_length, cell_read, file_short, passed_bytes, read_bytes, read_kept}
use Rattle.rw_filter.proofs.Placed.{placed_length}
use Rattle.rw_filter.proofs.own_cells.read_own.Goals as goal

pub run_at-run-requires-clause-low : goal.run_at-run-requires-clause-low
run_at-run-requires-clause-low g c =
    let t = c.args.tables.now in
    let short = file_short (clusters_in t) (tables_now t) c.args.file c.args.found c.requires.rules c.requires.there in
    omega (arith, short, c.requires.within, c.loop-done.auto.out, c.loop-done.invariant.within)

pub read_plain-requires-clause-within : goal.read_plain-requires-clause-within
read_plain-requires-clause-within g c =
    let t = c.args.tables.now in
    let u = c.loop-done.tables in
    let inv = c.loop-done.invariant in
    let done = c.loop-done.done in
    let out = c.loop-done.out in
    let count = c.run_at-run.result.count in
    let fits = c.run_at-run.ensures.fits in
    let upper = length-take (done + count - done) (drop done out) in
    let there : find nat_cmp c.args.file (tables_now u).files ≡ Some c.args.found =
    ap (λ (v : Typed). find nat_cmp c.args.file v.files) inv.reads.now ∙ c.requires.there in
    let whole = cells_length (tables_now u) (disk_of u).image c.args.file c.args.found there in
    omega (arith, whole, upper, fits, inv.within, c.requires.within, c.loop-done.auto.out)

pub read_plain-requires-clause-own : goal.read_plain-requires-clause-own
read_plain-requires-clause-own g c p from to =
    let count = c.run_at-run.result.count in
    let done = c.loop-done.done in
    let out = c.loop-done.out in
    let upper = length-take (done + count - done) (drop done out) in
    let k = p - (c.args.at + done) in
    let place : c.args.at + done + k ≡ p = omega (arith, from) in
    own_of (tables_now c.loop-done.tables) c.args.file p
    (ap (is_own (tables_now c.loop-done.tables) c.args.file) (sym place)
    ∙ c.run_at-run.ensures.alike k (omega (arith, from, to, upper)) ∙ c.if-run.true)

pub returns-in_err-read_plain-clause-reads : goal.returns-in_err-read_plain-clause-reads
returns-in_err-read_plain-clause-reads g c =
    reads_then g.met.D.Disk.same_next c.args.tables.now c.loop-done.tables c.read_plain.new.tables
    c.loop-done.invariant.reads c.read_plain.ensures.reads

pub loop-done-preserved-in_ok-read_plain : goal.loop-done-preserved-in_ok-read_plain
loop-done-preserved-in_ok-read_plain g c =
    let t = c.args.tables.now in
    let u = c.loop-done.tables in
    let inv = c.loop-done.invariant in
    let file = c.args.file in
    let done = c.loop-done.done in
    let out = c.loop-done.out in
    let count = c.run_at-run.result.count in
    let fits = c.run_at-run.ensures.fits in
    let n = done + count - done in
    let is_n : n ≡ count = omega arith in
    let piece = c.read_plain.new.out in
    let long : length piece ≡ n =
    omega (arith, c.read_plain.auto.out, length-take n (drop done out), length-drop done out, fits, inv.within) in
    let room : done + n ≤ length out = omega (arith, fits, inv.within) in
    let asked : length (take n (drop done out)) ≡ count =
    omega (arith, length-take n (drop done out), length-drop done out, fits, inv.within) in
    let alike : (k : ℕ) → k < count → is_own (tables_now t) file (c.args.at + done + k) ≡ c.run_at-run.result.own =
    λ k low. ap (λ (v : Typed). is_own v file (c.args.at + done + k)) (sym inv.reads.now)
    ∙ c.run_at-run.ensures.alike k low in
    record {
      within = omega (arith, placed_length done n out piece long room, room, is_n);
      reads = reads_then g.met.D.Disk.same_next t u c.read_plain.new.tables inv.reads c.read_plain.ensures.reads;
      bytes = λ stored is.
          read_bytes (tables_now t) (inside_now t) file c.args.at done count c.args.found c.run_at-run.result.own alike
          c.if-run.true out c.args.out.now piece n is_n long room (inv.bytes stored is)
          (cell_read (tables_now t) (disk_of t).image file c.args.found c.requires.there (c.args.at + done) count piece
          (omega (arith, fits, inv.within, c.requires.within, c.loop-done.auto.out))
          (c.in_ok-read_plain.ensures.bytes stored (inv.reads.leaves.tables stored is)
          ∙ (λ j. bytes_of (take (asked j) (drop (c.args.at + done) (file_cells (same_inside t u inv.reads j) file))))));
      kept = read_kept (tables_now t) (inside_now t) file c.args.at done count c.args.found c.run_at-run.result.own alike
          c.if-run.true out c.args.out.now piece n is_n long room inv.kept;
    }

pub loop-done-preserved : goal.loop-done-preserved
loop-done-preserved g c =
    let t = c.args.tables.now in
    let inv = c.loop-done.invariant in
    let done = c.loop-done.done in
    let count = c.run_at-run.result.count in
    let fits = c.run_at-run.ensures.fits in
    let own = c.run_at-run.result.own in
    record {
      within = omega (arith, fits, inv.within);
      reads = inv.reads;
      bytes = λ stored is.
          passed_bytes (tables_now t) (inside_now t) c.args.file c.args.at done count c.args.found own
          (λ k low. ap (λ (u : Typed). is_own u c.args.file (c.args.at + done + k)) (sym inv.reads.now)
          ∙ c.run_at-run.ensures.alike k low)
          c.if-run.false c.loop-done.out (inv.bytes stored is);
      kept = λ k others. inv.kept k (λ low. others (omega (arith, low)));
    }

pub returns-clause-bytes : goal.returns-clause-bytes
returns-clause-bytes g c stored is k low own =
    c.loop-done.invariant.bytes stored is k
    (omega (arith, low, c.loop-done.invariant.within, c.loop-done-test.false, c.loop-done.auto.out)) own
