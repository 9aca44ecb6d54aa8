use Rattle.std.proofs.Common.{◌≡◌, ◌+◌, ◌-◌, ◌/◌, ◌++◌, ℕ, List, length, take, drop, arith, ◌∙◌, ap, sym, length-take, length-drop, length-append}
use Rattle.std.proofs.lemmas.List.{length-take-le}
use borrow.Rule.Slice.PartMut.{post_of}
use Rattle.std.specs.FinMap.{find}
use Rattle.table_records.specs.Keys.{pair_cmp}
use Rattle.volume_inside.specs.Inside.{Inside}
use Rattle.volume_tables.specs.Tables.{tables_now, inside_now, disk_of, clusters_in}
use Rattle.volume_tables.proofs.Rereads.{reads_then, same_inside}
use Rattle.volume_files.specs.Reads.{byte_at}
use Rattle.volume_files.proofs.ReadBytes.{range_short, file_read, stretch_behind}
use Rattle.volume_files.proofs.reading.read_plain.Goals as goal

pub extent_at-extent-requires : goal.extent_at-extent-requires
extent_at-extent-requires g c =
    let t = c.args.tables.now in
    let short = range_short (clusters_in t) (tables_now t) (disk_of t).image c.requires.rules c.args.file c.args.at
    (length c.args.out.now) c.requires.within in
    omega (arith, short)

pub overflow_add-at : goal.overflow_add-at
overflow_add-at g c =
    let t = c.args.tables.now in
    let short = range_short (clusters_in t) (tables_now t) (disk_of t).image c.requires.rules c.args.file c.args.at
    (length c.args.out.now) c.requires.within in
    omega (arith, short, c.loop-done.invariant.within, c.loop-done.auto.out)

pub read_stretch-requires-clause-low : goal.read_stretch-requires-clause-low
read_stretch-requires-clause-low g c =
    let t = c.args.tables.now in
    let short = range_short (clusters_in t) (tables_now t) (disk_of t).image c.requires.rules c.args.file c.args.at
    (length c.args.out.now) c.requires.within in
    omega (
      arith,
      short,
      c.loop-done.invariant.within,
      c.loop-done.auto.out,
      length-drop c.loop-done.done c.loop-done.out,
    )

pub returns-in_err-stretch-clause-reads : goal.returns-in_err-stretch-clause-reads
returns-in_err-stretch-clause-reads g c =
    reads_then g.met.D.Disk.same_next c.args.tables.now c.loop-done.tables c.read_stretch.new.tables
    c.loop-done.invariant.reads c.read_stretch.ensures.reads

pub loop-done-preserved : goal.loop-done-preserved
loop-done-preserved g c =
    let t = c.args.tables.now in
    let u = c.loop-done.tables in
    let inv = c.loop-done.invariant in
    let done = c.loop-done.done in
    let out = c.loop-done.out in
    let piece = c.read_stretch.new.out in
    let s = c.in_ok-stretch.stretch in
    let is = c.in_ok-stretch.ensures.is in
    let long : length piece ≡ length out - done =
    omega (arith, c.read_stretch.auto.out, length-take (length out - done) (drop done out), length-drop done out) in
    let fits = is.fits in
    let post : List ℕ = post_of done (length out - done) out in
    let same : length (take done out ++ (piece ++ post)) ≡ length out =
    omega (
      arith,
      length-append (take done out)
          (piece ++ post),
      length-append piece post,
      length-take-le done out inv.within,
      long,
      length-drop (length out - done) (drop done out),
      length-drop done out,
    ) in
    let place : c.args.at + (done + s.count) ≡ c.args.at + done + s.count = omega arith in
    record {
      within = omega (arith, same, fits, length-take (length out - done) (drop done out), length-drop done out, inv.within);
      next = λ more. is.next
          (omega (arith, more, same, length-take (length out - done) (drop done out), length-drop done out))
          ∙ (λ j. find pair_cmp (c.args.file, sym place j / 4096) (inv.reads.now j).extents);
      reads = reads_then g.met.D.Disk.same_next t u c.read_stretch.new.tables inv.reads c.read_stretch.ensures.reads;
      bytes = λ stored is.
          stretch_behind (inside_now t) c.args.file c.args.at done s.count out piece post inv.within
          (omega (arith, long, fits, length-drop done out))
          (inv.bytes stored is)
          (λ j low. c.in_ok-stretch.ensures.bytes stored (inv.reads.leaves.tables stored is) j low
          ∙ ap (λ (i : Inside). byte_at i c.args.file (c.args.at + done + j)) (same_inside t u inv.reads));
    }

pub returns-clause-bytes : goal.returns-clause-bytes
returns-clause-bytes g c stored is =
    let t = c.args.tables.now in
    let whole : c.loop-done.done ≡ length c.args.out.now =
    omega (arith, c.loop-done.invariant.within, c.loop-done-test.false, c.loop-done.auto.out) in
    file_read (clusters_in t) (tables_now t) (disk_of t).image c.requires.rules c.args.file c.args.at
    (length c.args.out.now) c.requires.within c.requires.own c.loop-done.out c.loop-done.auto.out
    (λ j low. c.loop-done.invariant.bytes stored is j (omega (arith, low, whole)))
