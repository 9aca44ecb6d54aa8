use Rattle.std.proofs.Common.{rules, ◌≡◌, ◌≤◌, ◌+◌, ◌++◌, ℕ, List, Err, length, take, drop, arith, ◌∙◌, ap, sym, subst}
use Rattle.std.proofs.Common.{take_all, length-take}
use Rattle.sha2.specs.Hashers.{Holds256}
use Rattle.sha2.specs.Sha256.{sha256}
use Rattle.plain_volume.specs.Volume.{Cell, bytes_of, lost_where, is_within}
use Rattle.plain_volume.specs.declared.call.Fault.TheVariants.{Damaged}
use Rattle.volume_inside.specs.View.{file_cells}
use Rattle.volume_tables.specs.Tables.{inside_now}
use Rattle.volume_tables.specs.After.{reads_self}
use Rattle.volume_tables.proofs.Rereads.{reads_then, same_inside}
use Rattle.rw_filter.specs.Filters.{filtered}
use Rattle.volume_core.proofs.Hashed.{piece_behind, piece_lost, none_at_first, first_of_all, none_of_all}
use Rattle.volume_core.proofs.hashing.hash_through.Goals as goal

pub returns-in_err-read_into-clause-reads : goal.returns-in_err-read_into-clause-reads
returns-in_err-read_into-clause-reads g c =
    reads_then g.met.D.Disk.same_next (filtered c.args.filter.now) (filtered c.loop-at.filter)
    (filtered c.read_into.new.self) c.loop-at.invariant.reads c.read_into.ensures.reads

pub loop-at-init : goal.loop-at-init
loop-at-init g c = record {
  within = omega arith;
  reads = reads_self (filtered c.args.filter.now) (g.met.D.Disk.same_self _);
  hashed = λ stored is. c.new-hasher.ensures;
  whole = λ stored is. none_at_first (file_cells (inside_now (filtered c.args.filter.now)) c.args.file);
}

pub loop-at-preserved : goal.loop-at-preserved
loop-at-preserved g c =
    let t = filtered c.args.filter.now in
    let u = filtered c.loop-at.filter in
    let inv = c.loop-at.invariant in
    let at = c.loop-at.at in
    let count = c.min-count.result in
    let file = c.args.file in
    let cells : List Cell = file_cells (inside_now t) file in
    let piece = c.read_into.new.out in
    let buffer = c.loop-at.buffer in
    let least : count ≤ length buffer = omega arith in
    let room : length (take count buffer) ≡ count = omega (arith, length-take count buffer, least) in
    let long : length piece ≡ count = omega (arith, c.read_into.auto.out, room) in
    record {
      within = omega arith;
      reads = reads_then g.met.D.Disk.same_next t u (filtered c.read_into.new.self) inv.reads c.read_into.ensures.reads;
      hashed = λ stored is.
          let read = c.in_ok-read_into.ensures.bytes stored (inv.reads.leaves.tables stored is) in
          let same : piece ≡ bytes_of (take count (drop at cells)) =
          read ∙ (λ i. bytes_of (take (room i) (drop at (file_cells (same_inside t u inv.reads i) file)))) in
          subst (λ (m : List ℕ). Holds256 c.update.new.self m)
          (ap (λ (bs : List ℕ). bytes_of (take at cells) ++ bs) same ∙ sym (piece_behind at count cells))
          (c.update.ensures (bytes_of (take at cells)) (inv.hashed stored is));
      whole = λ stored is.
          let read = c.in_ok-read_into.ensures.whole stored (inv.reads.leaves.tables stored is) in
          piece_lost at count 0 cells (inv.whole stored is)
          ∙ ((λ i. lost_where (is_within at (sym room i)) 0 (file_cells (sym (same_inside t u inv.reads) i) file)) ∙ read);
    }

pub returns-in_err-read_into-clause-damaged : goal.returns-in_err-read_into-clause-damaged
returns-in_err-read_into-clause-damaged g c stored is q lost =
    let t = filtered c.args.filter.now in
    let u = filtered c.loop-at.filter in
    let inv = c.loop-at.invariant in
    let at = c.loop-at.at in
    let count = c.min-count.result in
    let file = c.args.file in
    let cells : List Cell = file_cells (inside_now t) file in
    let buffer = c.loop-at.buffer in
    let least : count ≤ length buffer = omega arith in
    let room : length (take count buffer) ≡ count = omega (arith, length-take count buffer, least) in
    let out : c.from_residual.result ≡ Err c.in_err-read_into.field-0.0 = search rules in
    let same : c.in_err-read_into.field-0.0 ≡ Damaged q = (let both = sym out ∙ lost in cc) in
    let told = c.in_err-read_into.ensures.damaged stored (inv.reads.leaves.tables stored is) q (ap Err same) in
    first_of_all (at + count) 0 q cells
    (piece_lost at count 0 cells (inv.whole stored is)
    ∙ ((λ i. lost_where (is_within at (sym room i)) 0 (file_cells (sym (same_inside t u inv.reads) i) file)) ∙ told))

pub returns-clause-digest : goal.returns-clause-digest
returns-clause-digest g c stored is =
    let cells : List Cell = file_cells (inside_now (filtered c.args.filter.now)) c.args.file in
    let all : length cells ≤ c.loop-at.at = omega (arith, c.loop-at-test.false, c.requires.long) in
    c.finalize.ensures (bytes_of (take c.loop-at.at cells)) (c.loop-at.invariant.hashed stored is)
    ∙ ap (λ (cs : List Cell). sha256 (bytes_of cs)) (take_all c.loop-at.at cells all)

pub returns-clause-whole : goal.returns-clause-whole
returns-clause-whole g c stored is =
    let cells : List Cell = file_cells (inside_now (filtered c.args.filter.now)) c.args.file in
    let all : length cells ≤ c.loop-at.at = omega (arith, c.loop-at-test.false, c.requires.long) in
    none_of_all c.loop-at.at 0 cells (omega (arith, all)) (c.loop-at.invariant.whole stored is)
