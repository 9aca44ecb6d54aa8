use Rattle.std.proofs.Common.{◌≡◌, ◌≤◌, ◌+◌, ◌*◌, ◌/◌, ◌∙◌, ℕ, List, length, take, drop, subst, ap, rules, arith, inl, inr, length-take, length-drop, length-append}
use Rattle.std.specs.Prelude.{Some, refl}
use Rattle.std.proofs.lemmas.Bool.{cases_lt}
use Rattle.plain_volume.specs.Volume.{Cell}
use Rattle.vdisk.specs.Ranges.{part}
use Rattle.stream_map.specs.Pieces.{entries_in, total_length}
use Rattle.volume_inside.specs.BaseCells.{map_cell}
use Rattle.volume_inside.specs.Chunks.{Bases, chunks_at}
use Rattle.volume_inside.specs.Pages.{content}
use Rattle.volume_inside.proofs.BaseAppended.{length-content}
use Rattle.row_reading.specs.BaseReads.{ReadsAlone, cell_from, IsIn, IsFirstLost, bytes_of_text}
use Rattle.row_reading.proofs.Cells.{reads_then, same_bases, read_then, read_as, read_held, lost_then, lost_as, lost_in_range, read_to_end}
use Rattle.row_reading.proofs.PieceCells.{total_further, cells_of_read, lost_behind}
use Rattle.row_reading.proofs.base_reads.read_map.Goals as goal
use Rattle.row_reading.proofs.base_reads.read_map.Goals.{then-loop-done-test+else-begin-end, else-loop-done-test}

pub returns-in_err-begin-in-Ok-clause-lost : goal.returns-in_err-begin-in-Ok-clause-lost
returns-in_err-begin-in-Ok-clause-lost g c tells q is =
    let inv = c.loop-done.invariant in
    let d = g.D.ChunkDisk in
    let old = c.args.disk.now in
    let mid = c.read_content.new.disk in
    let t = d.chunks old in
    let image = d.image old in
    let at = c.args.text.place.offset in
    let size = c.args.text.length in
    let done = c.loop-done.done in
    let count = c.min-count.result in
    let begin = c.loop-done.begin in
    let piece = c.read_content.new.out in
    let n = length c.loop-done.out in
    let bytes : List ℕ = content t c.args.text.place.container image in
    let room : length (take (12 * count) c.loop-done.buffer) ≡ 12 * count = omega (arith, length-take (12 * count) c.loop-done.buffer, inv.room) in
    let long = length-content t c.args.text.place.container image (c.requires.readable.content c.args.text.place.container).pages in
    let spelled : piece ≡ part (at + 12 * done) (12 * count) bytes =
    c.in-Ok.ensures.bytes (inv.reads.tells tells)
    ∙ (λ i. take (room i) (drop (at + 12 * done) (content (inv.reads.chunks i) c.args.text.place.container (inv.reads.image i)))) in
    let read : ReadsAlone d c.loop-done.disk mid = search rules in
    let reads : ReadsAlone d old mid = reads_then d g.met.D.ChunkDisk.from_next old c.loop-done.disk mid inv.reads read in
    let b : Bases = chunks_at t image in
    let c' : Bases = chunks_at (d.chunks mid) (d.image mid) in
    let cells : ℕ → Cell = map_cell b (Some (part at size bytes)) in
    let others : ℕ → Cell = cell_from c' (entries_in piece) begin in
    let W : ℕ → Type 0 = g.W.Wanted.is_wanted c.args.wanted.now old in
    let V : ℕ → Type 0 = g.W.Wanted.is_wanted c.args.wanted.now mid in
    let law = g.met.W.Wanted.same_wanted c.args.wanted.now old mid reads.from in
    let end = begin + total_length (entries_in piece) in
    let fault : IsFirstLost others (IsIn V c.args.at n) begin end q =
    c.in_err-begin-in-Ok.ensures.lost (reads.tells tells) q (search rules) in
    let here = lost_as others cells V W begin end
    (λ p low high. cells_of_read c.entries_of_joined_bytes.ensures.joined c.pieces_of_joined_lists.ensures.front c.pieces_of_joined_lists.ensures.back
    bytes at size done count (omega (arith, c.requires.within, long)) (omega arith) piece spelled b c' (same_bases d old mid reads)
    begin end p (inv.begin tells) refl low high)
    (λ p wanted. (law p).0 wanted) c.args.at n q (λ p wanted. (law p).1 wanted) fault in
    subst (λ (k : ℕ). IsFirstLost cells W c.args.at (c.args.at + k) q) inv.size
    (lost_in_range cells W c.args.at n end q
    (lost_then cells W c.args.at 0 begin end n q c.loop-done.out refl (omega arith) (inv.read tells) here))

pub loop-done-preserved : goal.loop-done-preserved
loop-done-preserved g c =
    let inv = c.loop-done.invariant in
    let d = g.D.ChunkDisk in
    let old = c.args.disk.now in
    let mid = c.read_content.new.disk in
    let t = d.chunks old in
    let image = d.image old in
    let at = c.args.text.place.offset in
    let size = c.args.text.length in
    let done = c.loop-done.done in
    let count = c.min-count.result in
    let begin = c.loop-done.begin in
    let end = c.in_ok-begin-in-Ok.begin in
    let piece = c.read_content.new.out in
    let buffer = c.loop-done.buffer in
    let out = c.read_pieces.new.out in
    let bytes : List ℕ = content t c.args.text.place.container image in
    let room : length (take (12 * count) buffer) ≡ 12 * count = omega (arith, length-take (12 * count) buffer, inv.room) in
    let size_is : length piece ≡ 12 * count = omega (arith, c.read_content.auto.out, room) in
    let entries : length piece / 12 ≡ count = omega (arith, size_is) in
    let long = length-content t c.args.text.place.container image (c.requires.readable.content c.args.text.place.container).pages in
    let fits : at + size ≤ length bytes = omega (arith, c.requires.within, long) in
    let inside : 12 * (done + count) ≤ size = omega arith in
    let read : ReadsAlone d c.loop-done.disk mid = search rules in
    let reads : ReadsAlone d old mid = reads_then d g.met.D.ChunkDisk.from_next old c.loop-done.disk mid inv.reads read in
    let b : Bases = chunks_at t image in
    let c' : Bases = chunks_at (d.chunks mid) (d.image mid) in
    let cells : ℕ → Cell = map_cell b (Some (part at size bytes)) in
    let others : ℕ → Cell = cell_from c' (entries_in piece) begin in
    let W : ℕ → Type 0 = g.W.Wanted.is_wanted c.args.wanted.now old in
    let V : ℕ → Type 0 = g.W.Wanted.is_wanted c.args.wanted.now mid in
    let law = g.met.W.Wanted.same_wanted c.args.wanted.now old mid reads.from in
    let most = c.in_ok-begin-in-Ok.ensures.most in
    let ends = c.in_ok-begin-in-Ok.ensures.next in
    let same_size = c.read_pieces.auto.out in
    let spelled : g.D.ChunkDisk.tells old → piece ≡ part (at + 12 * done) (12 * count) bytes =
    λ tells. c.in-Ok.ensures.bytes (inv.reads.tells tells)
    ∙ (λ i. take (room i) (drop (at + 12 * done) (content (inv.reads.chunks i) c.args.text.place.container (inv.reads.image i)))) in
    record {
      reads = reads_then d g.met.D.ChunkDisk.from_next old mid c.read_pieces.new.disk reads c.read_pieces.ensures.reads;
      within = omega arith;
      room = omega (arith, length-append piece (drop (12 * count) buffer), length-drop (12 * count) buffer, size_is, inv.room);
      most = omega (arith, inv.most, most, entries);
      size = omega (arith, same_size, inv.size);
      begin = λ tells.
          let further = total_further c.entries_of_joined_bytes.ensures.joined bytes at size done count fits inside in
          let total = ap (λ (x : List ℕ). total_length (entries_in x)) (spelled tells) in
          omega (arith, further, total, ends, inv.begin tells);
      read = λ tells.
          let after = read_as others cells V W begin end
          (λ p low high. cells_of_read c.entries_of_joined_bytes.ensures.joined c.pieces_of_joined_lists.ensures.front c.pieces_of_joined_lists.ensures.back
          bytes at size done count fits inside piece (spelled tells) b c' (same_bases d old mid reads) begin end p (inv.begin tells) ends low high)
          (λ p wanted. (law p).0 wanted) c.args.at out (c.in_ok-begin-in-Ok.ensures.read (reads.tells tells)) in
          read_then cells W c.args.at 0 begin end c.loop-done.out out same_size (inv.read tells) c.read_pieces.ensures.kept after;
    }

pub returns-in-None-clause-read : goal.returns-in-None-clause-read
returns-in-None-clause-read g c tells =
    let inv = c.loop-done.invariant in
    let d = g.D.ChunkDisk in
    let old = c.args.disk.now in
    let law = g.met.W.Wanted.same_wanted c.args.wanted.now old c.loop-done.disk inv.reads.from in
    read_to_end (map_cell (chunks_at (d.chunks old) (d.image old)) (bytes_of_text (d.chunks old) (d.image old) (Some c.args.text)))
    (g.W.Wanted.is_wanted c.args.wanted.now c.loop-done.disk) (g.W.Wanted.is_wanted c.args.wanted.now old) c.args.at c.loop-done.begin
    c.min.result (c.args.at + length c.args.out.now) c.loop-done.out (omega (arith, inv.size)) (λ p low from to. omega arith) (λ p wanted. (law p).0 wanted)
    (inv.read tells) c.in-None.ensures

pub returns-in-Some-clause-lost : goal.returns-in-Some-clause-lost
returns-in-Some-clause-lost g c tells q is =
    let inv = c.loop-done.invariant in
    let d = g.D.ChunkDisk in
    let old = c.args.disk.now in
    let t = d.chunks old in
    let image = d.image old in
    let at = c.args.text.place.offset in
    let size = c.args.text.length in
    let first = c.in-Some.first in
    let bytes : List ℕ = content t c.args.text.place.container image in
    let long = length-content t c.args.text.place.container image (c.requires.readable.content c.args.text.place.container).pages in
    let cells : ℕ → Cell = map_cell (chunks_at t image) (Some (part at size bytes)) in
    let W : ℕ → Type 0 = g.W.Wanted.is_wanted c.args.wanted.now old in
    let law = g.met.W.Wanted.same_wanted c.args.wanted.now old c.loop-done.disk inv.reads.from in
    let found = c.in-Some.ensures in
    let lower = found.0 in
    let upper = found.1 in
    let begins = inv.begin tells in
    let same : first ≡ q = cc in
    let all : c.loop-done.done ≡ size / 12 = elim c.loop-done-test.branch [
      | then-loop-done-test+else-begin-end w ↦ absurd (omega arith)
      | else-loop-done-test w ↦ omega arith
    ] in
    let behind : c.loop-done.begin ≤ first = omega arith in
    let answer : IsFirstLost cells W c.args.at (c.args.at + length c.args.out.now) first = record {
      behind = omega arith;
      within = omega arith;
      wanted = (law first).1 found.2;
      lost = lost_behind c.entries_of_joined_bytes.ensures.joined bytes at size c.loop-done.done (omega (arith, c.requires.within, long)) all
          c.each_offset_has_its_entry.ensures.outside (chunks_at t image) first (omega (arith, begins, behind));
      before = λ p from to wanted lost. elim (cases_lt p c.loop-done.begin) [
        | inl here ↦ read_held cells W c.args.at 0 c.loop-done.begin p c.loop-done.out (inv.read tells) (omega arith) here from
            (omega (arith, to, upper, inv.size)) wanted lost
        | inr past ↦ found.3 p (omega arith) to ((law p).0 wanted)
      ];
    } in
    subst (λ (x : ℕ). IsFirstLost cells W c.args.at (c.args.at + length c.args.out.now) x) same answer
