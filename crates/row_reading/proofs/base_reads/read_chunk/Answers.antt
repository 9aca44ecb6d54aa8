use Rattle.std.proofs.Common.{◌≡◌, ◌≤◌, ◌∙◌, ℕ, List, Bool, length, take, drop, subst, sym, rules, arith, length-append, length-drop}
use Rattle.std.proofs.lemmas.List.{length-take-le, get_or_append_left}
use Rattle.row_reading.specs.Reading.{IsRangeOf, IsFoundOf}
use Rattle.std.specs.Prelude.{Option, None, true}
use Rattle.std.specs.Ordering.{nat_cmp}
use Rattle.std.specs.FinMap.{find}
use Rattle.volume_inside.specs.Chunks.{chunks_at, own_chunk}
use Rattle.row_reading.specs.BaseReads.{AreCellsOf}
use Rattle.row_reading.proofs.Texts.{no_chunk, short_own}
use Rattle.row_reading.proofs.Cells.{cells_of_chunk}
use Rattle.row_reading.proofs.base_reads.read_chunk.Goals as goal

pub returns-then-is_none-clause-is : goal.returns-then-is_none-clause-is
returns-then-is_none-clause-is g c tells =
    let none : find nat_cmp c.args.id (g.D.ChunkDisk.chunks c.args.disk.now).rows ≡ None = search rules in
    no_chunk (chunks_at (g.D.ChunkDisk.chunks c.args.disk.now) (g.D.ChunkDisk.image c.args.disk.now)) c.args.id none

pub returns-clause-is : goal.returns-clause-is
returns-clause-is g c tells =
    let t = g.D.ChunkDisk.chunks c.args.disk.now in
    let image = g.D.ChunkDisk.image c.args.disk.now in
    let own = c.text_of-own.result.0 in
    let row = c.text_of-own.result.1 in
    let start = c.min-start.result in
    let count = c.min-count.result in
    let piece = c.read_found.new.out in
    let out = c.clear_from.new.out in
    let chunk = own_chunk (chunks_at t image) own row in
    let fits : count ≤ length c.args.out.now = omega arith in
    let room : length (take count c.args.out.now) ≡ count = length-take-le count c.args.out.now fits in
    let long : length piece ≡ count = omega (arith, c.read_found.auto.out, room) in
    let size : length out ≡ length c.args.out.now = omega (arith, c.clear_from.auto.out, length-append piece (drop count c.args.out.now), length-drop count c.args.out.now, long, fits) in
    let read : IsRangeOf chunk start count piece =
    subst (λ (n : ℕ). IsRangeOf chunk start n piece) room
    (subst (λ (b : Bool). IsFoundOf chunk start (length (take count c.args.out.now)) b piece) c.if-not-branch.false (c.in_ok-read_found.ensures.bytes tells)) in
    subst (λ (o : Option (List ℕ)). AreCellsOf o c.args.from true out) (sym c.text_of-own.ensures.reads)
    (cells_of_chunk chunk row.length c.args.from start count piece out (short_own t image own row c.text_of-own.ensures.found)
    (omega arith) (omega (arith, size)) read
    (λ k low. c.clear_from.ensures.before k low ∙ get_or_append_left piece (drop count c.args.out.now) 0 k (omega (arith, low, long)))
    c.clear_from.ensures.behind)
