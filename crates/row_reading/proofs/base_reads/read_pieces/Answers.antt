use Rattle.std.proofs.Common.{◌≤◌, ◌+◌, ◌*◌, ◌-◌, ◌∙◌, ℕ, length, subst, sym, ap, rules, arith}
use Rattle.std.specs.Prelude.{refl}
use Rattle.plain_volume.specs.Volume.{Cell}
use Rattle.stream_map.specs.declared.entry.Entry.{Entry}
use Rattle.stream_map.specs.Pieces.{entries_in, total_length}
use Rattle.volume_inside.specs.BaseCells.{piece_cell}
use Rattle.volume_inside.specs.Chunks.{Bases, chunk, chunks_at}
use Rattle.row_reading.specs.BaseReads.{AreRead, cell_from, IsIn, IsFirstLost}
use Rattle.row_reading.proofs.Cells.{reads_then, same_bases, same_readable, read_then, read_as, lost_then, lost_as, lost_within}
use Rattle.row_reading.proofs.PieceCells.{total_more, total_within, cells_of}
use Rattle.row_reading.proofs.base_reads.read_pieces.Goals as goal

pub read_piece-requires-clause-readable : goal.read_piece-requires-clause-readable
read_piece-requires-clause-readable g c =
    same_readable g.D.ChunkDisk c.args.disk.now c.loop-index.disk c.loop-index.invariant.reads c.requires.readable

pub returns-in_err-read_piece-clause-lost : goal.returns-in_err-read_piece-clause-lost
returns-in_err-read_piece-clause-lost g c tells q is =
    let inv = c.loop-index.invariant in
    let d = g.D.ChunkDisk in
    let old = c.args.disk.now in
    let now = c.loop-index.disk in
    let bytes = c.args.bytes.now in
    let i = c.loop-index.index in
    let next = c.loop-index.next in
    let e = c.entry_at-entry.result in
    let b : Bases = chunks_at (d.chunks old) (d.image old) in
    let c' : Bases = chunks_at (d.chunks now) (d.image now) in
    let room : 12 * i + 12 ≤ length bytes = omega arith in
    let joined = c.entries_of_joined_bytes.ensures.joined in
    let cells : ℕ → Cell = cell_from b (entries_in bytes) c.args.begin in
    let W : ℕ → Type 0 = g.W.Wanted.is_wanted c.args.wanted.now old in
    let V : ℕ → Type 0 = g.W.Wanted.is_wanted c.args.wanted.now now in
    let law = g.met.W.Wanted.same_wanted c.args.wanted.now old now inv.reads.from in
    let length_is = ap (λ (x : Entry). x.length) c.entry_at-entry.ensures in
    let within = total_within joined bytes i room in
    let fault : IsFirstLost (λ p. piece_cell (chunk c' e.id) (p - next)) (IsIn V c.args.at (length c.loop-index.out)) next (next + e.length) q =
    c.in_err-read_piece.ensures.lost (inv.reads.tells tells) q (search rules) in
    let here = lost_as (λ p. piece_cell (chunk c' e.id) (p - next)) cells V W next (next + e.length)
    (λ p low high. cells_of joined bytes i room c.each_offset_has_its_entry.ensures.only e c.entry_at-entry.ensures b c.args.begin next p inv.next low high
    ∙ ap (λ (x : Bases). piece_cell (chunk x e.id) (p - next)) (sym (same_bases d old now inv.reads)))
    (λ p wanted. (law p).0 wanted) c.args.at (length c.loop-index.out) q (λ p wanted. (law p).1 wanted) fault in
    let whole = lost_then cells W c.args.at c.args.begin next (next + e.length) (length c.loop-index.out) q c.loop-index.out refl
    (omega (arith, inv.next)) (inv.read tells) here in
    subst (λ (n : ℕ). IsFirstLost cells (IsIn W c.args.at n) c.args.begin (c.args.begin + total_length (entries_in bytes)) q) inv.size
    (lost_within cells (IsIn W c.args.at (length c.loop-index.out)) c.args.begin (next + e.length) (c.args.begin + total_length (entries_in bytes)) q
    (omega (arith, inv.next, within, length_is)) whole)

pub loop-index-preserved : goal.loop-index-preserved
loop-index-preserved g c =
    let inv = c.loop-index.invariant in
    let d = g.D.ChunkDisk in
    let old = c.args.disk.now in
    let now = c.loop-index.disk in
    let bytes = c.args.bytes.now in
    let i = c.loop-index.index in
    let next = c.loop-index.next in
    let e = c.entry_at-entry.result in
    let out = c.read_piece.new.out in
    let b : Bases = chunks_at (d.chunks old) (d.image old) in
    let c' : Bases = chunks_at (d.chunks now) (d.image now) in
    let room : 12 * i + 12 ≤ length bytes = omega arith in
    let joined = c.entries_of_joined_bytes.ensures.joined in
    let cells : ℕ → Cell = cell_from b (entries_in bytes) c.args.begin in
    let W : ℕ → Type 0 = g.W.Wanted.is_wanted c.args.wanted.now old in
    let V : ℕ → Type 0 = g.W.Wanted.is_wanted c.args.wanted.now now in
    let law = g.met.W.Wanted.same_wanted c.args.wanted.now old now inv.reads.from in
    let length_is = ap (λ (x : Entry). x.length) c.entry_at-entry.ensures in
    let more = total_more joined bytes i room in
    let step = c.from-next.ensures in
    let long = c.read_piece.auto.out in
    record {
      reads = reads_then d g.met.D.ChunkDisk.from_next old now c.read_piece.new.disk inv.reads c.read_piece.ensures.reads;
      next = omega (arith, inv.next, more, step, length_is);
      most = omega arith;
      size = omega (arith, long, inv.size);
      kept = λ k low. c.read_piece.ensures.kept k (omega (arith, low, inv.next)) ∙ inv.kept k low;
      read = λ tells.
          let piece : AreRead (λ p. piece_cell (chunk c' e.id) (p - next)) V next (next + e.length) c.args.at out =
          c.in_ok-read_piece.ensures.read (inv.reads.tells tells) in
          let after = read_as (λ p. piece_cell (chunk c' e.id) (p - next)) cells V W next (next + e.length)
          (λ p low high. cells_of joined bytes i room c.each_offset_has_its_entry.ensures.only e c.entry_at-entry.ensures b c.args.begin next p inv.next low high
          ∙ ap (λ (x : Bases). piece_cell (chunk x e.id) (p - next)) (sym (same_bases d old now inv.reads)))
          (λ p wanted. (law p).0 wanted) c.args.at out piece in
          subst (λ (n : ℕ). AreRead cells W c.args.begin (next + n) c.args.at out) (sym step)
          (read_then cells W c.args.at c.args.begin next (next + e.length) c.loop-index.out out long (inv.read tells)
          c.read_piece.ensures.kept after);
    }
