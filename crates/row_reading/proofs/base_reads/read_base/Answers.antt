use Rattle.std.proofs.Common.{◌≡◌, ◌+◌, ◌∙◌, ℕ, length, subst, ap, arith}
use Rattle.std.specs.Prelude.{Some, None}
use Rattle.std.proofs.lemmas.Result.{on_ok_weaker}
use Rattle.plain_volume.specs.Volume.{Cell}
use Rattle.volume_inside.specs.Bases.{base_cell}
use Rattle.volume_inside.specs.BaseCells.{map_cell}
use Rattle.volume_inside.specs.Chunks.{chunk, chunks_at}
use Rattle.row_reading.specs.BaseReads.{AreReadFrom, IsFirstLost, bytes_of_text}
use Rattle.row_reading.proofs.Cells.{lost_same, base_of_map}
use Rattle.row_reading.proofs.base_reads.read_base.Goals as goal

pub returns-in-Ok-Some-clause-read : goal.returns-in-Ok-Some-clause-read
returns-in-Ok-Some-clause-read g c tells =
    let d = g.D.ChunkDisk in
    let old = c.args.disk.now in
    let mid = c.find_text.new.disk in
    let reads = c.find_text.ensures.reads in
    let out = c.read_map.new.out in
    let size = c.read_map.auto.out in
    let others : ℕ → Cell =
    map_cell (chunks_at (d.chunks mid) (d.image mid)) (bytes_of_text (d.chunks mid) (d.image mid) (Some c.in-Ok-Some.text)) in
    let law = g.met.W.Wanted.same_wanted c.args.wanted.now old mid reads.from in
    let spelled : chunk (chunks_at (d.chunks old) (d.image old)) c.args.file.map_row
    ≡ bytes_of_text (d.chunks old) (d.image old) (Some c.in-Ok-Some.text) =
    c.in-Ok-Some.ensures.is tells ∙ ap (bytes_of_text (d.chunks old) (d.image old)) c.in-Ok-Some.field-0-is in
    on_ok_weaker c.read_map.result
    (λ (read : AreReadFrom others (g.W.Wanted.is_wanted c.args.wanted.now mid) c.args.at out) k low wanted.
    base_of_map d old mid reads c.args.file (Some c.in-Ok-Some.text) spelled (c.args.at + k) (omega (arith, low, size, c.requires.within))
    ∙ read k low ((law (c.args.at + k)).0 wanted))
    (c.read_map.ensures.read (reads.tells tells))

pub returns-in-Ok-Some-clause-lost : goal.returns-in-Ok-Some-clause-lost
returns-in-Ok-Some-clause-lost g c tells q is =
    let d = g.D.ChunkDisk in
    let old = c.args.disk.now in
    let mid = c.find_text.new.disk in
    let reads = c.find_text.ensures.reads in
    let end = c.args.at + length c.args.out.now in
    let cells : ℕ → Cell = base_cell (chunks_at (d.chunks old) (d.image old)) c.args.file in
    let others : ℕ → Cell =
    map_cell (chunks_at (d.chunks mid) (d.image mid)) (bytes_of_text (d.chunks mid) (d.image mid) (Some c.in-Ok-Some.text)) in
    let law = g.met.W.Wanted.same_wanted c.args.wanted.now old mid reads.from in
    let spelled : chunk (chunks_at (d.chunks old) (d.image old)) c.args.file.map_row
    ≡ bytes_of_text (d.chunks old) (d.image old) (Some c.in-Ok-Some.text) =
    c.in-Ok-Some.ensures.is tells ∙ ap (bytes_of_text (d.chunks old) (d.image old)) c.in-Ok-Some.field-0-is in
    lost_same others cells (g.W.Wanted.is_wanted c.args.wanted.now mid) (g.W.Wanted.is_wanted c.args.wanted.now old) c.args.at end
    (λ p low high. base_of_map d old mid reads c.args.file (Some c.in-Ok-Some.text) spelled p (omega (arith, high, c.requires.within)))
    (λ p wanted. (law p).0 wanted) q (λ p wanted. (law p).1 wanted)
    (c.read_map.ensures.lost (reads.tells tells) q is)

pub returns-in-Ok-None-clause-lost : goal.returns-in-Ok-None-clause-lost
returns-in-Ok-None-clause-lost g c tells q is =
    let d = g.D.ChunkDisk in
    let old = c.args.disk.now in
    let reads = c.find_text.ensures.reads in
    let first = c.in-Some.first in
    let found = c.in-Some.ensures in
    let upper = found.1 in
    let cells : ℕ → Cell = base_cell (chunks_at (d.chunks old) (d.image old)) c.args.file in
    let W : ℕ → Type 0 = g.W.Wanted.is_wanted c.args.wanted.now old in
    let end = c.args.at + length c.args.out.now in
    let spelled : chunk (chunks_at (d.chunks old) (d.image old)) c.args.file.map_row
    ≡ bytes_of_text (d.chunks old) (d.image old) None =
    c.in-Ok-None.ensures.is tells ∙ ap (bytes_of_text (d.chunks old) (d.image old)) c.in-Ok-None.field-0-is in
    let same : first ≡ q = cc in
    let answer : IsFirstLost cells W c.args.at end first = record {
      behind = found.0;
      within = upper;
      wanted = found.2;
      lost = base_of_map d old c.find_text.new.disk reads c.args.file None spelled first (omega (arith, upper, c.requires.within));
      before = λ p from to wanted lost. found.3 p from to wanted;
    } in
    subst (λ (x : ℕ). IsFirstLost cells W c.args.at end x) same answer
