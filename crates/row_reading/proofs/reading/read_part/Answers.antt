use Rattle.std.proofs.Common.{◌+◌, length, ap, sym, ◌∙◌}
use Rattle.std.specs.Prelude.{Option}
use Rattle.vdisk.specs.Ranges.{part, part_part}
use Rattle.table_records.specs.declared.chunk_records.Place.{Place}
use Rattle.volume_inside.specs.Chunks.{own_chunk, chunks_at}
use Rattle.volume_inside.specs.Pages.{content}
use Rattle.row_reading.specs.Reading.{bytes_if_some}
use Rattle.row_reading.proofs.Texts.{range_of}
use Rattle.row_reading.proofs.reading.read_part.Goals as goal

pub returns-in_ok-read_content-in-Some-clause-bytes : goal.returns-in_ok-read_content-in-Some-clause-bytes
returns-in_ok-read_content-in-Some-clause-bytes g c tells =
    let t = g.D.ChunkDisk.chunks c.args.disk.now in
    let image = g.D.ChunkDisk.image c.args.disk.now in
    let p = c.in-Some.place in
    let row = c.args.row.now in
    let n = length c.args.out.now in
    let read = c.in_ok-read_content-in-Some.ensures.bytes (c.sound_place.ensures.tells tells) in
    let same = read ∙ (λ i. part (p.offset + c.args.from) n
    (content (c.sound_place.ensures.chunks i) p.container (c.sound_place.ensures.image i))) in
    range_of (own_chunk (chunks_at t image) c.args.id row) (part p.offset row.length (content t p.container image)) c.args.from n
    c.read_content.new.out
    (c.in_ok-sound_place.ensures.is tells ∙ ap (λ (o : Option Place). bytes_if_some t image row o) c.in-Some.is)
    (same ∙ sym (part_part p.offset row.length c.args.from n (content t p.container image) c.requires.within))
