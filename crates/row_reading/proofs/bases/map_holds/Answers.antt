use Rattle.std.proofs.Common.{◌≡◌, ◌+◌, ◌*◌, ◌/◌, ℕ, List, length, take, drop, arith, subst, ◌∙◌, length-take, length-drop, length-append}
use Rattle.std.specs.Prelude.{Some, None}
use Rattle.std.proofs.lemmas.Bool.{le-leb, leb-true}
use Rattle.vdisk.specs.Ranges.{part}
use Rattle.stream_map.specs.Pieces.{entries_in}
use Rattle.volume_inside.specs.ChunkTables.{ChunkTables}
use Rattle.volume_inside.specs.Pages.{content}
use Rattle.volume_inside.proofs.BaseAppended.{length-content}
use Rattle.row_reading.specs.Reading.{IsSum}
use Rattle.row_reading.proofs.Sums.{piece_added, piece_broken, whole_sum, map_broken, map_covers, map_short}
use Rattle.row_reading.proofs.bases.map_holds.Goals as goal

pub returns-in-None-clause-is : goal.returns-in-None-clause-is
returns-in-None-clause-is g c tells =
    let inv = c.loop-done.invariant in
    let t = g.D.ChunkDisk.chunks c.args.disk.now in
    let image = g.D.ChunkDisk.image c.args.disk.now in
    let done = c.loop-done.done in
    let count = c.min-count.result in
    let piece = c.read_content.new.out in
    let buffer = c.loop-done.buffer in
    let bytes : List ℕ = content t c.args.container image in
    let room : length (take (12 * count) buffer) ≡ 12 * count = omega (arith, length-take (12 * count) buffer, inv.room) in
    let long = length-content t c.args.container image c.requires.content.pages in
    let is : piece ≡ part (c.args.at + 12 * done) (12 * count) bytes =
    c.in_ok-read_content.ensures.bytes (inv.tells tells)
    ∙ (λ i. take (room i) (drop (c.args.at + 12 * done) (content (inv.chunks i) c.args.container (inv.image i)))) in
    let never : IsSum t.rows (entries_in piece) None =
    subst (λ (u : ChunkTables). IsSum u.rows (entries_in piece) None) (c.read_content.ensures.chunks ∙ inv.chunks) c.in-None.ensures.is in
    let broken = piece_broken t.rows c.entries_of_joined_bytes.ensures.joined bytes c.args.at done count piece is c.args.size
    (omega (arith, c.requires.within, long)) (omega arith) never in
    map_broken t.rows c.args.covers (part c.args.at c.args.size bytes) broken

pub loop-done-preserved : goal.loop-done-preserved
loop-done-preserved g c =
    let inv = c.loop-done.invariant in
    let t = g.D.ChunkDisk.chunks c.args.disk.now in
    let image = g.D.ChunkDisk.image c.args.disk.now in
    let done = c.loop-done.done in
    let count = c.min-count.result in
    let piece = c.read_content.new.out in
    let buffer = c.loop-done.buffer in
    let bytes : List ℕ = content t c.args.container image in
    let room : length (take (12 * count) buffer) ≡ 12 * count = omega (arith, length-take (12 * count) buffer, inv.room) in
    let size : length piece ≡ 12 * count = omega (arith, c.read_content.auto.out, room) in
    let entries : length piece / 12 ≡ count = omega (arith, size) in
    let more = c.in-Some.ensures.most in
    let long = length-content t c.args.container image c.requires.content.pages in
    record {
      within = omega arith;
      room = omega (arith, length-append piece (drop (12 * count) buffer), length-drop (12 * count) buffer, size, inv.room);
      most = omega (arith, inv.most, more, entries);
      chunks = c.read_content.ensures.chunks ∙ inv.chunks;
      image = c.read_content.ensures.image ∙ inv.image;
      tells = λ tells. c.read_content.ensures.tells (inv.tells tells);
      from = g.met.D.ChunkDisk.from_next c.args.disk.now c.loop-done.disk c.read_content.new.disk inv.from c.read_content.ensures.from;
      later = omega (arith, c.read_content.ensures.later, inv.later);
      is = λ tells.
          let is : piece ≡ part (c.args.at + 12 * done) (12 * count) bytes =
          c.in_ok-read_content.ensures.bytes (inv.tells tells)
          ∙ (λ i. take (room i) (drop (c.args.at + 12 * done) (content (inv.chunks i) c.args.container (inv.image i)))) in
          piece_added t.rows c.entries_of_joined_bytes.ensures.joined bytes c.args.at done count piece is c.loop-done.sum c.in-Some.more
          (omega (arith, c.requires.within, long)) (inv.is tells)
          (subst (λ (u : ChunkTables). IsSum u.rows (entries_in piece) (Some c.in-Some.more)) (c.read_content.ensures.chunks ∙ inv.chunks)
          c.in-Some.ensures.is);
    }

pub returns-clause-is : goal.returns-clause-is
returns-clause-is g c tells =
    let inv = c.loop-done.invariant in
    let t = g.D.ChunkDisk.chunks c.args.disk.now in
    let image = g.D.ChunkDisk.image c.args.disk.now in
    let bytes : List ℕ = content t c.args.container image in
    let long = length-content t c.args.container image c.requires.content.pages in
    let all : c.loop-done.done ≡ c.args.size / 12 = omega (arith, inv.within, c.loop-done-test.false) in
    let is = whole_sum t.rows c.entries_of_joined_bytes.ensures.joined bytes c.args.at c.args.size c.loop-done.done c.loop-done.sum
    (omega (arith, c.requires.within, long)) all (inv.is tells) in (
      λ e. map_covers t.rows c.args.covers c.loop-done.sum (part c.args.at c.args.size bytes) is (leb-true c.args.covers c.loop-done.sum e),
      λ holds. le-leb c.args.covers c.loop-done.sum
          (map_short t.rows c.args.covers c.loop-done.sum (part c.args.at c.args.size bytes) is holds),
    )
