use Rattle.std.proofs.Common.{◌≡◌, ◌+◌, ◌++◌, ℕ, List, length, take, drop, arith, ◌∙◌, ap, sym, subst, length-take, length-drop, length-append}
use Rattle.sha2.specs.Hashers.{Holds256}
use Rattle.vdisk.specs.Ranges.{part, part_more}
use Rattle.volume_inside.specs.Pages.{content}
use Rattle.row_reading.proofs.copies.hash_content.Goals as goal

pub loop-done-preserved : goal.loop-done-preserved
loop-done-preserved g c =
    let inv = c.loop-done.invariant in
    let done = c.loop-done.done in
    let count = c.min-count.result in
    let piece = c.read_content.new.out in
    let buffer = c.loop-done.buffer in
    let room : length (take count buffer) ≡ count = omega (arith, length-take count buffer, inv.room) in
    let long : length piece ≡ count = omega (arith, c.read_content.auto.out, room) in
    let bytes : List ℕ = content (g.D.ChunkDisk.chunks c.args.disk.now) c.args.container (g.D.ChunkDisk.image c.args.disk.now) in
    record {
      within = omega arith;
      room = omega (arith, length-append piece (drop count buffer), length-drop count buffer, long, inv.room);
      chunks = c.read_content.ensures.chunks ∙ inv.chunks;
      image = c.read_content.ensures.image ∙ inv.image;
      tells = λ tells. c.read_content.ensures.tells (inv.tells tells);
      from = g.met.D.ChunkDisk.from_next c.args.disk.now c.loop-done.disk c.read_content.new.disk inv.from c.read_content.ensures.from;
      later = omega (arith, c.read_content.ensures.later, inv.later);
      hashed = λ tells.
          let read = c.in_ok-read_content.ensures.bytes (inv.tells tells) in
          let same : piece ≡ part (c.args.at + done) count bytes =
          read ∙ (λ i. take (room i) (drop (c.args.at + done) (content (inv.chunks i) c.args.container (inv.image i)))) in
          subst (λ (m : List ℕ). Holds256 c.update.new.self m)
          (ap (λ (bs : List ℕ). part c.args.at done bytes ++ bs) same ∙ sym (part_more c.args.at done count bytes))
          (c.update.ensures (part c.args.at done bytes) (inv.hashed tells));
    }
