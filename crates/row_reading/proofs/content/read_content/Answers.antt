use Rattle.std.proofs.Common.{◌≡◌, ◌≤◌, ◌+◌, ◌-◌, ◌++◌, ℕ, List, length, take, arith, ◌∙◌, length-drop, length-append}
use Rattle.std.proofs.lemmas.List.{take-append-le, length-take-le}
use borrow.Rule.Slice.PartMut.{post_of}
use Rattle.vdisk.specs.Ranges.{part}
use Rattle.volume_inside.specs.Pages.{content}
use Rattle.row_reading.proofs.Runs.{read_further}
use Rattle.row_reading.proofs.content.read_content.Goals as goal

pub loop-done-preserved : goal.loop-done-preserved
loop-done-preserved g c =
    let inv = c.loop-done.invariant in
    let done = c.loop-done.done in
    let count = c.in_ok-done.field-0 in
    let out = c.loop-done.out in
    let piece = c.read_beside.new.out in
    let post : List ℕ = post_of done (length out - done) out in
    let most = c.in_ok-done.ensures.most in
    let room = length-drop done out in
    let long : length piece ≡ length out - done = omega (arith, c.read_beside.auto.out, room) in
    let fits : count ≤ length piece = omega (arith, most, long, c.read_beside.auto.out) in
    record {
      within = omega (arith, length-append (take done out) (piece ++ post), length-append piece post, length-take-le done out inv.within, long, fits, inv.within);
      chunks = c.read_beside.ensures.chunks ∙ inv.chunks;
      image = c.read_beside.ensures.image ∙ inv.image;
      tells = λ tells. c.read_beside.ensures.tells (inv.tells tells);
      from = g.met.D.ChunkDisk.from_next c.args.disk.now c.loop-done.disk c.read_beside.new.disk inv.from c.read_beside.ensures.from;
      later = omega (arith, c.read_beside.ensures.later, inv.later);
      bytes = λ tells.
          read_further c.args.at done count out (piece ++ post) (content (g.D.ChunkDisk.chunks c.args.disk.now) c.args.container (g.D.ChunkDisk.image c.args.disk.now))
          inv.within (inv.bytes tells)
          (take-append-le count piece post fits ∙ c.in_ok-done.ensures.bytes (inv.tells tells)
          ∙ (λ i. part (c.args.at + done) count (content (inv.chunks i) c.args.container (inv.image i))));
    }
