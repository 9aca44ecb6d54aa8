use Rattle.std.proofs.Common.{◌≡◌, ◌↔◌, ℕ, IsTrue, rules, arith, sym, subst, ◌∙◌}
use Rattle.sha2.specs.Sha256.{sha256}
use Rattle.vdisk.specs.Ranges.{part}
use Rattle.volume_inside.specs.Pages.{content}
use Rattle.volume_inside.specs.Chunks.{if_sound, chunks_at}
use Rattle.std.specs.FinMap.{find}
use Rattle.table_records.specs.Keys.{pair_cmp}
use Rattle.row_reading.specs.Reading.{IsFoundOf}
use Rattle.row_reading.proofs.Texts.{place_lies, copy_none, copy_found}
use Rattle.row_reading.proofs.reading.read_copy.Goals as goal

pub read_content-requires-clause-content : goal.read_content-requires-clause-content
read_content-requires-clause-content g c = c.requires.readable.content c.in-Some.place.container

pub read_content-requires-clause-within : goal.read_content-requires-clause-within
read_content-requires-clause-within g c =
    let lies = place_lies (g.D.ChunkDisk.chunks c.args.disk.now) (g.D.ChunkDisk.image c.args.disk.now) c.args.id c.args.copy
    c.args.row.now c.requires.there c.in-Some.place c.requires.readable (sym c.get_place.ensures ∙ c.in-Some.is) in
    omega (arith, lies, c.requires.whole)

pub returns-in-None-clause-bytes : goal.returns-in-None-clause-bytes
returns-in-None-clause-bytes g c tells =
    copy_none (g.D.ChunkDisk.chunks c.args.disk.now) (g.D.ChunkDisk.image c.args.disk.now) c.args.id c.args.copy c.args.row.now
    c.requires.there (sym c.get_place.ensures ∙ c.in-None.is)

pub returns-in_ok-read_content-in-Some-clause-bytes : goal.returns-in_ok-read_content-in-Some-clause-bytes
returns-in_ok-read_content-in-Some-clause-bytes g c tells =
    let t = g.D.ChunkDisk.chunks c.args.disk.now in
    let image = g.D.ChunkDisk.image c.args.disk.now in
    let p = c.in-Some.place in
    let row = c.args.row.now in
    let out = c.read_content.new.out in
    let whole : out ≡ part p.offset row.length (content t p.container image) =
    c.in_ok-read_content-in-Some.ensures.bytes tells ∙ (λ i. part p.offset (c.requires.whole i) (content t p.container image)) in
    let is : IsTrue c.eq.result ↔ (sha256 out ≡ row.digest) = search rules in
    subst (λ (n : ℕ). IsFoundOf (if_sound row.digest (find pair_cmp (c.args.id, c.args.copy) (chunks_at t image).copies)) 0 n c.eq.result out)
    (sym c.requires.whole)
    (copy_found t image c.args.id c.args.copy row c.requires.there p (sym c.get_place.ensures ∙ c.in-Some.is) out whole
    c.eq.result is.0 is.1)
