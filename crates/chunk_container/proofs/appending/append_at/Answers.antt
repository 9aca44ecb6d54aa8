use Rattle.std.proofs.Common.{◌-◌, ℕ, List, length, ◌∙◌, ap, subst, arith}
use Rattle.std.specs.Prelude.{take, drop}
use Rattle.std.specs.FinMap.{find}
use Rattle.table_records.specs.Keys.{pair_cmp}
use Rattle.volume_inside.specs.Inside.{inside_at}
use Rattle.volume_inside.specs.Pages.{pages_of}
use Rattle.volume_inside.specs.Rules.{next_id_of}
use Rattle.volume_inside.specs.Typed.{Typed}
use Rattle.volume_tables.specs.Tables.{tables_now, clusters_in}
use Rattle.volume_tables.proofs.Leaving.{leaves_then}
use Rattle.chunk_container.specs.Appending.{longer}
use Rattle.chunk_container.specs.Pages.{ArePagesPut}
use Rattle.chunk_container.proofs.Appended.{page_bare}
use Rattle.chunk_container.proofs.AppendAt.{appended_by, drawn_clusters, pages_left, frame_put, bytes_there}
use Rattle.chunk_container.proofs.appending.append_at.Goals as goal

pub put_pages-requires-clause-bare : goal.put_pages-requires-clause-bare
put_pages-requires-clause-bare g c index from =
    let t = c.args.tables.now in
    let used = c.requires.target.used in
    ap (λ (q : Typed). find pair_cmp (c.args.target.container, index) q.chunks.clusters) c.fill_page.ensures.writes.now
    ∙ page_bare (clusters_in t) (next_id_of (tables_now t)) (tables_now t).chunks c.requires.rules.chunks.containers
    c.args.target.container index (omega (arith, used, from, c.div_ceil-first.ensures))

pub returns-in_err-put_pages-clause-frame : goal.returns-in_err-put_pages-clause-frame
returns-in_err-put_pages-clause-frame g c =
    frame_put c.fill_page.new.tables c.put_pages.new.tables c.put_pages.ensures.frame c.args.tables.now
    c.fill_page.ensures.writes.now c.fill_page.ensures.same

pub returns-in_err-put_pages-clause-leaves : goal.returns-in_err-put_pages-clause-leaves
returns-in_err-put_pages-clause-leaves g c =
    leaves_then g.met.D.Disk.same_next c.args.tables.now c.fill_page.new.tables c.put_pages.new.tables
    c.fill_page.ensures.writes.leaves c.put_pages.ensures.leaves

pub returns-clause-ok : goal.returns-clause-ok
returns-clause-ok g c =
    let t = c.args.tables.now in
    let f = c.fill_page.new.tables in
    let p = c.put_pages.new.tables in
    let bytes = c.args.bytes.now in
    let h = c.in_ok-head.head in
    let first = c.div_ceil-first.result in
    let more : ℕ = pages_of (length (take (length bytes - h) (drop h bytes))) in
    appended_by c.args.target c.args.kind (length bytes) (tables_now t) (tables_now p)
    (tables_now c.draw_if.new.tables) (clusters_in t) (next_id_of (tables_now t)) c.requires.rules.chunks.containers
    c.requires.target first more (omega (arith, c.div_ceil-first.ensures))
    (pages_left c.args.target.offset h bytes c.in_ok-head.ensures.count)
    (subst (λ (q : Typed). ArePagesPut (c.args.target.container, first) more
    (longer c.args.target c.args.kind (length bytes)) q (tables_now p)) c.fill_page.ensures.writes.now
    c.in_ok-put_pages.ensures.ok) c.draw_if.ensures.tables

pub returns-clause-frame : goal.returns-clause-frame
returns-clause-frame g c =
    ap (λ (image : List ℕ). inside_at (tables_now c.args.tables.now) image) c.draw_if.ensures.image
    ∙ frame_put c.fill_page.new.tables c.put_pages.new.tables c.put_pages.ensures.frame c.args.tables.now
    c.fill_page.ensures.writes.now c.fill_page.ensures.same

pub returns-clause-there : goal.returns-clause-there
returns-clause-there g c stored is =
    let t = c.args.tables.now in
    let f = c.fill_page.new.tables in
    let p = c.put_pages.new.tables in
    let v = c.draw_if.new.tables in
    let bytes = c.args.bytes.now in
    let h = c.in_ok-head.head in
    let first = c.div_ceil-first.result in
    let more : ℕ = pages_of (length (take (length bytes - h) (drop h bytes))) in
    bytes_there f p c.put_pages.ensures.frame t v c.args.target h first more bytes
    (longer c.args.target c.args.kind (length bytes)) (omega (arith, c.div_ceil-first.ensures))
    c.in_ok-head.ensures.count c.in_ok-put_pages.ensures.ok c.fill_page.ensures.writes.now
    (c.in_ok-head.ensures.head stored is)
    (c.in_ok-put_pages.ensures.have stored (c.fill_page.ensures.writes.leaves.tables stored is)
    (λ k low. absurd (omega (arith, low))))
    (drawn_clusters c.args.target c.args.kind (length bytes) (tables_now t) (tables_now p) (tables_now v) (clusters_in t)
    (next_id_of (tables_now t)) c.requires.rules.chunks.containers c.requires.target c.draw_if.ensures.tables)
    c.draw_if.ensures.image

pub returns-clause-leaves : goal.returns-clause-leaves
returns-clause-leaves g c =
    let t = c.args.tables.now in
    let next = g.met.D.Disk.same_next in
    let first = leaves_then next t c.fill_page.new.tables c.put_pages.new.tables c.fill_page.ensures.writes.leaves
    c.put_pages.ensures.leaves in
    leaves_then next t c.put_pages.new.tables c.draw_if.new.tables first c.draw_if.ensures.leaves
