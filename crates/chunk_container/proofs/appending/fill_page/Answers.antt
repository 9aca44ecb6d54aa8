use Rattle.std.proofs.Common.{◌≡◌, ◌/◌, ◌%◌, ℕ, sym, ◌∙◌, subst, arith}
use Rattle.std.specs.Prelude.{Option, IsSome}
use Rattle.volume_inside.specs.Rules.{next_id_of}
use Rattle.volume_tables.specs.Tables.{tables_now, disk_of, clusters_in}
use Rattle.chunk_container.proofs.Appended.{page_there}
use Rattle.chunk_container.proofs.PageBytes.{head_written, found_same}
use Rattle.chunk_container.proofs.appending.fill_page.Goals as goal

pub unwrap-cluster-requires : goal.unwrap-cluster-requires
unwrap-cluster-requires g c =
    let t = c.args.tables.now in
    let some = c.if-count-eq0.false in
    subst (λ (o : Option ℕ). IsSome o) (sym c.get_cluster.ensures)
    (page_there (clusters_in t) (next_id_of (tables_now t)) (tables_now t).chunks c.requires.rules.chunks.containers
    c.args.container (c.args.offset / 4096) (omega (arith, c.requires.used, some, c.min-count.ensures)))

pub returns-clause-head : goal.returns-clause-head
returns-clause-head g c stored is cluster o found low =
    let image = (disk_of c.write_range.new.self).image in
    let mine = sym c.get_cluster.ensures ∙ c.unwrap-cluster.ensures in
    let same : cluster ≡ c.unwrap-cluster.result = found_same _ cluster c.unwrap-cluster.result found mine in
    head_written (c.args.offset % 4096) c.unwrap-cluster.result cluster c.min-count.result o c.args.bytes.now image same
    (omega (arith, c.min-count.ensures)) (c.in_ok-write_range.ensures.written stored is) low
