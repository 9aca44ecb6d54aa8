use Rattle.std.proofs.Common.{ℕ, ◌+◌, ◌-◌, ◌/◌, subst}
use Rattle.volume_tables.specs.Tables.{tables_now, disk_of, clusters_in}
use Rattle.volume_tables.proofs.Leaving.{leaves_then}
use Rattle.volume_files.proofs.EdgeBytes.{edges_read, edge_then, HasEdge}
use Rattle.volume_files.proofs.edges.read_edges.Goals as goal

pub returns-then-first_index-last_index-clause-edges : goal.returns-then-first_index-last_index-clause-edges
returns-then-first_index-last_index-clause-edges g c stored is =
    let t = c.args.tables.now in
    let first = c.in_ok-first.ensures.bytes stored is in
    let block = c.in_ok-first.first in
    edges_read (tables_now t) (disk_of t).image c.args.file c.args.at c.args.count
    (record { first = block; last = block }) first
    (subst (λ (index : ℕ). HasEdge (tables_now t) (disk_of t).image c.args.file c.args.at c.args.count index block)
    c.if-first_index-last_index.true first)
    (clusters_in t) c.requires.rules c.requires.own

pub returns-clause-edges : goal.returns-clause-edges
returns-clause-edges g c stored is =
    let t = c.args.tables.now in
    let u = c.read_edge.new.tables in
    let at = c.args.at in
    let n = c.args.count in
    let last = (at + n - 1) / 4096 in
    edges_read (tables_now t) (disk_of t).image c.args.file at n
    (record { first = c.in_ok-first.first; last = c.in_ok-last.last }) (c.in_ok-first.ensures.bytes stored is)
    (edge_then (tables_now t) (tables_now u) (disk_of t).image (disk_of u).image c.args.file at n last
    c.in_ok-last.last c.read_edge.ensures.now c.read_edge.ensures.image
    (c.in_ok-last.ensures.bytes stored (c.read_edge.ensures.leaves.tables stored is)))
    (clusters_in t) c.requires.rules c.requires.own

pub returns-in_err-last-clause-leaves : goal.returns-in_err-last-clause-leaves
returns-in_err-last-clause-leaves g c =
    leaves_then g.met.D.Disk.same_next c.args.tables.now c.read_edge.new.tables c.read_edge-2.new.tables
    c.read_edge.ensures.leaves c.read_edge-2.ensures.leaves

pub returns-clause-leaves : goal.returns-clause-leaves
returns-clause-leaves g c =
    leaves_then g.met.D.Disk.same_next c.args.tables.now c.read_edge.new.tables c.read_edge-2.new.tables
    c.read_edge.ensures.leaves c.read_edge-2.ensures.leaves
