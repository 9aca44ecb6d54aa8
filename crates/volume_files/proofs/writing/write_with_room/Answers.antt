use Rattle.std.proofs.Common.{length, sym, ◌∙◌, ap, subst}
use Rattle.std.proofs.lemmas.Result.{on_ok_weaker}
use Rattle.plain_volume.specs.Volume.{overwritten}
use Rattle.volume_inside.specs.Inside.{Inside}
use Rattle.volume_inside.specs.View.{file_cells}
use Rattle.volume_tables.proofs.Leaving.{leaves_then}
use Rattle.volume_files.specs.Edges.{AreEdges}
use Rattle.volume_files.specs.Insides.{id_written}
use Rattle.volume_files.specs.Needs.{touched}
use Rattle.volume_files.proofs.AfterRead.{sound_read, spends_read, inside_read}
use Rattle.volume_files.proofs.Spent.{spends_none}
use Rattle.volume_files.proofs.writing.write_with_room.Goals as goal

pub write_with_edges-requires-clause-sound : goal.write_with_edges-requires-clause-sound
write_with_edges-requires-clause-sound g c =
    let r = c.read_edges.ensures in
    sound_read c.args.tables.now c.read_edges.new.tables r.now r.image r.leaves.tells r.states
    r.leaves.clusters c.requires.sound c.requires.running

pub returns-clause-cells : goal.returns-clause-cells
returns-clause-cells g c stored is =
    let t = c.args.tables.now in
    let m = c.read_edges.new.tables in
    let r = c.read_edges.ensures in
    let bytes = c.args.bytes.now in
    let same = inside_read t m r.now r.image in
    on_ok_weaker c.write_with_edges.result
    (λ cells. cells ∙ ap (λ (i : Inside). overwritten c.args.at bytes (file_cells i c.args.file)) same)
    (c.write_with_edges.ensures.cells stored (r.leaves.tables stored is)
    (subst (λ (i : Inside). AreEdges i c.args.file c.args.at (length bytes) c.in_ok-edges.edges) (sym same)
    (c.in_ok-edges.ensures.edges stored is)))

pub returns-clause-inside : goal.returns-clause-inside
returns-clause-inside g c stored is =
    let t = c.args.tables.now in
    let m = c.read_edges.new.tables in
    let r = c.read_edges.ensures in
    let bytes = c.args.bytes.now in
    let same = inside_read t m r.now r.image in
    on_ok_weaker c.write_with_edges.result
    (λ written. written ∙ ap (λ (i : Inside). id_written c.args.file c.args.at bytes i) same)
    (c.write_with_edges.ensures.inside stored (r.leaves.tables stored is)
    (subst (λ (i : Inside). AreEdges i c.args.file c.args.at (length bytes) c.in_ok-edges.edges) (sym same)
    (c.in_ok-edges.ensures.edges stored is)))

pub returns-clause-leaves : goal.returns-clause-leaves
returns-clause-leaves g c =
    leaves_then g.met.D.Disk.same_next c.args.tables.now c.read_edges.new.tables c.write_with_edges.new.tables
    c.read_edges.ensures.leaves c.write_with_edges.ensures.leaves

pub returns-clause-spends : goal.returns-clause-spends
returns-clause-spends g c =
    spends_read c.args.tables.now c.read_edges.new.tables c.read_edges.ensures.now
    (touched c.args.at (length c.args.bytes.now)) c.write_with_edges.new.tables c.write_with_edges.ensures.spends

pub returns-in_err-edges-clause-sound : goal.returns-in_err-edges-clause-sound
returns-in_err-edges-clause-sound g c =
    let r = c.read_edges.ensures in
    sound_read c.args.tables.now c.read_edges.new.tables r.now r.image r.leaves.tells r.states
    r.leaves.clusters c.requires.sound
    c.requires.running

pub returns-in_err-edges-clause-spends : goal.returns-in_err-edges-clause-spends
returns-in_err-edges-clause-spends g c =
    spends_none (touched c.args.at (length c.args.bytes.now)) 0 c.args.tables.now c.read_edges.new.tables
    c.read_edges.ensures.now
