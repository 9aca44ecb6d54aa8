use Rattle.std.proofs.Common.{refl, ◌∙◌, ap}
use Rattle.std.proofs.lemmas.Result.{on_err_weaker}
use Rattle.volume_inside.specs.Rules.{next_id_of}
use Rattle.volume_inside.specs.Typed.{Typed}
use Rattle.volume_tables.specs.Tables.{tables_now, disk_of, clusters_in}
use Rattle.chunk_container.specs.Rows.{with_new_row, row_needs, row_bytes}
use Rattle.chunk_container.specs.Calls.{IsRowCall}
use Rattle.chunk_container.proofs.Added.{extends_added, view_added}
use Rattle.chunk_container.proofs.Calls.{call_done}
use Rattle.chunk_container.proofs.RowMaps.{maps_added}
use Rattle.chunk_container.proofs.RowRules.{rules_new_row}
use Rattle.chunk_container.proofs.rows.add.Goals as goal

pub returns-clause-call : goal.returns-clause-call
returns-clause-call g c =
    let t = c.args.tables.now in
    let m = c.make_room.new.tables in
    let put = c.put_row.ensures in
    call_done (Unit {0}) (with_new_row c.args.row c.args.place) row_needs row_bytes t m g.met.D.Disk.same_next
    c.in_ok-make_room.ensures refl
    (rules_new_row (clusters_in t) (tables_now t) c.requires.sound.rules c.args.row c.args.place c.requires.new
    c.requires.place
    (λ last. c.in_ok-make_room.ensures.id refl (ap (λ (q : Typed). next_id_of q) c.make_room.ensures.now ∙ last)))
    (λ q. record { names = refl; files = refl; extents = refl; clusters = refl }) c.put_row.new.tables c.put_row.result
    (record {
      ok = put.ok;
      err = put.err;
      refused = on_err_weaker c.put_row.result (λ is. (is, tt)) put.refused;
      staged = put.staged;
      leaves = put.leaves;
      states = put.states;
      image = put.image;
      running = put.running;
    })

pub returns-clause-sound : goal.returns-clause-sound
returns-clause-sound g c =
    let t = c.args.tables.now in
    let call : IsRowCall (Unit {0}) (with_new_row c.args.row c.args.place) row_needs row_bytes t c.put_row.new.tables
    c.put_row.result = returns-clause-call g c in
    call.sound (λ told. maps_added (clusters_in t) (tables_now t) c.requires.sound.rules c.args.row c.args.place
    c.requires.new c.requires.place (disk_of t).image (c.requires.sound.maps told))

pub returns-clause-extends : goal.returns-clause-extends
returns-clause-extends g c =
    let room = c.make_room.ensures in
    let put = c.put_row.ensures in
    extends_added c.args.tables.now c.make_room.new.tables c.put_row.new.tables c.args.row c.args.place c.requires.new
    c.requires.place room.now room.inside room.sound.rules put.image c.put_row.result put.ok put.err

pub returns-clause-view : goal.returns-clause-view
returns-clause-view g c told =
    let room = c.make_room.ensures in
    let put = c.put_row.ensures in
    view_added c.args.tables.now c.make_room.new.tables c.put_row.new.tables c.args.row c.args.place c.requires.new
    c.requires.place room.now room.inside room.sound.rules put.image c.put_row.result put.ok put.err
    (room.sound.maps (room.tells ∙ told))
