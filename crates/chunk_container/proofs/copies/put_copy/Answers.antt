use Rattle.std.proofs.Common.{◌≡◌, ◌≤◌, ◌+◌, ℕ, None, Ok, false, sym, subst, refl}
use Rattle.std.specs.FinMap.{find}
use Rattle.table_records.specs.Keys.{pair_cmp}
use Rattle.volume_inside.specs.Changes.{with_place}
use Rattle.volume_inside.specs.ChunkTables.{CopyKey}
use Rattle.volume_inside.specs.Layout.{half_bytes}
use Rattle.volume_inside.specs.Typed.{Typed}
use Rattle.volume_tables.specs.Rooms.{IsRoomMade}
use Rattle.volume_tables.specs.Tables.{tables_now, checkpoint_of, clusters_in, new_bytes}
use Rattle.chunk_container.specs.Calls.{ArePut, IsRowCall}
use Rattle.chunk_container.specs.Rows.{copy_needs}
use Rattle.chunk_container.proofs.Calls.{call_done, put_set}
use Rattle.chunk_container.proofs.Copied.{copied_stay}
use Rattle.chunk_container.proofs.RowRules.{rules_copy}
use Rattle.chunk_container.proofs.copies.put_copy.Goals as goal

pub returns-clause-call : goal.returns-clause-call
returns-clause-call g c =
    let t = c.args.tables.now in
    let m = c.make_room.new.tables in
    let p = c.set_place.new.self in
    let k : CopyKey = (c.args.id, c.args.copy) in
    let place = c.args.place in
    let room : IsRoomMade (copy_needs k (tables_now t)) t m (Ok tt) =
    subst (λ (grows : ℕ). IsRoomMade (record { draws = false; grows = grows; records = 27; clusters = 0 }) t m (Ok tt))
    c.copy_grows-grows.ensures c.in_ok-make_room.ensures in
    let fits = subst (λ (q : Typed). checkpoint_of m + new_bytes (find pair_cmp k q.chunks.places) 27
    ≤ half_bytes (clusters_in m)) (sym room.now) room.fits in
    let put = put_set (find pair_cmp k (tables_now m).chunks.places) 27 (with_place k place) m p c.set_place.result
    c.set_place.ensures fits in
    call_done (find pair_cmp k (tables_now t).chunks.places ≡ None) (with_place k place) (copy_needs k (tables_now t)) 27
    t m g.met.D.Disk.same_next room refl
    (rules_copy (clusters_in t) (tables_now t) c.requires.sound.rules c.args.id c.args.copy place c.requires.there)
    (λ q. record { names = refl; files = refl; extents = refl; clusters = refl }) p c.set_place.result
    (subst (λ (q : Typed). ArePut (find pair_cmp k q.chunks.places ≡ None) (with_place k place) 27 m p c.set_place.result)
    room.now put)

pub returns-clause-view : goal.returns-clause-view
returns-clause-view g c told stays =
    let t = c.args.tables.now in
    let p = c.set_place.new.self in
    let k : CopyKey = (c.args.id, c.args.copy) in
    let room = c.make_room.ensures in
    let set = c.set_place.ensures in
    let call : IsRowCall (find pair_cmp k (tables_now t).chunks.places ≡ None) (with_place k c.args.place)
    (copy_needs k (tables_now t)) 27 t p c.set_place.result = returns-clause-call g c in
    call.seen told (λ x there. copied_stay t c.make_room.new.tables p c.args.id c.args.copy c.args.place room.now room.inside
    set.set.image stays c.requires.there c.set_place.result set.ok set.err x)
