use Rattle.std.proofs.Common.{◌≡◌, Some, Ok, sym, ◌∙◌, subst, refl, rules}
use Rattle.std.specs.Ordering.{nat_cmp}
use Rattle.std.specs.FinMap.{find}
use Rattle.table_records.specs.Orders.{some_same}
use Rattle.table_records.specs.declared.chunk_records.Row.{Row}
use Rattle.volume_tables.specs.Tables.{tables_now, disk_of, clusters_in}
use Rattle.volume_inside.specs.ChunkChanges.{IsRedirected}
use Rattle.volume_inside.proofs.BaseGrown.{redirect_stays}
use Rattle.chunk_container.specs.Bases.{bases_now}
use Rattle.chunk_container.specs.Calls.{IsRowCall}
use Rattle.chunk_container.specs.Rows.{IsRedirectable, redirected, redirect_needs, redirect_bytes}
use Rattle.chunk_container.specs.Stores.{tables_of}
use Rattle.chunk_container.proofs.Calls.{call_done}
use Rattle.chunk_container.proofs.Finds.{some_and}
use Rattle.chunk_container.proofs.Redirected.{rows_in_order, of_found, redirect_then}
use Rattle.chunk_container.proofs.RowMaps.{maps_redirected}
use Rattle.chunk_container.proofs.RowRules.{id_fits, rules_redirected}
use Rattle.chunk_container.proofs.store.Store.redirect.Goals as goal

pub put_redirect-requires-clause-id : goal.put_redirect-requires-clause-id
put_redirect-requires-clause-id g c =
    let t = tables_of c.args.self.now in
    let rows = (tables_now t).chunks.rows in
    id_fits (clusters_in t) (tables_now t) c.requires.sound.rules c.args.id
    (some_and (IsRedirectable rows c.args.id c.args.to) (find nat_cmp c.args.id rows) c.requires.may)

pub returns-clause-call : goal.returns-clause-call
returns-clause-call g c row found =
    let t = tables_of c.args.self.now in
    let m = c.make_room.new.tables in
    let p = c.put_redirect.new.tables in
    let id = c.args.id in
    let to = c.args.to in
    let rows = (tables_now t).chunks.rows in
    let put = c.put_redirect.ensures in
    let is : c.get_row.result ≡ Some c.unwrap-row.result = search rules in
    let same : c.unwrap-row.result ≡ row = some_same c.unwrap-row.result row (sym is ∙ c.get_row.ensures ∙ found) in
    let may = of_found (IsRedirectable rows id to) (find nat_cmp id rows) row c.requires.may found in
    call_done ⊥ (redirected id to row) redirect_needs redirect_bytes t m g.met.D.Disk.same_next
    c.in_ok-make_room.ensures refl
    (rules_redirected (clusters_in t) (tables_now t) id to row c.requires.sound.rules may (rows_in_order t))
    (λ q. record { names = refl; files = refl; extents = refl; clusters = refl }) p (Ok tt)
    (record {
      ok = subst (λ (x : Row). tables_now p ≡ redirected id to x (tables_now m)) same put.tables;
      err = tt;
      refused = tt;
      staged = put.staged;
      leaves = put.leaves;
      states = put.states;
      image = put.image;
      running = put.running;
    })

pub returns-clause-sound : goal.returns-clause-sound
returns-clause-sound g c =
    let t = tables_of c.args.self.now in
    let p = c.put_redirect.new.tables in
    let id = c.args.id in
    let to = c.args.to in
    let row = c.unwrap-row.result in
    let rows = (tables_now t).chunks.rows in
    let is : c.get_row.result ≡ Some row = search rules in
    let found : find nat_cmp id rows ≡ Some row = sym c.get_row.ensures ∙ is in
    let may = of_found (IsRedirectable rows id to) (find nat_cmp id rows) row c.requires.may found in
    let call : IsRowCall ⊥ (redirected id to row) redirect_needs redirect_bytes t p (Ok tt) =
    returns-clause-call g c row found in
    call.sound (λ told. maps_redirected (clusters_in t) (tables_now t) id to row c.requires.sound.rules may
    (rows_in_order t) (disk_of t).image (c.requires.sound.maps told))

pub returns-clause-alike : goal.returns-clause-alike
returns-clause-alike g c row target found at alike =
    let t = tables_of c.args.self.now in
    let m = c.make_room.new.tables in
    let p = c.put_redirect.new.tables in
    let id = c.args.id in
    let to = c.args.to in
    let rows = (tables_now t).chunks.rows in
    let put = c.put_redirect.ensures in
    let room = c.make_room.ensures in
    let is : c.get_row.result ≡ Some c.unwrap-row.result = search rules in
    let same : c.unwrap-row.result ≡ row = some_same c.unwrap-row.result row (sym is ∙ c.get_row.ensures ∙ found) in
    let may = of_found (IsRedirectable rows id to) (find nat_cmp id rows) row c.requires.may found in
    redirect_then t m p id to row target room.now room.inside c.requires.sound.rules put.image
    (subst (λ (x : Row). tables_now p ≡ redirected id to x (tables_now m)) same put.tables) may at alike

pub returns-clause-view : goal.returns-clause-view
returns-clause-view g c row target found at alike told =
    let t = tables_of c.args.self.now in
    let p = c.put_redirect.new.tables in
    let id = c.args.id in
    let to = c.args.to in
    let call : IsRowCall ⊥ (redirected id to row) redirect_needs redirect_bytes t p (Ok tt) =
    returns-clause-call g c row found in
    let moved : IsRedirected (bases_now t) (bases_now p) id to row target =
    returns-clause-alike g c row target found at alike in
    call.seen told (λ x there. redirect_stays (bases_now t) (bases_now p) id to row target moved x)
