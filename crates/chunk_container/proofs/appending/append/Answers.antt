use Rattle.std.proofs.Common.{length, sym, subst, refl}
use Rattle.volume_inside.specs.Typed.{Typed}
use Rattle.chunk_container.specs.Appending.{IsTargetIn}
use Rattle.chunk_container.proofs.AppendCalls.{append_done, written_then, still_kept}
use Rattle.chunk_container.proofs.appending.append.Goals as goal

pub returns-clause-call : goal.returns-clause-call
returns-clause-call g c =
    let t = c.args.tables.now in
    let m = c.make_room_to_append.new.tables in
    let count = length c.args.bytes.now in
    let room = c.in_ok-make_room_to_append.ensures in
    let at = c.append_at.ensures in
    append_done c.args.target c.args.kind count t m g.met.D.Disk.same_next room c.requires.least c.requires.most
    c.requires.some
    (subst (λ (q : Typed). IsTargetIn c.args.kind count c.args.target q) (sym room.now) c.requires.target)
    c.append_at.new.tables c.append_at.result at.ok at.err at.frame at.leaves at.refused at.failed at.loses_none at.staged
    at.taken at.stops at.halts

pub returns-clause-written : goal.returns-clause-written
returns-clause-written g c w kept =
    let t = c.args.tables.now in
    let m = c.make_room_to_append.new.tables in
    let bytes = c.args.bytes.now in
    let room = c.in_ok-make_room_to_append.ensures in
    let at = c.append_at.ensures in
    let still = still_kept t m w room.endures room.runs kept in
    written_then c.args.target c.args.kind (length bytes) t m g.met.D.Disk.same_next room c.requires.least
    c.requires.most c.requires.some
    (subst (λ (q : Typed). IsTargetIn c.args.kind (length bytes) c.args.target q) (sym room.now) c.requires.target)
    c.append_at.new.tables c.append_at.result at.ok at.err at.frame at.leaves bytes refl (at.there still.0 still.1)
