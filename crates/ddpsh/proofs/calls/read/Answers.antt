use Rattle.std.proofs.Common.{◌≡◌, ◌+◌, ◌-◌, ◌++◌, ◌∷◌, [], ◌∙◌, sym, ap, length, take, drop, arith, refl, Ok, Err, inl}
use Rattle.std.proofs.lemmas.Bool.{false≢true}
use Rattle.std.proofs.lemmas.List.{with_items_is}
use borrow.Rule.Slice.PartMut.{put_mid}
use Rattle.plain_volume.specs.Replies.{bytes_reply}
use Rattle.plain_volume.specs.declared.call.Call.TheVariants as call
use Rattle.cmdlet_line.specs.Lines.{Read}
use Rattle.script_items.specs.Script.{Bare}
use Rattle.volume_core.specs.Volumes.{view_now}
use Rattle.ddpsh.proofs.CallLaws.{Called, comes_call, called_as, fits_once, broke_none, ended_said, read_text, read_after, size_room, put_size, steady_call}
use Rattle.ddpsh.proofs.calls.read.Goals as goal

pub returns-in-Err-clause-told : goal.returns-in-Err-clause-told
returns-in-Err-clause-told g c w kept = rw c.uncalled.ensures (broke_none (Bare (Read c.args.name.now c.args.at c.args.count)) c.args.volume.now)

pub returns-in-Ok-read_into-clause-told : goal.returns-in-Ok-read_into-clause-told
returns-in-Ok-read_into-clause-told g c w kept =
    let d = c.deref_mut.result.now in
    let out = c.read_into.new.out in
    let place = c.in-Ok.place in
    let whole : length d ≡ place + c.args.count = omega (arith, c.deref_mut.ensures.len, c.in-Ok.ensures.room) in
    let size : length (take (length d - place) (drop place d)) ≡ c.args.count = size_room d place c.args.count whole in
    let wide : length out ≡ c.args.count = omega (arith, size) in
    let head = ap (take place) c.deref_mut.ensures.value ∙ c.in-Ok.ensures.head in
    let front : c.read_into.new.self ≡ c.read_into.new.self = refl in
    let did : Called (call.Read c.args.name.now c.args.at (length (take (length d - place) (drop place d)))) c.args.volume.now c.read_into.new.self (bytes_reply out (Ok tt)) = record {
      law = c.own_replies_are_steps.ensures;
      replied = inl (c.in-Ok-read_into.ensures.reply w kept);
      left = c.read_into.ensures.left ∙ sym (read_after (view_now c.args.volume.now) c.args.name.now c.args.at (length (take (length d - place) (drop place d))) (bytes_reply out (Ok tt)));
      want = tt;
      fails = refl;
      moves = c.in-Ok-read_into.ensures.moves;
      endures = c.read_into.ensures.endures;
      adds = c.read_into.ensures.adds;
    } in
    rw c.called.ensures
    (comes_call (Bare (Read c.args.name.now c.args.at c.args.count)) (call.Read c.args.name.now c.args.at c.args.count) _ _ _ _ c.end.result
    (called_as c.args.name.now c.args.at _ c.args.count _ _ _ size did)
    (fits_once (Bare (Read c.args.name.now c.args.at c.args.count)) (call.Read c.args.name.now c.args.at c.args.count) (λ v w calls answer h. h) (λ v calls h. h) refl) (λ answer says h. absurd (false≢true h))
    (ended_said c.end.result _ _ out refl c.end.ensures.text c.end.ensures.kind
    (ap (λ xs. xs ++ 10 ∷ []) (with_items_is c.read_room.new.text (put_mid place (length d - place) d out) (put_size d out place c.args.count whole wide ∙ c.deref_mut.ensures.len))
    ∙ read_text d out place c.args.count head wide)))

pub returns-in-Err-read_into-clause-told : goal.returns-in-Err-read_into-clause-told
returns-in-Err-read_into-clause-told g c w kept =
    let d = c.deref_mut.result.now in
    let place = c.in-Ok.place in
    let whole : length d ≡ place + c.args.count = omega (arith, c.deref_mut.ensures.len, c.in-Ok.ensures.room) in
    let size : length (take (length d - place) (drop place d)) ≡ c.args.count = size_room d place c.args.count whole in
    let did : Called (call.Read c.args.name.now c.args.at (length (take (length d - place) (drop place d)))) c.args.volume.now c.read_into.new.self (bytes_reply c.read_into.new.out (Err c.in-Err-read_into.fault)) = record {
      law = c.own_replies_are_steps.ensures;
      replied = inl (c.in-Err-read_into.ensures.reply w kept);
      left = c.read_into.ensures.left ∙ sym (read_after (view_now c.args.volume.now) c.args.name.now c.args.at (length (take (length d - place) (drop place d))) (bytes_reply c.read_into.new.out (Err c.in-Err-read_into.fault)));
      want = tt;
      fails = refl;
      moves = c.in-Err-read_into.ensures.moves;
      endures = c.read_into.ensures.endures;
      adds = c.read_into.ensures.adds;
    } in
    rw c.called-in-Err-read_into.ensures
    (comes_call (Bare (Read c.args.name.now c.args.at c.args.count)) (call.Read c.args.name.now c.args.at c.args.count) _ _ _ _ c.refused_call.result
    (called_as c.args.name.now c.args.at _ c.args.count _ _ _ size did)
    (fits_once (Bare (Read c.args.name.now c.args.at c.args.count)) (call.Read c.args.name.now c.args.at c.args.count) (λ v w calls answer h. h) (λ v calls h. h) refl) (λ answer says h. absurd (false≢true h))
    c.refused_call.ensures.said)

pub returns-in-Err-read_into-clause-steady : goal.returns-in-Err-read_into-clause-steady
returns-in-Err-read_into-clause-steady g c =
    let call = c.read_into in
    rw c.called-in-Err-read_into.ensures
    (steady_call c.args.volume.now call.new.self 1 (Err c.in-Err-read_into.fault) c.refused_call.result (omega arith)
    (λ stops. absurd (false≢true (sym call.ensures.runs ∙ stops))) c.in-Err-read_into.ensures.failed
    (λ h. ap Err (c.refused_call.ensures.device h)) (λ h. c.refused_call.ensures.failed (cc))
    c.refused_call.ensures.no_sink call.ensures.endures.later
    (λ x h. g.met.D.Disk.same_next x _ _ h call.ensures.endures.same))
