use Rattle.std.proofs.Common.{◌≡◌, ◌<◌, ◌∷◌, [], length, get_or, arith, sym, ◌∙◌}
use Rattle.hash_index.proofs.SlotLaws.{room_for, known_pushed}
use Rattle.std.proofs.lemmas.List.{append-nil, get_or_default}
use Rattle.hash_index.proofs.table.Table.place_known.Goals as goal
use Rattle.hash_index.proofs.table.Table.place_known.Goals.{in-Some, in_default}

pub place-requires-clause-room : goal.place-requires-clause-room
place-requires-clause-room g c =
    let lt : c.loop-slot.slot-index < length c.args.slots.now = omega arith in
    let at : get_or c.args.slots.now c.loop-slot.slot-index 0 ≡ c.id-id.result =
    get_or_default c.args.slots.now c.loop-slot.slot-index 0 c.slot-item.result lt ∙ (sym c.slot-item.is ∙ sym c.id-id.ensures.value) in
    rw c.loop-slot.invariant.slots
    (room_for (g.T.Digests.digest_of c.args.tells.now) c.args.slots.now c.loop-slot.slot-index c.id-id.result c.loop-slot.self.held (length c.args.self.now.slots)
    c.in-Some.digest lt at c.in-Some.ensures.pair c.loop-slot.invariant.stands.counted c.requires.room)

pub loop-slot-preserved : goal.loop-slot-preserved
loop-slot-preserved g c =
    let lt : c.loop-slot.slot-index < length c.args.slots.now = omega arith in
    let at : get_or c.args.slots.now c.loop-slot.slot-index 0 ≡ c.id-id.result =
    get_or_default c.args.slots.now c.loop-slot.slot-index 0 c.slot-item.result lt ∙ (sym c.slot-item.is ∙ sym c.id-id.ensures.value) in
    elim c.match-known_digest.branch [
      | in-Some w ↦ rw w.self-is
          (record {
            slots = w.place.ensures.slots ∙ c.loop-slot.invariant.slots;
            stands = rw (known_pushed (g.T.Digests.digest_of c.args.tells.now) c.args.slots.now c.loop-slot.slot-index c.id-id.result ((w.in-Some.digest, c.id-id.result) ∷ []) lt at w.in-Some.ensures.pair)
                (w.place.ensures.added _ c.loop-slot.invariant.stands);
          })
      | in_default w ↦ rw w.self-is
          (record {
            slots = c.loop-slot.invariant.slots;
            stands = rw (known_pushed (g.T.Digests.digest_of c.args.tells.now) c.args.slots.now c.loop-slot.slot-index c.id-id.result [] lt at w.in_default.ensures.pair, append-nil)
                c.loop-slot.invariant.stands;
          })
    ]
