use Rattle.hash_index.proofs.PairOrder.{keeps_all}
use Rattle.hash_index.proofs.compact.CompactIndexIndex.insert.Goals as goal
use Rattle.hash_index.proofs.compact.CompactIndexIndex.insert.Goals.{then-is_full+in_ok-make_room, else-is_full}

pub returns-clause-ok : goal.returns-clause-ok
returns-clause-ok g c = λ pairs stands agrees free.
    elim c.if-is_full.branch [
      | then-is_full+in_ok-make_room w ↦
          (let kept = w.in_ok-make_room.ensures.kept pairs stands agrees in
          (kept.0, kept.1, c.place.ensures.added kept.0 (rw (c.self-2.view_is, w.self-is) kept.2)))
      | else-is_full w ↦ (
        pairs,
        keeps_all (g.T.Digests.digest_of c.args.tells.now) pairs,
        c.place.ensures.added pairs (rw (c.self-2.view_is, w.self-is) stands),
      )
    ]
