use Rattle.hash_index.proofs.Alike.{ask_inserted}
use Rattle.hash_index.proofs.calls.ask.Goals as goal

pub returns-in-Ok : goal.returns-in-Ok
returns-in-Ok g c = λ pairs stands can.
    ask_inserted (λ next. g.I.Index.stands_for c.insert.new.self next) (g.T.Digests.digest_of c.args.tells.now) pairs c.args.request.now
    c.in-Insert.digest c.in-Insert.id c.in-Insert.is can (c.in-Ok.ensures.ok pairs stands)
