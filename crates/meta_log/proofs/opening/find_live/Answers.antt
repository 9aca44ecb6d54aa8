use Rattle.std.proofs.Common.{◌∙◌}
use Rattle.meta_log.proofs.Opens.{headers_chosen, headers_none}
use Rattle.meta_log.proofs.opening.find_live.Goals as goal

pub returns-in-Some-clause-chosen : goal.returns-in-Some-clause-chosen
returns-in-Some-clause-chosen g c told =
    let now = c.sync.ensures.time.tells ∙ told in
    let e = c.in_ok-first.ensures in
    headers_chosen c.args.at c.args.half _ _ c.sync.ensures.image c.requires.least c.in_ok-first.first c.in_ok-first.second
    (e.first_gate now) (e.first_epoch now) (e.second_gate now) (e.second_epoch now) c.in-Some.choice c.in-Some.ensures.some

pub returns-in-None-clause-damaged : goal.returns-in-None-clause-damaged
returns-in-None-clause-damaged g c told =
    let now = c.sync.ensures.time.tells ∙ told in
    let e = c.in_ok-first.ensures in
    headers_none c.args.at c.args.half _ _ c.sync.ensures.image c.requires.least c.in_ok-first.first c.in_ok-first.second
    (e.first_gate now) (e.first_epoch now) (e.second_gate now) (e.second_epoch now) c.in-None.ensures.none
