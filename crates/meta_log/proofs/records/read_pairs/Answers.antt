use Rattle.std.proofs.Common.{◌≡◌, true, false, rules}
use Rattle.meta_log.proofs.ReadRecords.{pairs_step, pairs_fail}
use Rattle.meta_log.proofs.records.read_pairs.Goals as goal

pub returns-then-not-may_follow-clause-damaged : goal.returns-then-not-may_follow-clause-damaged
returns-then-not-may_follow-clause-damaged c _ =
    let failed : c.may_follow.result ≡ false = search rules in
    pairs_fail c.args.body.now c.loop-place.place c.loop-place.last.now c.loop-place.map c.in-Some.head c.rest_from-rest.result.now c.rest_from-rest.ensures
    c.loop-place.invariant c.in-Some.ensures.some c.first_of-key.result.now c.first_of-key.result.now c.first_of-key.ensures c.may_follow.result c.may_follow.ensures failed

pub loop-place-preserved : goal.loop-place-preserved
loop-place-preserved c =
    let passed : c.may_follow.result ≡ true = search rules in
    pairs_step c.args.body.now c.loop-place.place c.loop-place.last.now c.loop-place.map c.in-Some.head c.rest_from-rest.result.now c.rest_from-rest.ensures
    c.loop-place.invariant c.in-Some.ensures.some c.first_of-key.result.now c.second_of.result.now c.first_of-key.ensures c.may_follow.result c.may_follow.ensures passed
    c.second_of.ensures c.put.new.self c.in_ok-put.ensures.ok c.record_length-place.result c.record_length-place.ensures
