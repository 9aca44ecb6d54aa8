use Rattle.meta_log.proofs.ReadRecords.{taken}
use Rattle.meta_log.proofs.records.take_record.Goals as goal

pub returns-clause-ok : goal.returns-clause-ok
returns-clause-ok c =
    taken c.args.bytes.now c.args.map.now c.apply.new.map c.in-Some.head c.first_of-first.result.now c.second_of-second.result.now c.record_length.result
    c.in-Some.ensures.some c.first_of-first.ensures c.second_of-second.ensures c.in_ok-apply.ensures c.record_length.ensures
