use Rattle.meta_log.proofs.ReadRecords.{put_head}
use Rattle.meta_log.proofs.records.put_head_of.Goals as goal

pub returns-in-Sets-clause-some : goal.returns-in-Sets-clause-some
returns-in-Sets-clause-some c = put_head c.args.bytes.now c.in_ok-head.head c.requires c.in_ok-head.ensures.some c.in-Sets.is
