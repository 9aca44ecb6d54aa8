use Rattle.std.proofs.Common.{[], refl}
use Rattle.meta_log.proofs.ReadRecords.{nothing_staged}
use Rattle.meta_log.proofs.log.MetaLog.open.Goals as goal

pub returns-in-Ok-clause-opened : goal.returns-in-Ok-clause-opened
returns-in-Ok-clause-opened g c told = record {
  stands = c.in-Ok.ensures.stands told;
  records = [];
  spelled = nothing_staged c.in-Ok.journal.staged.items c.in-Ok.ensures.head;
  now = refl;
}
