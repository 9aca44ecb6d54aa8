use Rattle.std.proofs.Common.{ℕ, List, [], sym, ap, arith}
use Rattle.std.proofs.lemmas.List.{drop_all}
use Rattle.meta_log.specs.Records.{records_of}
use Rattle.meta_log.proofs.log.MetaLog.format.Goals as goal

pub returns-in-Ok-write_empty-clause-ok : goal.returns-in-Ok-write_empty-clause-ok
returns-in-Ok-write_empty-clause-ok g c told = record {
  stands = c.in-Ok-write_empty.ensures.stands told;
  records = [];
  spelled = ap (λ (q : List ℕ). records_of q) (drop_all 36 c.in-Ok.made.0.items (omega (arith, c.in-Ok.ensures.front)));
  now = sym c.new-map.ensures;
}
