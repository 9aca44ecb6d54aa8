use Rattle.std.proofs.Common.{arith}
use Rattle.volume_tables.proofs.raw_settings.size_of.Goals as goal

pub returns-clause-spellable : goal.returns-clause-spellable
returns-clause-spellable c = record {
  minimum_size = omega (arith, c.head_size-head.ensures.minimum_size);
  age_days = omega (arith, c.head_size-head.ensures.age_days);
  threshold = omega (arith, c.head_size-head.ensures.threshold);
  folders = omega (arith, c.byte_count.ensures.sum, c.byte_count.ensures.most);
  types = omega (arith, c.byte_count-2.ensures.sum, c.byte_count-2.ensures.most);
}
