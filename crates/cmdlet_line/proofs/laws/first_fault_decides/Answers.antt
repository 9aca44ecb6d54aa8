use Rattle.cmdlet_line.proofs.MeaningLaws.{bad_at, bad_count}
use Rattle.cmdlet_line.proofs.laws.first_fault_decides.Goals as goal

pub returns : goal.returns
returns c = record {
  at = λ volume line name at rest has none. bad_at volume line name at rest has none;
  count = λ volume line name at count rest has some none. bad_count volume line name at count rest has some none;
}
