use Rattle.volume_tables.proofs.Lawful.{rules_with_result}
use Rattle.volume_tables.proofs.laws.results_of_known_numbers_keep_the_rules.Goals as goal

pub returns : goal.returns
returns c n t kind end rules known = rules_with_result n t kind end rules known
