use Rattle.volume_tables.proofs.Lawful.{rules_with_settings}
use Rattle.volume_tables.proofs.laws.settings_in_their_ranges_keep_the_rules.Goals as goal

pub returns : goal.returns
returns c n t settings rules are = rules_with_settings n t settings rules are
