use Rattle.table_records.proofs.SettingsBytes.{settings_back}
use Rattle.table_records.proofs.SettingsRead.{settings_again}
use Rattle.table_records.proofs.laws.settings_and_bytes_are_one_to_one.Goals as goal

pub returns-clause-read_back : goal.returns-clause-read_back
returns-clause-read_back c = settings_back

pub returns-clause-spelled_again : goal.returns-clause-spelled_again
returns-clause-spelled_again c = settings_again
