use Rattle.stream_map.proofs.Spelled.{entries_back, entries_spelled}
use Rattle.stream_map.proofs.laws.entries_and_bytes_are_one_to_one.Goals as goal

pub returns-clause-read_back : goal.returns-clause-read_back
returns-clause-read_back c = entries_back

pub returns-clause-spelled_again : goal.returns-clause-spelled_again
returns-clause-spelled_again c = entries_spelled
