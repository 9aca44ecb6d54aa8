use Rattle.stream_map.proofs.Spelled.{entries_count, entries_joined}
use Rattle.stream_map.proofs.laws.entries_of_joined_bytes.Goals as goal

pub returns-clause-count : goal.returns-clause-count
returns-clause-count c = entries_count

pub returns-clause-joined : goal.returns-clause-joined
returns-clause-joined c = entries_joined
