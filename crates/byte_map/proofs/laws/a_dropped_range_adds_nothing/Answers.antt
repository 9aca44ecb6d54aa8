use Rattle.byte_map.specs.Laws.{length_without, bytes_in_without}
use Rattle.byte_map.proofs.laws.a_dropped_range_adds_nothing.Goals as goal

pub returns-clause-count : goal.returns-clause-count
returns-clause-count c = length_without

pub returns-clause-bytes : goal.returns-clause-bytes
returns-clause-bytes c = bytes_in_without
