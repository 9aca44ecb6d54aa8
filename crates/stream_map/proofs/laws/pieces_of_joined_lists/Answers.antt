use Rattle.stream_map.proofs.Pieces.{total_joined, place_front, place_back}
use Rattle.stream_map.proofs.laws.pieces_of_joined_lists.Goals as goal

pub returns-clause-sum : goal.returns-clause-sum
returns-clause-sum c = total_joined

pub returns-clause-front : goal.returns-clause-front
returns-clause-front c = place_front

pub returns-clause-back : goal.returns-clause-back
returns-clause-back c = place_back
