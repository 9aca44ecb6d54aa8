use Rattle.stream_map.proofs.Pieces.{place_covers, covers_placed, place_outside}
use Rattle.stream_map.proofs.laws.each_offset_has_its_entry.Goals as goal

pub returns-clause-inside : goal.returns-clause-inside
returns-clause-inside c = place_covers

pub returns-clause-only : goal.returns-clause-only
returns-clause-only c = covers_placed

pub returns-clause-outside : goal.returns-clause-outside
returns-clause-outside c = place_outside
