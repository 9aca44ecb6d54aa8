use Rattle.volume_inside.proofs.MapsKept.{base_shorter, maps_stay}
use Rattle.volume_inside.proofs.base_laws.maps_go_on.Goals as goal

pub returns-clause-shorter : goal.returns-clause-shorter
returns-clause-shorter c = λ b id was file less same holds. base_shorter b id id was file less same holds

pub returns-clause-rows : goal.returns-clause-rows
returns-clause-rows c = λ b d files rows chunks map_rows covers hold. maps_stay b d files rows chunks map_rows covers hold
