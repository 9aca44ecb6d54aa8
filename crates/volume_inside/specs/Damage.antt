-- A volume some of whose cells were lost.
use Rattle.std.specs.Prelude.{◌≡◌, [], ◌∷◌}
use Rattle.plain_volume.specs.Volume.{Cells, Volume}
use Rattle.volume_inside.specs.BaseCells.{IsCellFrom}

-- each cell stays or is lost
abbrev pub AreCellsFrom : Cells → Cells → Type 0
AreCellsFrom [] [] = Unit {0}
AreCellsFrom [] (y ∷ ys) = ⊥
AreCellsFrom (x ∷ xs) [] = ⊥
AreCellsFrom (x ∷ xs) (y ∷ ys) = IsCellFrom x y × AreCellsFrom xs ys

-- the same names, and of each file each cell stays or is lost
abbrev pub IsVolumeFrom : Volume → Volume → Type 0
IsVolumeFrom [] [] = Unit {0}
IsVolumeFrom [] (g ∷ gs) = ⊥
IsVolumeFrom (f ∷ fs) [] = ⊥
IsVolumeFrom (f ∷ fs) (g ∷ gs) = (g.0 ≡ f.0) × AreCellsFrom f.1 g.1 × IsVolumeFrom fs gs
