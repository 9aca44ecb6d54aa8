use Rattle.std.proofs.Common.{◌≡◌, take, true}
use Rattle.std.specs.List.{list_all}
use Rattle.plain_volume.specs.Volume.{is_lawful_text}
use Rattle.volume_inside.proofs.rules.texts_hold.Given as goal

-- the texts so far are lawful
abbrev pub invariant-loop-place : goal.invariant-loop-place
invariant-loop-place l = list_all is_lawful_text (take l.place l.texts) ≡ true
