use Rattle.std.proofs.Common.{refl, [], ◌∷◌}
use Rattle.plain_volume.specs.Step.{after}
use Rattle.plain_volume.specs.Laws.{ReplaySplits, LegalSplits, LegalJoins}
use Rattle.plain_volume.proofs.laws.legal_lists_split.Goals as goal

replays : ReplaySplits
replays v [] rest = refl
replays v (pair ∷ front) rest = replays (after v pair.0 pair.1) front rest

splits : LegalSplits
splits v [] rest legal = (tt, legal)
splits v (pair ∷ front) rest legal = let parts = splits (after v pair.0 pair.1) front rest legal.1 in ((legal.0, parts.0), parts.1)

joins : LegalJoins
joins v [] rest front_legal rest_legal = rest_legal
joins v (pair ∷ front) rest front_legal rest_legal = (front_legal.0, joins (after v pair.0 pair.1) front rest front_legal.1 rest_legal)

pub returns-clause-replay : goal.returns-clause-replay
returns-clause-replay c = replays

pub returns-clause-front_and_rest : goal.returns-clause-front_and_rest
returns-clause-front_and_rest c = splits

pub returns-clause-whole : goal.returns-clause-whole
returns-clause-whole c = joins
