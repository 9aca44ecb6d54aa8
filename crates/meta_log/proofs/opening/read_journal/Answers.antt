use Rattle.std.proofs.Common.{◌∙◌}
use Rattle.meta_log.proofs.Opens.{chosen_spells, chosen_goes_on}
use Rattle.meta_log.proofs.opening.read_journal.Goals as goal

pub returns-clause-spells : goal.returns-clause-spells
returns-clause-spells g c told =
    let read = c.find_live.ensures.read in
    chosen_spells c.args.at c.args.half _ _ read.image c.in_ok-choice.choice (c.in_ok-choice.ensures.chosen told)
    c.in_ok-found.found.place c.in_ok-found.found.map (c.in_ok-found.ensures.goes_on (read.keeps.tells ∙ told))

pub returns-clause-goes_on : goal.returns-clause-goes_on
returns-clause-goes_on g c told =
    let read = c.find_live.ensures.read in
    let told₁ = read.keeps.tells ∙ told in
    chosen_goes_on c.args.at c.args.half _ _ read.image c.in_ok-choice.choice (c.in_ok-choice.ensures.chosen told)
    c.in_ok-found.found.place c.in_ok-found.found.epoch c.in_ok-found.found.map c.in_ok-choice.ensures.halves
    (c.in_ok-found.ensures.epoch told₁) (c.in_ok-found.ensures.goes_on told₁)
