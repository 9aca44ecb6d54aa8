use Rattle.volume_inside.proofs.SpaceChanges.{spaced_page, spaced_pages}
use Rattle.volume_inside.proofs.page_laws.spaces_go_on_with_pages.Goals as goal

pub returns-clause-set : goal.returns-clause-set
returns-clause-set c = λ first states stored now key cluster k s. spaced_page first states stored now s key cluster k

pub returns-clause-keep : goal.returns-clause-keep
returns-clause-keep c = λ first states stored now test s. spaced_pages first states stored now s test
