use Rattle.meta_log.specs.Log.{layout_of, state_of}
use Rattle.meta_log.proofs.Lives.{stands_goes_on, image_goes_on}
use Rattle.meta_log.proofs.laws.the_journal_goes_on_where_its_groups_end.Goals as goal

pub returns-clause-crash : goal.returns-clause-crash
returns-clause-crash g c stored image log left =
    stands_goes_on (layout_of c.args.log.now) (state_of c.args.log.now) stored log.stands image left

pub returns-clause-read : goal.returns-clause-read
returns-clause-read g c stored log =
    image_goes_on (layout_of c.args.log.now) (state_of c.args.log.now) stored log.stands
