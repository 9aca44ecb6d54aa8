use Rattle.meta_log.specs.Log.{layout_of, state_of}
use Rattle.meta_log.proofs.Lives.{stands_spells, image_spells}
use Rattle.meta_log.proofs.laws.crash_images_spell_the_stored_map.Goals as goal

pub returns-clause-crash : goal.returns-clause-crash
returns-clause-crash g c stored image log left = stands_spells (layout_of c.args.log.now) (state_of c.args.log.now) stored log.stands image left

pub returns-clause-read : goal.returns-clause-read
returns-clause-read g c stored log = image_spells (layout_of c.args.log.now) (state_of c.args.log.now) stored log.stands
