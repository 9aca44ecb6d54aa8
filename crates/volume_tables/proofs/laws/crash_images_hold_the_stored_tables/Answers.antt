use Rattle.volume_tables.proofs.Told.{held_by_image, held_by_crash}
use Rattle.volume_tables.proofs.laws.crash_images_hold_the_stored_tables.Goals as goal

pub returns-clause-crash : goal.returns-clause-crash
returns-clause-crash g c stored image is left = held_by_crash c.args.tables.now stored is image left

pub returns-clause-read : goal.returns-clause-read
returns-clause-read g c stored is = held_by_image c.args.tables.now stored is
