use Rattle.volume_tables.proofs.Told.{told_by_image, told_by_crash}
use Rattle.volume_tables.proofs.laws.the_journal_goes_on_where_its_groups_end.Goals as goal

pub returns-clause-crash : goal.returns-clause-crash
returns-clause-crash g c stored image is left = told_by_crash c.args.tables.now stored is image left

pub returns-clause-read : goal.returns-clause-read
returns-clause-read g c stored is = told_by_image c.args.tables.now stored is
