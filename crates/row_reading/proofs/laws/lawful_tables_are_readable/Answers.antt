use Rattle.row_reading.proofs.Readable.{readable}
use Rattle.row_reading.proofs.laws.lawful_tables_are_readable.Goals as goal

pub returns : goal.returns
returns c = readable
