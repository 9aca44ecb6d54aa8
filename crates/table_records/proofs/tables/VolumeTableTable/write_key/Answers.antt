use Rattle.std.proofs.Common.{ℕ, List, ap, arith}
use Rattle.table_records.specs.Keys.{single_key}
use Rattle.table_records.proofs.Front.{one_written}
use Rattle.table_records.proofs.tables.VolumeTableTable.write_key.Goals as goal

pub returns-clause-spelled : goal.returns-clause-spelled
returns-clause-spelled c = ap (λ (b : List ℕ). single_key 1 b) (one_written c.args.out.now 1 (omega (arith, c.requires)))
