use Rattle.std.proofs.Common.{subst}
use Rattle.byte_map.specs.Words.{Map}
use Rattle.table_rules.specs.Causes.{IsRefusal}
use Rattle.volume_tables.proofs.Mounts.{table_refused}
use Rattle.volume_tables.proofs.mounting.open_tables.Goals as goal

pub returns-in-Err-read_tables-clause-refused : goal.returns-in-Err-read_tables-clause-refused
returns-in-Err-read_tables-clause-refused g c =
    let n = c.args.clusters in
    let fault = c.in-Err-read_tables.fault in
    table_refused n c.in-Ok.log.map (g.D.Disk.state c.args.disk) (g.D.Disk.state c.into_disk.result) fault
    (subst (λ (m : Map). IsRefusal n m fault) c.pairs.ensures c.in-Err-read_tables.ensures.refused)
    (λ told. c.in-Ok.ensures.spells told)
