use Rattle.std.proofs.Common.{arith}
use Rattle.volume_tables.specs.Tables.{disk_of}
use Rattle.volume_files.proofs.Ahead.{written_ahead, if_two}
use Rattle.volume_files.proofs.block.write_filled.Goals as goal

pub returns-clause-ahead : goal.returns-clause-ahead
returns-clause-ahead g c stored is =
    let high = c.requires.filled in
    if_two c.write_free_run.result _ _ _
    (λ run fits written. written_ahead c.args.start c.args.at c.args.bytes.now run
    (disk_of c.write_free_run.new.self).image c.requires.low (omega (arith, high)) fits written)
    c.write_free_run.ensures.fits (c.write_free_run.ensures.written stored is)
