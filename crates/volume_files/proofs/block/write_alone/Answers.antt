use Rattle.std.proofs.Common.{◌∙◌}
use Rattle.volume_tables.specs.Tables.{disk_of}
use Rattle.volume_files.proofs.Ahead.{alone_laid, if_two}
use Rattle.volume_files.proofs.block.write_alone.Goals as goal

pub returns-clause-block : goal.returns-clause-block
returns-clause-block g c stored is =
    let w = c.write_free_run.ensures in
    if_two c.write_free_run.result _ _ _
    (λ run some written o under. alone_laid run (disk_of c.write_free_run.new.self).image c.block_with-block.result some
    written o under ∙ c.block_with-block.ensures o under)
    w.some (w.written stored is)
