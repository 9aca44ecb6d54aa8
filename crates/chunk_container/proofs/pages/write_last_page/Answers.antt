use Rattle.volume_tables.specs.Tables.{disk_of}
use Rattle.chunk_container.proofs.PageBytes.{front_padded, if_two}
use Rattle.chunk_container.proofs.pages.write_last_page.Goals as goal

pub returns-clause-front : goal.returns-clause-front
returns-clause-front g c stored is =
    let bytes = c.args.bytes.now in
    let image = (disk_of c.write_free_run.new.self).image in
    if_two c.write_free_run.result _ _ _
    (λ run some written. front_padded bytes _ c.put_front.new.page run image some written c.put_front.ensures)
    c.write_free_run.ensures.some (c.write_free_run.ensures.written stored is)
