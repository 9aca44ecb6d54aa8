use Rattle.volume_tables.specs.Tables.{disk_of}
use Rattle.chunk_container.proofs.PageBytes.{front_ahead, rest_ahead, if_two}
use Rattle.chunk_container.proofs.pages.write_ahead.Goals as goal

pub returns-then-ahead-gt0-clause-front : goal.returns-then-ahead-gt0-clause-front
returns-then-ahead-gt0-clause-front g c stored is ahead =
    front_ahead c.args.bytes.now c.args.ahead (disk_of c.args.tables.now).image c.if-ahead-gt0.true ahead

pub returns-then-ahead-gt0-clause-ahead : goal.returns-then-ahead-gt0-clause-ahead
returns-then-ahead-gt0-clause-ahead g c stored is ahead =
    rest_ahead c.args.bytes.now c.args.ahead (disk_of c.args.tables.now).image ahead

pub returns-then-bytes-lt-PAGE_BYTES-clause-front : goal.returns-then-bytes-lt-PAGE_BYTES-clause-front
returns-then-bytes-lt-PAGE_BYTES-clause-front g c stored is ahead = c.write_last_page.ensures.front stored is

pub returns-clause-front : goal.returns-clause-front
returns-clause-front g c stored is ahead =
    let bytes = c.args.bytes.now in
    let image = (disk_of c.write_free_run.new.self).image in
    if_two c.write_free_run.result _ _ _ (λ run some written. front_ahead bytes run image some written)
    c.write_free_run.ensures.some (c.write_free_run.ensures.written stored is)

pub returns-clause-ahead : goal.returns-clause-ahead
returns-clause-ahead g c stored is ahead =
    let bytes = c.args.bytes.now in
    let image = (disk_of c.write_free_run.new.self).image in
    if_two c.write_free_run.result _ _ _ (λ run some written. rest_ahead bytes run image written)
    c.write_free_run.ensures.some (c.write_free_run.ensures.written stored is)
