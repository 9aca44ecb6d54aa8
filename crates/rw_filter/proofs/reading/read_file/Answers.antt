use Rattle.std.proofs.Common.{◌≡◌, Some, length, ◌∙◌, sym, arith}
use Rattle.std.specs.Ordering.{nat_cmp}
use Rattle.std.specs.FinMap.{find}
use Rattle.std.proofs.lemmas.Result.{on_ok_weaker}
use Rattle.volume_tables.specs.Tables.{tables_now, disk_of}
use Rattle.rw_filter.proofs.OwnRead.{cells_length}
use Rattle.rw_filter.proofs.HoleCells.{first_lost_there, bytes_read, none_lost_there}
use Rattle.rw_filter.proofs.reading.read_file.Goals as goal

pub read_found-requires-clause-within : goal.read_found-requires-clause-within
read_found-requires-clause-within g c =
    let t = c.args.tables.now in
    let there : find nat_cmp c.args.file (tables_now t).files ≡ Some c.unwrap-found.result =
    sym c.get_file.ensures ∙ c.unwrap-found.ensures in
    let whole = cells_length (tables_now t) (disk_of t).image c.args.file c.unwrap-found.result there in
    omega (arith, whole, c.requires.within)

pub returns-clause-bytes : goal.returns-clause-bytes
returns-clause-bytes g c stored is =
    let t = c.args.tables.now in
    let found = c.unwrap-found.result in
    let there : find nat_cmp c.args.file (tables_now t).files ≡ Some found = sym c.get_file.ensures ∙ c.unwrap-found.ensures in
    let whole = cells_length (tables_now t) (disk_of t).image c.args.file found there in
    on_ok_weaker c.read_found.result
    (λ read. bytes_read (tables_now t) (disk_of t).image c.args.file c.args.at (length c.args.out.now) found there
    (omega (arith, whole, c.requires.within)) c.read_found.new.out read c.read_found.auto.out)
    (c.read_found.ensures.cells stored is)

pub returns-clause-whole : goal.returns-clause-whole
returns-clause-whole g c stored is =
    let t = c.args.tables.now in
    let found = c.unwrap-found.result in
    let there : find nat_cmp c.args.file (tables_now t).files ≡ Some found = sym c.get_file.ensures ∙ c.unwrap-found.ensures in
    let whole = cells_length (tables_now t) (disk_of t).image c.args.file found there in
    on_ok_weaker c.read_found.result
    (λ read. none_lost_there (tables_now t) (disk_of t).image c.args.file c.args.at (length c.args.out.now) found there
    (omega (arith, whole, c.requires.within)) c.read_found.new.out read)
    (c.read_found.ensures.cells stored is)

pub returns-clause-damaged : goal.returns-clause-damaged
returns-clause-damaged g c stored is q err =
    let t = c.args.tables.now in
    let found = c.unwrap-found.result in
    let there : find nat_cmp c.args.file (tables_now t).files ≡ Some found = sym c.get_file.ensures ∙ c.unwrap-found.ensures in
    let whole = cells_length (tables_now t) (disk_of t).image c.args.file found there in
    first_lost_there (tables_now t) (disk_of t).image c.args.file c.args.at (length c.args.out.now) found there
    (omega (arith, whole, c.requires.within)) q (c.read_found.ensures.damaged stored is q err)
