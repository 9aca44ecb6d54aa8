use Rattle.std.proofs.Common.{◌≡◌, true, rules, subst, sym}
use Rattle.std.specs.Prelude.{Some, None, IsSome}
use Rattle.std.specs.Ordering.{nat_cmp}
use Rattle.std.specs.FinMap.Entries.{find}
use Rattle.byte_map.specs.Words.{bytes_cmp}
use Rattle.plain_volume.specs.Volume.{is_lawful}
use Rattle.volume_tables.specs.Tables.{tables_now}
use Rattle.volume_files.proofs.Found.{file_is_there, is_file_of, refuses_no_file}
use Rattle.volume_files.proofs.lookup.find_file.Goals as goal

pub unwrap-requires : goal.unwrap-requires
unwrap-requires g c =
    let t = c.args.tables.now in
    let found : find bytes_cmp c.args.name.now (tables_now t).names ≡ Some c.in-Some.id = search rules in
    subst IsSome (sym c.get_file.ensures) (file_is_there t c.requires c.args.name.now c.in-Some.id found)

pub returns-in-None-clause-refused : goal.returns-in-None-clause-refused
returns-in-None-clause-refused g c =
    let t = c.args.tables.now in
    let lawful : is_lawful c.args.name.now ≡ true = search rules in
    let found : find bytes_cmp c.args.name.now (tables_now t).names ≡ None = search rules in
    refuses_no_file t c.args.name.now lawful found

pub returns-in-Some-clause-found : goal.returns-in-Some-clause-found
returns-in-Some-clause-found g c =
    let t = c.args.tables.now in
    let lawful : is_lawful c.args.name.now ≡ true = search rules in
    let found : find bytes_cmp c.args.name.now (tables_now t).names ≡ Some c.in-Some.id = search rules in
    let there : find nat_cmp c.in-Some.id (tables_now t).files ≡ Some c.unwrap.result = search rules in
    is_file_of t c.requires c.args.name.now c.in-Some.id found c.unwrap.result lawful there
