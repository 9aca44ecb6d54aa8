use Rattle.std.proofs.Common.{◌≡◌, true, Some, None, IsSome, rules}
use Rattle.std.specs.FinMap.Entries.{find}
use Rattle.byte_map.specs.Words.{bytes_cmp}
use Rattle.plain_volume.specs.Volume.{is_lawful}
use Rattle.volume_tables.specs.Tables.{tables_now}
use Rattle.volume_files.proofs.OtherName.{refused_missing, refused_exists}
use Rattle.volume_files.proofs.renaming.check_names.Goals as goal

pub returns-in_default-clause-refused : goal.returns-in_default-clause-refused
returns-in_default-clause-refused g c =
    let t = c.args.tables.now in
    let lawful : is_lawful c.args.from.now ≡ true = search rules in
    let lawful_to : is_lawful c.args.to.now ≡ true = search rules in
    let none : find bytes_cmp c.args.from.now (tables_now t).names ≡ None = search rules in
    refused_missing t c.args.from.now c.args.to.now lawful lawful_to none

pub returns-then-is_some-clause-refused : goal.returns-then-is_some-clause-refused
returns-then-is_some-clause-refused g c =
    let t = c.args.tables.now in
    let lawful : is_lawful c.args.from.now ≡ true = search rules in
    let lawful_to : is_lawful c.args.to.now ≡ true = search rules in
    let named : find bytes_cmp c.args.from.now (tables_now t).names ≡ Some c.in-Some.id = search rules in
    let there : IsSome (find bytes_cmp c.args.to.now (tables_now t).names) = search rules in
    refused_exists t c.args.from.now c.args.to.now c.in-Some.id lawful lawful_to named there
