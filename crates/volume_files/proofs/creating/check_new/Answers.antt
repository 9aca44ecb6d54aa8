use Rattle.std.proofs.Common.{◌≡◌, ◌≤◌, true, length, rules, arith}
use Rattle.std.specs.Prelude.{None, IsSome}
use Rattle.std.specs.FinMap.Entries.{find}
use Rattle.byte_map.specs.Words.{bytes_cmp}
use Rattle.plain_volume.specs.Volume.{is_lawful}
use Rattle.plain_volume.specs.declared.limits.TheConstants.{MOST_FILES}
use Rattle.volume_tables.specs.Tables.{tables_now}
use Rattle.volume_files.proofs.NewFile.{refused_taken, refused_many}
use Rattle.volume_files.proofs.creating.check_new.Goals as goal

pub returns-then-is_some-clause-refused : goal.returns-then-is_some-clause-refused
returns-then-is_some-clause-refused g c =
    let t = c.args.tables.now in
    let lawful : is_lawful c.args.name.now ≡ true = search rules in
    let there : IsSome (find bytes_cmp c.args.name.now (tables_now t).names) = search rules in
    refused_taken t c.args.name.now lawful there

pub returns-then-name_count-ge-MOST_FILES-clause-refused : goal.returns-then-name_count-ge-MOST_FILES-clause-refused
returns-then-name_count-ge-MOST_FILES-clause-refused g c =
    let t = c.args.tables.now in
    let lawful : is_lawful c.args.name.now ≡ true = search rules in
    let free : find bytes_cmp c.args.name.now (tables_now t).names ≡ None = search rules in
    let many : MOST_FILES ≤ length (tables_now t).names = omega arith in
    refused_many t c.args.name.now lawful free many
