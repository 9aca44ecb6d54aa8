use Rattle.std.proofs.Common.{◌≡◌, Some, rules}
use Rattle.byte_map.specs.Words.{bytes_cmp, next_in}
use Rattle.volume_tables.specs.Tables.{tables_now}
use Rattle.volume_files.proofs.OneName.{next_is_short}
use Rattle.volume_files.proofs.deleting.copy_next.Goals as goal

pub slice_bounds-copy_from_slice-end : goal.slice_bounds-copy_from_slice-end
slice_bounds-copy_from_slice-end g c =
    let names = (tables_now c.args.tables.now).names in
    let found : next_in bytes_cmp c.args.name.now names ≡ Some (c.in-Some.next.now, c.in-Some.field-0-1) =
    search rules in
    next_is_short c.args.name.now c.in-Some.next.now c.in-Some.field-0-1 names c.requires.names found
