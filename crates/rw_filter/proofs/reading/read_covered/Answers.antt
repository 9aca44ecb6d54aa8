use Rattle.std.proofs.Common.{◌≡◌, ℕ, Result, Err, length, take, drop, ◌∙◌, ap, subst, arith}
use Rattle.std.proofs.lemmas.List.{length-take-le}
use Rattle.std.proofs.lemmas.Map.Lookups.{exact_unsigned}
use Rattle.std.specs.Ordering.{nat_cmp}
use Rattle.plain_volume.specs.declared.call.Fault.{Fault}
use Rattle.plain_volume.specs.declared.call.Fault.TheVariants.{Damaged}
use Rattle.row_reading.proofs.Readable.{readable}
use Rattle.volume_inside.specs.Entries.{each_found}
use Rattle.volume_inside.specs.Rules.{next_id_of, FileHolds}
use Rattle.volume_tables.specs.Tables.{tables_now, inside_now, disk_of, clusters_in}
use Rattle.rw_filter.specs.Own.{IsFirstHole}
use Rattle.rw_filter.proofs.HoleCells.{base_read, base_lost}
use Rattle.rw_filter.proofs.reading.read_covered.Goals as goal

abbrev place_of : Result (Unit {0}) Fault → ℕ
place_of (Err (Damaged place)) = place
place_of other = 0

pub invariant_of-holes : goal.invariant_of-holes
invariant_of-holes g c =
    let t = c.args.tables.now in
    let holds = each_found nat_cmp exact_unsigned (FileHolds (next_id_of (tables_now t))) c.args.file c.args.found
    (tables_now t).files c.requires.there c.requires.rules.files in
    let within = holds.cover.within in
    let short = holds.short in
    record { low = omega (arith, within, short) }

pub read_base-requires-clause-readable : goal.read_base-requires-clause-readable
read_base-requires-clause-readable g c =
    let t = c.args.tables.now in
    readable (clusters_in t) (next_id_of (tables_now t)) (tables_now t).chunks (disk_of t).image t.size
    c.requires.rules.chunks

pub returns-in-Ok-clause-bytes : goal.returns-in-Ok-clause-bytes
returns-in-Ok-clause-bytes g c stored is =
    let t = c.args.tables.now in
    let m = c.min-count.result in
    let out = c.args.out.now in
    let room : length (take m out) ≡ m = length-take-le m out (omega (arith, c.min-count.ensures)) in
    base_read (tables_now t) (disk_of t).image c.args.file c.args.at (length out) m c.args.found c.requires.there
    c.min-count.ensures c.if-found-at.false c.read_base.new.out (drop m out) (c.read_base.auto.out ∙ room)
    (c.in-Ok.ensures.read (stored, is))

pub returns-in-Err-Lost-clause-damaged : goal.returns-in-Err-Lost-clause-damaged
returns-in-Err-Lost-clause-damaged g c stored is q err =
    let t = c.args.tables.now in
    let m = c.min-count.result in
    let out = c.args.out.now in
    let room : length (take m out) ≡ m = length-take-le m out (omega (arith, c.min-count.ensures)) in
    let first = c.read_base.ensures.lost (stored, is) c.in-Err-Lost.place
    (c.in-Err-Lost.is ∙ ap Err c.in-Err-Lost.field-0-is) in
    let found = base_lost (tables_now t) (disk_of t).image c.args.file c.args.at (length out) m c.args.found
    c.requires.there c.min-count.ensures c.if-found-at.false c.in-Err-Lost.place
    (record {
      behind = first.behind;
      within = (let to = first.within in omega (arith, to, room));
      wanted = first.wanted;
      lost = first.lost;
      before = first.before;
    }) in
    subst (IsFirstHole (tables_now t) (inside_now t) c.args.file c.args.found c.args.at (length out))
    (ap place_of err) found
