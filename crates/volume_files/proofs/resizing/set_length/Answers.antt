use Rattle.std.proofs.Common.{◌≡◌, ◌≤◌, ℕ, Err, sym, refl, arith, rules}
use Rattle.plain_volume.specs.declared.limits.TheConstants.{MOST_BYTES_OF_A_FILE}
use Rattle.volume_tables.specs.Tables.{tables_now, clusters_in}
use Rattle.volume_tables.proofs.Endured.{endures_leaves}
use Rattle.volume_files.specs.Needs.{length_needs}
use Rattle.volume_files.proofs.Pending.{err_same, pending_refused, pending_stages}
use Rattle.volume_tables.proofs.Stagings.{stages_as}
use Rattle.volume_tables.specs.Pending.{roomed_of, worn_of}
use Rattle.volume_files.proofs.Resized.{records_same, small_id, sound_resized, view_left}
use Rattle.volume_files.proofs.Spent.{spends_none, spends_resized}
use Rattle.std.proofs.Common.{ap, ◌∙◌}
use Rattle.std.specs.FinMap.{find}
use Rattle.std.specs.Ordering.{nat_cmp}
use Rattle.byte_map.specs.Words.{bytes_cmp}
use Rattle.volume_inside.specs.Typed.{Typed}
use Rattle.volume_tables.specs.Tables.{disk_of}
use Rattle.volume_files.specs.Insides.{inside_resized}
use Rattle.volume_files.specs.Lengths.{resized_in}
use Rattle.volume_files.proofs.Insides.{inside_left, inside_cut}
use Rattle.volume_files.proofs.Setting.{sorted_now}
use Rattle.volume_files.proofs.resizing.set_length.Goals as goal

pub resize-requires-clause-id : goal.resize-requires-clause-id
resize-requires-clause-id g c =
    let t = c.args.tables.now in
    small_id (clusters_in t) (tables_now t) c.requires.sound.rules c.in_ok-id.id c.in_ok-id.file
    c.in_ok-id.ensures.found.there

pub returns-clause-left : goal.returns-clause-left
returns-clause-left g c =
    let t = c.args.tables.now in
    let u = c.make_room.new.tables in
    let few : c.args.length ≤ MOST_BYTES_OF_A_FILE = omega arith in
    view_left t c.args.name.now c.args.length c.in_ok-id.id c.in_ok-id.file c.in_ok-id.ensures.found u
    c.resize.new.tables c.make_room.ensures.now c.make_room.ensures.inside
    c.make_room.ensures.sound c.in_ok-make_room.ensures.runs few
    (length_needs (tables_now u) c.in_ok-id.id c.in_ok-id.file.length c.args.length).records
    c.resize.ensures.stages c.resize.ensures.tables

pub returns-clause-sound : goal.returns-clause-sound
returns-clause-sound g c =
    let t = c.args.tables.now in
    let u = c.make_room.new.tables in
    let few : c.args.length ≤ MOST_BYTES_OF_A_FILE = omega arith in
    sound_resized t c.args.name.now c.args.length c.in_ok-id.id c.in_ok-id.file c.in_ok-id.ensures.found u
    c.resize.new.tables c.make_room.ensures.now c.make_room.ensures.inside
    c.make_room.ensures.sound c.in_ok-make_room.ensures.runs few
    (length_needs (tables_now u) c.in_ok-id.id c.in_ok-id.file.length c.args.length).records
    c.resize.ensures.stages c.resize.ensures.tables

pub returns-clause-endures : goal.returns-clause-endures
returns-clause-endures g c =
    endures_leaves g.met.D.Disk.same_next c.args.tables.now c.make_room.new.tables c.resize.new.tables
    c.make_room.ensures.endures c.in_ok-make_room.ensures.runs c.resize.ensures.stages.leaves

pub returns-in_err-make_room-clause-spends : goal.returns-in_err-make_room-clause-spends
returns-in_err-make_room-clause-spends g c =
    spends_none 0 0 c.args.tables.now c.make_room.new.tables c.make_room.ensures.now

pub returns-clause-spends : goal.returns-clause-spends
returns-clause-spends g c =
    spends_resized c.args.tables.now c.make_room.new.tables c.resize.new.tables c.make_room.ensures.now
    c.in_ok-id.id c.args.length c.in_ok-id.file c.resize.ensures.tables

pub returns-clause-inside : goal.returns-clause-inside
returns-clause-inside g c =
    let t = c.args.tables.now in
    let m = c.make_room.new.tables in
    let name = c.args.name.now in
    let len = c.args.length in
    let id = c.in_ok-id.id in
    let file = c.in_ok-id.file in
    let is = c.in_ok-id.ensures.found in
    let named = ap (λ (q : Typed). find bytes_cmp name q.names) c.make_room.ensures.now ∙ is.named in
    let there = ap (λ (q : Typed). find nat_cmp id q.files) c.make_room.ensures.now ∙ is.there in
    inside_left t m c.resize.new.tables c.make_room.ensures.inside c.resize.ensures.stages.image
    (λ i. inside_resized name len i) (resized_in id file len (tables_now m))
    (inside_cut id len (tables_now m) (disk_of m).image (sorted_now m) name file named there) c.resize.ensures.tables

pub returns-in_err-id-clause-pending : goal.returns-in_err-id-clause-pending
returns-in_err-id-clause-pending g c id file is =
    let t = c.args.tables.now in
    let needs = length_needs (tables_now t) id file.length c.args.length in
    let r = c.from_residual.result in
    let same : r ≡ Err c.in_err-id.field-0.0 = search rules in
    pending_refused t t needs needs.records r (search rules)
    (λ worn. absurd (c.in_err-id.ensures.not_worn (err_same (sym same ∙ worn))))

pub returns-in_err-make_room-clause-pending : goal.returns-in_err-make_room-clause-pending
returns-in_err-make_room-clause-pending g c id file is =
    let t = c.args.tables.now in
    let m = c.make_room.new.tables in
    let found = c.in_ok-id.ensures.found in
    let needs = length_needs (tables_now t) id file.length c.args.length in
    let r = c.from_residual-in_err-make_room.result in
    let same : r ≡ Err c.in_err-make_room.field-0.0 = search rules in
    let records = c.records_of_length-records.ensures ∙ records_same t c.args.name.now c.args.length c.in_ok-id.id id
    c.in_ok-id.file file found is in
    pending_refused t m needs needs.records r (search rules)
    (λ worn. c.in_err-make_room.ensures.worn (sym same ∙ worn)
    ∙ ap (λ (n : ℕ). worn_of t (record needs { records = n })) records)

pub returns-clause-pending : goal.returns-clause-pending
returns-clause-pending g c id file is =
    let t = c.args.tables.now in
    let m = c.make_room.new.tables in
    let found = c.in_ok-id.ensures.found in
    let len = c.args.length in
    let needs = length_needs (tables_now t) id file.length len in
    let known = records_same t c.args.name.now len c.in_ok-id.id id c.in_ok-id.file file found is in
    let records = c.records_of_length-records.ensures ∙ known in
    pending_stages t m c.resize.new.tables needs
    (c.in_ok-make_room.ensures.pending ∙ ap (λ (n : ℕ). roomed_of t (record needs { records = n })) records) refl
    needs.records
    (stages_as _ _ m c.resize.new.tables c.resize.ensures.stages
    (ap (λ (q : Typed). (length_needs q c.in_ok-id.id c.in_ok-id.file.length len).records) c.make_room.ensures.now
    ∙ known))
