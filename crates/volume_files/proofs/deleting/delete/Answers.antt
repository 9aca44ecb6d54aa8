use Rattle.std.proofs.Common.{◌≡◌, Err, sym, refl, rules}
use Rattle.volume_inside.specs.Typed.{Typed}
use Rattle.volume_tables.specs.Tables.{tables_now, clusters_in}
use Rattle.volume_tables.proofs.Endured.{endures_leaves}
use Rattle.volume_files.proofs.Found.{lawful_short}
use Rattle.volume_files.proofs.GoneFile.{view_left_gone, sound_gone}
use Rattle.volume_files.proofs.OneName.{short_names}
use Rattle.volume_files.proofs.Resized.{small_id}
use Rattle.volume_files.proofs.Spent.{spends_none, spends_gone}
use Rattle.std.proofs.Common.{ap, ◌∙◌}
use Rattle.std.specs.FinMap.{find}
use Rattle.byte_map.specs.Words.{bytes_cmp}
use Rattle.volume_tables.specs.Tables.{disk_of}
use Rattle.volume_files.specs.Insides.{inside_deleted}
use Rattle.volume_files.specs.Names.{without_name}
use Rattle.volume_files.specs.Needs.{delete_needs, delete_bytes}
use Rattle.volume_files.proofs.Pending.{err_same, pending_refused, pending_stages}
use Rattle.volume_tables.proofs.Stagings.{stages_as}
use Rattle.volume_files.proofs.Insides.{inside_left, inside_gone}
use Rattle.volume_files.proofs.deleting.delete.Goals as goal

pub drop_all-requires-clause-short : goal.drop_all-requires-clause-short
drop_all-requires-clause-short g c = lawful_short c.args.name.now c.in_ok-id.ensures.found.lawful

pub drop_all-requires-clause-names : goal.drop_all-requires-clause-names
drop_all-requires-clause-names g c =
    let m = c.make_room.new.tables in
    short_names (tables_now m) (tables_now m).names c.make_room.ensures.sound.rules.names.names

pub drop_all-requires-clause-id : goal.drop_all-requires-clause-id
drop_all-requires-clause-id g c =
    let t = c.args.tables.now in
    small_id (clusters_in t) (tables_now t) c.requires.sound.rules c.in_ok-id.id c.in_ok-id.field-0-1
    c.in_ok-id.ensures.found.there

pub returns-clause-left : goal.returns-clause-left
returns-clause-left g c =
    let t = c.args.tables.now in
    let m = c.make_room.new.tables in
    let room = c.make_room.ensures in
    view_left_gone t m c.drop_all.new.tables c.args.name.now c.in_ok-id.id c.in_ok-id.field-0-1 c.in_ok-id.ensures.found
    room.now room.inside room.sound
    (delete_bytes (tables_now m).names c.args.name.now) c.drop_all.ensures.stages c.drop_all.ensures.tables

pub returns-clause-sound : goal.returns-clause-sound
returns-clause-sound g c =
    let t = c.args.tables.now in
    let m = c.make_room.new.tables in
    let room = c.make_room.ensures in
    sound_gone t m c.drop_all.new.tables c.args.name.now c.in_ok-id.id c.in_ok-id.field-0-1 c.in_ok-id.ensures.found
    room.now room.inside room.sound
    (delete_bytes (tables_now m).names c.args.name.now) c.drop_all.ensures.stages c.drop_all.ensures.tables

pub returns-clause-endures : goal.returns-clause-endures
returns-clause-endures g c =
    endures_leaves g.met.D.Disk.same_next c.args.tables.now c.make_room.new.tables c.drop_all.new.tables
    c.make_room.ensures.endures
    c.in_ok-make_room.ensures.runs c.drop_all.ensures.stages.leaves

pub returns-in_err-make_room-clause-spends : goal.returns-in_err-make_room-clause-spends
returns-in_err-make_room-clause-spends g c =
    spends_none 0 0 c.args.tables.now c.make_room.new.tables c.make_room.ensures.now

pub returns-clause-spends : goal.returns-clause-spends
returns-clause-spends g c =
    spends_gone c.args.tables.now c.make_room.new.tables c.drop_all.new.tables c.make_room.ensures.now c.args.name.now
    c.in_ok-id.id c.drop_all.ensures.tables

pub returns-clause-inside : goal.returns-clause-inside
returns-clause-inside g c =
    let t = c.args.tables.now in
    let m = c.make_room.new.tables in
    let name = c.args.name.now in
    let id = c.in_ok-id.id in
    let named = ap (λ (q : Typed). find bytes_cmp name q.names) c.make_room.ensures.now
    ∙ c.in_ok-id.ensures.found.named in
    inside_left t m c.drop_all.new.tables c.make_room.ensures.inside c.drop_all.ensures.stages.image
    (inside_deleted name) (without_name name id (tables_now m)) (inside_gone (tables_now m) (disk_of m).image name id named)
    c.drop_all.ensures.tables

pub returns-in_err-id-clause-pending : goal.returns-in_err-id-clause-pending
returns-in_err-id-clause-pending g c =
    let t = c.args.tables.now in
    let name = c.args.name.now in
    let r = c.from_residual.result in
    let is : r ≡ Err c.in_err-id.field-0.0 = search rules in
    pending_refused t t (delete_needs name) (delete_bytes (tables_now t).names name) r (search rules)
    (λ worn. absurd (c.in_err-id.ensures.not_worn (err_same (sym is ∙ worn))))

pub returns-in_err-make_room-clause-pending : goal.returns-in_err-make_room-clause-pending
returns-in_err-make_room-clause-pending g c =
    let t = c.args.tables.now in
    let name = c.args.name.now in
    let r = c.from_residual-in_err-make_room.result in
    let is : r ≡ Err c.in_err-make_room.field-0.0 = search rules in
    pending_refused t c.make_room.new.tables (delete_needs name) (delete_bytes (tables_now t).names name) r
    (search rules) (λ worn. c.in_err-make_room.ensures.worn (sym is ∙ worn))

pub returns-clause-pending : goal.returns-clause-pending
returns-clause-pending g c =
    let t = c.args.tables.now in
    let m = c.make_room.new.tables in
    let name = c.args.name.now in
    let bytes = ap (λ (q : Typed). delete_bytes q.names name) c.make_room.ensures.now in
    pending_stages t m c.drop_all.new.tables (delete_needs name) c.in_ok-make_room.ensures.pending refl
    (delete_bytes (tables_now t).names name)
    (stages_as (delete_bytes (tables_now m).names name) _ m c.drop_all.new.tables c.drop_all.ensures.stages bytes)
