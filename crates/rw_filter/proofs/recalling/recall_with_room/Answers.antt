use Rattle.std.proofs.Common.{◌≡◌, ◌*◌, ◌-◌, ℕ, min, Some, None, Result, Err, length, ◌∙◌, ap, sym, subst, arith, rules}
use Rattle.std.proofs.lemmas.Result.{on_ok_weaker}
use Rattle.plain_volume.specs.declared.call.Fault.{Fault}
use Rattle.volume_inside.specs.Typed.{Typed}
use Rattle.volume_tables.specs.Tables.{tables_now, inside_now, disk_of, clusters_in}
use Rattle.volume_tables.proofs.Leaving.{leaves_then}
use Rattle.volume_files.specs.Lengths.{length_in}
use Rattle.volume_files.specs.Own.{AreOwnBeside}
use Rattle.rw_filter.specs.Recalling.{TellsLost, lost_there}
use Rattle.rw_filter.proofs.OwnRead.{cells_length}
use Rattle.rw_filter.proofs.Recalled.{own_beside_block, covered_file}
use Rattle.rw_filter.proofs.RecallDone.{sound_read, recalled_done, inside_done, view_done, lost_is}
use Rattle.rw_filter.proofs.RecallReplies.{told_read, told_written}
use Rattle.rw_filter.proofs.recalling.recall_with_room.Goals as goal

pub read_file-requires-clause-within : goal.read_file-requires-clause-within
read_file-requires-clause-within g c =
    let t = c.args.tables.now in
    let at : ℕ = c.from.result * c.from-2.result in
    let place : at ≡ 4096 * c.args.index = (λ i. c.from.ensures i * c.from-2.ensures i) in
    let file = covered_file (tables_now t) c.args.file (4096 * c.args.index) c.requires.covered in
    let whole = cells_length (tables_now t) (disk_of t).image c.args.file file.0 file.1 in
    let long = ap length_in file.1 in
    omega (arith, place, whole, long, c.requires.within, c.requires.long)

pub returns-in_err-read_file-clause-sound : goal.returns-in_err-read_file-clause-sound
returns-in_err-read_file-clause-sound g c =
    sound_read c.args.tables.now c.read_file.new.tables c.read_file.ensures.reads c.requires.sound c.requires.running

pub write_with_room-requires-clause-sound : goal.write_with_room-requires-clause-sound
write_with_room-requires-clause-sound g c =
    sound_read c.args.tables.now c.read_file.new.tables c.read_file.ensures.reads c.requires.sound c.requires.running

pub returns-in_err-read_file-clause-lost : goal.returns-in_err-read_file-clause-lost
returns-in_err-read_file-clause-lost g c stored is =
    let t = c.args.tables.now in
    let place : c.from.result * c.from-2.result ≡ 4096 * c.args.index = (λ i. c.from.ensures i * c.from-2.ensures i) in
    let refused : c.from_residual.result ≡ Err c.in_err-read_file.field-0.0 = search rules in
    subst (λ (r : Result (Unit {0}) Fault). TellsLost (lost_there (tables_now t) (inside_now t) c.args.file c.args.index) r)
    (sym refused)
    (told_read (lost_there (tables_now t) (inside_now t) c.args.file c.args.index) c.in_err-read_file.field-0.0
    c.in_err-read_file.ensures.refused
    (λ q damaged. lost_is t c.args.file c.args.index (length c.args.block.now) (c.from.result * c.from-2.result)
    place c.requires.long (Some q)
    (c.read_file.ensures.damaged stored is q (c.in_err-read_file.was ∙ damaged))))

pub write_with_room-requires-clause-own : goal.write_with_room-requires-clause-own
write_with_room-requires-clause-own g c =
    let t = c.args.tables.now in
    let u = c.read_file.new.tables in
    let place : c.from.result * c.from-2.result ≡ 4096 * c.args.index = (λ i. c.from.ensures i * c.from-2.ensures i) in
    let file = covered_file (tables_now t) c.args.file (4096 * c.args.index) c.requires.covered in
    let long = c.read_file.auto.out ∙ c.requires.long in
    let small = long ∙ ap (λ (n : ℕ). min 4096 (n - 4096 * c.args.index)) (ap length_in file.1) in
    let own = own_beside_block (clusters_in t) (tables_now t) c.args.file c.args.index (length c.read_file.new.out) file.0
    c.requires.sound.rules file.1 small (omega (arith, long, c.requires.some)) in
    subst (λ (p : Typed × ℕ). AreOwnBeside p.0 c.args.file p.1 (length c.read_file.new.out))
    (λ i. (sym c.read_file.ensures.reads.now i, sym place i)) own

pub returns-clause-recalled : goal.returns-clause-recalled
returns-clause-recalled g c =
    let t = c.args.tables.now in
    let place : c.from.result * c.from-2.result ≡ 4096 * c.args.index = (λ i. c.from.ensures i * c.from-2.ensures i) in
    let file = covered_file (tables_now t) c.args.file (4096 * c.args.index) c.requires.covered in
    on_ok_weaker c.write_with_room.result
    (λ written. recalled_done t c.read_file.new.tables c.read_file.ensures.reads c.write_with_room.new.tables
    c.args.file c.args.index (length c.args.block.now) (c.from.result * c.from-2.result) file.0 file.1 place
    c.requires.long (omega (arith, c.requires.long, c.requires.some)) c.read_file.new.out
    c.read_file.auto.out written)
    c.write_with_room.ensures.written

pub returns-clause-inside : goal.returns-clause-inside
returns-clause-inside g c stored is =
    let t = c.args.tables.now in
    let reads = c.read_file.ensures.reads in
    let place : c.from.result * c.from-2.result ≡ 4096 * c.args.index = (λ i. c.from.ensures i * c.from-2.ensures i) in
    let file = covered_file (tables_now t) c.args.file (4096 * c.args.index) c.requires.covered in
    on_ok_weaker c.write_with_room.result
    (λ written. inside_done t c.read_file.new.tables reads c.write_with_room.new.tables
    c.args.file c.args.index (length c.args.block.now) (c.from.result * c.from-2.result) file.0 file.1 place
    c.requires.long (omega (arith, c.requires.long, c.requires.some)) c.read_file.new.out
    c.read_file.auto.out (c.in_ok-read_file.ensures.bytes stored is) written)
    (c.write_with_room.ensures.inside stored (reads.leaves.tables stored is))

pub returns-clause-view : goal.returns-clause-view
returns-clause-view g c stored is =
    let t = c.args.tables.now in
    let reads = c.read_file.ensures.reads in
    let place : c.from.result * c.from-2.result ≡ 4096 * c.args.index = (λ i. c.from.ensures i * c.from-2.ensures i) in
    let file = covered_file (tables_now t) c.args.file (4096 * c.args.index) c.requires.covered in
    on_ok_weaker c.write_with_room.result
    (λ written. view_done t c.read_file.new.tables reads c.write_with_room.new.tables
    c.args.file c.args.index (length c.args.block.now) (c.from.result * c.from-2.result) file.0 file.1 place
    c.requires.long (omega (arith, c.requires.long, c.requires.some)) c.read_file.new.out
    c.read_file.auto.out (c.in_ok-read_file.ensures.bytes stored is) (c.in_ok-read_file.ensures.whole stored is) written)
    (c.write_with_room.ensures.inside stored (reads.leaves.tables stored is))

pub returns-clause-leaves : goal.returns-clause-leaves
returns-clause-leaves g c =
    leaves_then g.met.D.Disk.same_next c.args.tables.now c.read_file.new.tables c.write_with_room.new.tables
    c.read_file.ensures.reads.leaves c.write_with_room.ensures.leaves

pub returns-clause-lost : goal.returns-clause-lost
returns-clause-lost g c stored is =
    let t = c.args.tables.now in
    let place : c.from.result * c.from-2.result ≡ 4096 * c.args.index = (λ i. c.from.ensures i * c.from-2.ensures i) in
    told_written (lost_there (tables_now t) (inside_now t) c.args.file c.args.index) c.write_with_room.result
    (lost_is t c.args.file c.args.index (length c.args.block.now) (c.from.result * c.from-2.result) place
    c.requires.long None (c.in_ok-read_file.ensures.whole stored is))
    c.write_with_room.ensures.refused
