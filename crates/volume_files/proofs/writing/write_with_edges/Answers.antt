use Rattle.std.proofs.Common.{◌≡◌, ◌+◌, ◌/◌, ℕ, List, length, sym, ◌∙◌, ap, subst, arith, refl}
use Rattle.std.specs.Prelude.{Option, IsSome}
use Rattle.std.specs.Ordering.{nat_cmp}
use Rattle.std.specs.FinMap.{find}
use Rattle.table_records.specs.declared.records.FileRecord.{FileRecord}
use Rattle.volume_inside.specs.Inside.{Inside, inside_at}
use Rattle.volume_inside.specs.View.{cell}
use Rattle.volume_inside.specs.Typed.{Typed}
use Rattle.volume_inside.specs.Changes.{with_file}
use Rattle.volume_inside.specs.Rules.{RulesHold}
use Rattle.cluster_space.specs.States.{free_in}
use Rattle.cluster_space.specs.declared.state.State.{State}
use Rattle.volume_tables.specs.Tables.{tables_now, inside_now, states_of, disk_of}
use Rattle.volume_tables.proofs.Leaving.{leaves_then}
use Rattle.volume_files.specs.Edges.{edge_byte}
use Rattle.volume_files.specs.Needs.{touched}
use Rattle.volume_files.specs.Writing.{blocks_up_to, reaching}
use Rattle.volume_files.proofs.EdgeBytes.{edge_cell, edges_of}
use Rattle.volume_files.proofs.Laid.{cells_laid}
use Rattle.volume_files.proofs.Setting.{held_now, on_ok_there}
use Rattle.volume_files.proofs.Written.{rules_grown, grown_short, cells_written, others_written, on_err_any}
use Rattle.volume_files.proofs.Written.{sound_refused, sound_written}
use Rattle.volume_tables.proofs.Mapped.{maps_same}
use Rattle.volume_files.proofs.FileMaps.{maps_with_file}
use Rattle.volume_files.proofs.Spent.{spends_none, spends_then, spends_record}
use Rattle.volume_files.proofs.Insides.{file_then}
use Rattle.volume_files.proofs.writing.write_with_edges.Goals as goal

pub write_blocks-requires-clause-rules : goal.write_blocks-requires-clause-rules
write_blocks-requires-clause-rules g c =
    let t = c.args.tables.now in
    let was = c.unwrap-grown.result in
    let to : ℕ = c.args.at + length c.args.bytes.now in
    let found = sym c.get_file.ensures ∙ c.unwrap-grown.ensures in
    subst (λ (n : ℕ). RulesHold t.clusters (with_file c.args.file (record was { length = n }) (tables_now t)))
    (sym c.max.ensures)
    (rules_grown t.clusters (tables_now t) c.requires.sound.rules c.args.file to was found c.requires.within)

pub write_blocks-requires-clause-most : goal.write_blocks-requires-clause-most
write_blocks-requires-clause-most g c =
    let t = c.args.tables.now in
    let was = c.unwrap-grown.result in
    let to : ℕ = c.args.at + length c.args.bytes.now in
    let found = sym c.get_file.ensures ∙ c.unwrap-grown.ensures in
    let short = grown_short t.clusters (tables_now t) c.requires.sound.rules c.args.file to was found
    c.requires.within in
    omega (arith, short, c.max.ensures)

pub returns-in_err-write_blocks-clause-err_inside : goal.returns-in_err-write_blocks-clause-err_inside
returns-in_err-write_blocks-clause-err_inside g c =
    let t = c.args.tables.now in
    let s = c.write_blocks.new.tables in
    on_err_any c.from_residual.result
    (ap (λ (q : Typed). inside_at q (disk_of s).image) c.in_err-write_blocks.ensures.err
    ∙ c.write_blocks.ensures.frame (tables_now t) (held_now t).1.free_now)

pub returns-clause-cells : goal.returns-clause-cells
returns-clause-cells g c stored is are =
    let t = c.args.tables.now in
    let b = c.write_blocks.new.tables in
    let s = c.set_file.new.self in
    let was = c.unwrap-grown.result in
    let bytes = c.args.bytes.now in
    let grown : FileRecord = record was { length = c.max.result } in
    let found = sym c.get_file.ensures ∙ c.unwrap-grown.ensures in
    let there = subst (λ (o : Option FileRecord). IsSome o) (sym
    (ap (λ (q : Typed). find nat_cmp c.args.file q.files) c.in_ok-write_blocks.ensures.ok.rest)) c.requires.there in
    let set = on_ok_there c.set_file.result (c.set_file.ensures.set.in_place there) c.set_file.ensures.ok in
    let long : grown ≡ reaching (c.args.at + length bytes) was = λ i. record was { length = c.max.ensures i } in
    let stood = edge_byte c.args.edges.now c.args.at in
    let written = c.in_ok-write_blocks.ensures.inside stored is (λ k low. absurd (omega (arith, low))) in
    let beside = edge_cell t.clusters (tables_now t) c.requires.sound.rules c.args.file (c.args.at + length bytes) was found
    (disk_of t).image c.args.at (length bytes) c.args.edges.now
    (edges_of (inside_now t) c.args.file c.args.at (length bytes) c.args.edges.now was found are) in
    cells_written t b s c.args.file c.args.at grown set c.set_file.ensures.set.image t.clusters was bytes
    c.requires.sound.rules found long c.requires.some
    (λ p low. ap (λ (i : Inside). cell i c.args.file grown p) written
    ∙ cells_laid c.args.file grown.length c.args.at bytes stood grown (inside_now t)
    (λ q by. beside q by ∙ ap (λ (f : FileRecord). cell (inside_now t) c.args.file f q) (sym long)) p low)

pub returns-clause-others : goal.returns-clause-others
returns-clause-others g c =
    let t = c.args.tables.now in
    let b = c.write_blocks.new.tables in
    let s = c.set_file.new.self in
    let was = c.unwrap-grown.result in
    let grown : FileRecord = record was { length = c.max.result } in
    let there = subst (λ (o : Option FileRecord). IsSome o) (sym
    (ap (λ (q : Typed). find nat_cmp c.args.file q.files) c.in_ok-write_blocks.ensures.ok.rest)) c.requires.there in
    let set = on_ok_there c.set_file.result (c.set_file.ensures.set.in_place there) c.set_file.ensures.ok in
    others_written t b s c.args.file c.args.at grown set c.set_file.ensures.set.image
    (ap (λ (q : Typed). q.files) c.in_ok-write_blocks.ensures.ok.rest)
    c.in_ok-write_blocks.ensures.others

pub returns-clause-leaves : goal.returns-clause-leaves
returns-clause-leaves g c =
    leaves_then g.met.D.Disk.same_next c.args.tables.now c.write_blocks.new.tables c.set_file.new.self
    c.write_blocks.ensures.leaves c.set_file.ensures.leaves

pub returns-in_err-write_blocks-clause-spends : goal.returns-in_err-write_blocks-clause-spends
returns-in_err-write_blocks-clause-spends g c =
    spends_none (touched c.args.at (length c.args.bytes.now)) 0 c.args.tables.now c.write_blocks.new.tables
    c.in_err-write_blocks.ensures.err

pub returns-clause-spends : goal.returns-clause-spends
returns-clause-spends g c =
    let t = c.args.tables.now in
    let b = c.write_blocks.new.tables in
    let s = c.set_file.new.self in
    let was = c.unwrap-grown.result in
    let to : ℕ = c.args.at + length c.args.bytes.now in
    let grown : FileRecord = record was { length = c.max.result } in
    let there = subst (λ (o : Option FileRecord). IsSome o) (sym
    (ap (λ (q : Typed). find nat_cmp c.args.file q.files) c.in_ok-write_blocks.ensures.ok.rest)) c.requires.there in
    let set = on_ok_there c.set_file.result (c.set_file.ensures.set.in_place there) c.set_file.ensures.ok in
    let some = c.requires.some in
    spends_then (blocks_up_to to (c.args.at / 4096)) 0 (touched c.args.at (length c.args.bytes.now)) t b s
    c.write_blocks.ensures.spends (spends_record b s c.args.file grown set) (omega (arith, some))

pub returns-clause-inside : goal.returns-clause-inside
returns-clause-inside g c stored is are =
    let t = c.args.tables.now in
    let b = c.write_blocks.new.tables in
    let s = c.set_file.new.self in
    let was = c.unwrap-grown.result in
    let grown : FileRecord = record was { length = c.max.result } in
    let found = sym c.get_file.ensures ∙ c.unwrap-grown.ensures in
    let there = subst (λ (o : Option FileRecord). IsSome o) (sym
    (ap (λ (q : Typed). find nat_cmp c.args.file q.files) c.in_ok-write_blocks.ensures.ok.rest)) c.requires.there in
    let set = on_ok_there c.set_file.result (c.set_file.ensures.set.in_place there) c.set_file.ensures.ok in
    file_then t b s c.args.file c.args.at grown was c.args.bytes.now c.args.edges.now set c.set_file.ensures.set.image
    found (λ i. record was { length = c.max.ensures i }) c.requires.some
    (edges_of (inside_now t) c.args.file c.args.at (length c.args.bytes.now) c.args.edges.now was found are)
    (c.in_ok-write_blocks.ensures.inside stored is (λ k low. absurd (omega (arith, low))))

pub returns-clause-staged : goal.returns-clause-staged
returns-clause-staged g c =
    let there = subst (λ (o : Option FileRecord). IsSome o) (sym
    (ap (λ (q : Typed). find nat_cmp c.args.file q.files) c.in_ok-write_blocks.ensures.ok.rest)) c.requires.there in
    let set = on_ok_there c.set_file.result (c.set_file.ensures.set.in_place there) c.set_file.ensures.set.staged in
    let some = c.requires.some in
    let same : blocks_up_to (c.args.at + length c.args.bytes.now) (c.args.at / 4096) ≡ touched c.args.at
    (length c.args.bytes.now) = omega (arith, some) in
    omega (arith, set, same, c.in_ok-write_blocks.ensures.staged)

pub returns-clause-taken : goal.returns-clause-taken
returns-clause-taken g c =
    let some = c.requires.some in
    let same : blocks_up_to (c.args.at + length c.args.bytes.now) (c.args.at / 4096) ≡ touched c.args.at
    (length c.args.bytes.now) = omega (arith, some) in
    let free : free_in (states_of c.set_file.new.self) ≡ free_in (states_of c.write_blocks.new.tables) =
    ap (λ (xs : List State). free_in xs) c.set_file.ensures.states in
    omega (arith, same, free, c.in_ok-write_blocks.ensures.taken)

pub returns-in_err-write_blocks-clause-sound : goal.returns-in_err-write_blocks-clause-sound
returns-in_err-write_blocks-clause-sound g c =
    let leaves = c.write_blocks.ensures.leaves in
    sound_refused c.args.tables.now c.write_blocks.new.tables c.requires.sound c.requires.running leaves.clusters
    c.in_err-write_blocks.ensures.err c.write_blocks.ensures.loses_none
    (maps_same c.args.tables.now c.write_blocks.new.tables leaves.tells
    (ap (λ (q : Typed). inside_at q (disk_of c.write_blocks.new.tables).image) c.in_err-write_blocks.ensures.err
    ∙ c.write_blocks.ensures.frame (tables_now c.args.tables.now) (held_now c.args.tables.now).1.free_now)
    c.requires.sound.maps)

pub returns-clause-sound : goal.returns-clause-sound
returns-clause-sound g c =
    let t = c.args.tables.now in
    let b = c.write_blocks.new.tables in
    let s = c.set_file.new.self in
    let was = c.unwrap-grown.result in
    let grown : FileRecord = record was { length = c.max.result } in
    let there = subst (λ (o : Option FileRecord). IsSome o) (sym
    (ap (λ (q : Typed). find nat_cmp c.args.file q.files) c.in_ok-write_blocks.ensures.ok.rest)) c.requires.there in
    let set = on_ok_there c.set_file.result (c.set_file.ensures.set.in_place there) c.set_file.ensures.ok in
    let first = c.write_blocks.ensures.leaves in
    let second = c.set_file.ensures.leaves in
    sound_written t b s c.args.file c.args.at grown set c.set_file.ensures.set.image c.requires.sound c.requires.running
    (second.clusters ∙ first.clusters) second.clusters c.in_ok-write_blocks.ensures.rules c.set_file.ensures.states
    (λ runs. sym c.set_file.ensures.set.running ∙ runs) c.write_blocks.ensures.loses_none
    (maps_with_file t s c.args.file was grown (tables_now b).extents (sym c.get_file.ensures ∙ c.unwrap-grown.ensures)
    (omega arith) (λ some. refl)
    (set ∙ ap (λ (q : Typed). with_file c.args.file grown q) c.in_ok-write_blocks.ensures.ok.rest)
    (ap (λ (i : List ℕ). inside_at (tables_now t) i) c.set_file.ensures.set.image
    ∙ c.write_blocks.ensures.frame (tables_now t) (held_now t).1.free_now)
    (second.tells ∙ first.tells) c.requires.sound.maps)
