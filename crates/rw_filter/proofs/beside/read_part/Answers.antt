use Rattle.std.proofs.Common.{◌≡◌, ◌∙◌, ◌+◌, ◌-◌, ◌*◌, ℕ, List, true, false, length, take, drop, replicate, rules, arith, ap, sym, subst}
use Rattle.std.proofs.Common.{length-take, length-drop}
use Rattle.std.proofs.lemmas.List.{length-replicate}
use Rattle.std.proofs.lemmas.Result.{on_ok_weaker}
use Rattle.std.specs.FinMap.{find}
use Rattle.table_records.specs.Keys.{pair_cmp}
use Rattle.volume_tables.specs.Tables.{tables_now, inside_now, disk_of}
use Rattle.volume_files.proofs.Written.{on_err_any}
use Rattle.rw_filter.specs.Cells.{HasCells}
use Rattle.rw_filter.proofs.HolePart.{hole_read, not_hole}
use Rattle.volume_tables.proofs.Stagings.{on_ok_any}
use Rattle.rw_filter.proofs.Parts.{part_read, part_kept, loss_before}
use Rattle.rw_filter.proofs.beside.read_part.Goals as goal

pub returns-clause-cells : goal.returns-clause-cells
returns-clause-cells g c =
    let block = c.args.block.now in
    let from = c.args.from in
    let n : ℕ = c.min-end.result - from in
    let whole : length block ≡ 4096 = search rules in
    let asked : length (take n (drop from block)) ≡ n =
    omega (arith, length-take n (drop from block), length-drop from block, whole) in
    let long : length c.read_found.new.out ≡ n = omega (arith, asked, c.read_found.auto.out) in
    λ stored is.
    on_ok_weaker c.read_found.result
    (λ read. part_read (inside_now c.args.tables.now) c.args.file c.args.index from c.args.to n c.args.found block
    c.read_found.new.out long (omega (arith, whole)) (λ o low high reach. omega (arith, low, high, reach))
    (λ k low. read k (omega (arith, low, asked))))
    (c.read_found.ensures.cells stored is)

pub returns-clause-rest : goal.returns-clause-rest
returns-clause-rest g c =
    let block = c.args.block.now in
    let from = c.args.from in
    let n : ℕ = c.min-end.result - from in
    let whole : length block ≡ 4096 = search rules in
    let asked : length (take n (drop from block)) ≡ n =
    omega (arith, length-take n (drop from block), length-drop from block, whole) in
    let long : length c.read_found.new.out ≡ n = omega (arith, asked, c.read_found.auto.out) in
    on_ok_any c.read_found.result
    (part_kept (inside_now c.args.tables.now) c.args.file c.args.index from c.args.to n c.args.found block
    c.read_found.new.out long (omega (arith, whole)) (λ o low. (omega (arith, low), omega (arith, low))))

pub returns-clause-damaged : goal.returns-clause-damaged
returns-clause-damaged g c =
    let block = c.args.block.now in
    let from = c.args.from in
    let n : ℕ = c.min-end.result - from in
    let whole : length block ≡ 4096 = search rules in
    let asked : length (take n (drop from block)) ≡ n =
    omega (arith, length-take n (drop from block), length-drop from block, whole) in
    λ stored is q err.
    let first = c.read_found.ensures.damaged stored is q err in
    let high = first.within in (
      loss_before (inside_now c.args.tables.now) c.args.file c.args.found (4096 * c.args.index + from)
          (4096 * c.args.index + from + length (take n (drop from block))) (4096 * c.args.index + c.args.to) q
          (omega (arith, asked)) first,
      omega (arith, high, asked),
    )

pub returns-then-is_hole-clause-cells : goal.returns-then-is_hole-clause-cells
returns-then-is_hole-clause-cells g c =
    let t = c.args.tables.now in
    let block = c.args.block.now in
    let from = c.args.from in
    let n : ℕ = c.min-end.result - from in
    let whole : length block ≡ 4096 = search rules in
    let asked : length (take n (drop from block)) ≡ n =
    omega (arith, length-take n (drop from block), length-drop from block, whole) in
    let zeros : c.fill.new.self ≡ replicate n 0 =
    c.fill.ensures.after (λ y is_one. is_one) ∙ ap (λ (k : ℕ). replicate k 0) asked in
    let long : length c.fill.new.self ≡ n = ap length zeros ∙ length-replicate n 0 in
    let hole = c.is_hole.ensures.0 c.if-is_hole.true in
    λ stored is.
    part_read (inside_now t) c.args.file c.args.index from c.args.to n c.args.found block c.fill.new.self long
    (omega (arith, whole)) (λ o low high reach. omega (arith, low, high, reach))
    (subst (λ (piece : List ℕ). HasCells (inside_now t) c.args.file c.args.found (4096 * c.args.index + from) n piece)
    (sym zeros)
    (hole_read (tables_now t) (disk_of t).image c.args.file c.args.index from n c.args.found hole.0 hole.1
    (omega (arith, whole))))

pub returns-then-is_hole-clause-rest : goal.returns-then-is_hole-clause-rest
returns-then-is_hole-clause-rest g c =
    let t = c.args.tables.now in
    let block = c.args.block.now in
    let from = c.args.from in
    let n : ℕ = c.min-end.result - from in
    let whole : length block ≡ 4096 = search rules in
    let asked : length (take n (drop from block)) ≡ n =
    omega (arith, length-take n (drop from block), length-drop from block, whole) in
    let zeros : c.fill.new.self ≡ replicate n 0 =
    c.fill.ensures.after (λ y is_one. is_one) ∙ ap (λ (k : ℕ). replicate k 0) asked in
    let long : length c.fill.new.self ≡ n = ap length zeros ∙ length-replicate n 0 in
    part_kept (inside_now t) c.args.file c.args.index from c.args.to n c.args.found block c.fill.new.self long
    (omega (arith, whole)) (λ o low. (omega (arith, low), omega (arith, low)))

pub returns-clause-some : goal.returns-clause-some
returns-clause-some g c =
    let t = c.args.tables.now in
    let never = not_hole (find pair_cmp (c.args.file, c.args.index) (tables_now t).extents) c.args.found.covers
    (4096 * c.args.index + c.args.from)
    (λ hole. (let is = c.is_hole.ensures.1 hole in let clash : true ≡ false = sym is ∙ c.if-is_hole.false in cc)) in
    on_err_any c.read_found.result (omega arith, omega arith, never)
