use Rattle.std.proofs.Common.{◌≡◌, ◌+◌, ◌-◌, ◌*◌, ◌/◌, ℕ, Some, Err, replicate, rules, sym, ◌∙◌, subst}
use Rattle.std.specs.Ordering.{nat_cmp}
use Rattle.std.specs.FinMap.{find}
use Rattle.volume_inside.specs.Inside.{Inside}
use Rattle.volume_files.proofs.Overwritten.{zeros_are_zero}
use Rattle.volume_files.proofs.Pending.{err_same}
use Rattle.volume_files.proofs.Written.{on_err_any}
use Rattle.volume_tables.specs.Tables.{tables_now, inside_now}
use Rattle.volume_tables.proofs.Rereads.{reads_then, same_inside}
use Rattle.rw_filter.specs.Beside.{HasPart, IsRead}
use Rattle.rw_filter.specs.Cells.{IsFirstLoss}
use Rattle.volume_inside.specs.Typed.{Typed}
use Rattle.rw_filter.proofs.Around.{two_edges, one_edge, edges_are, lost_before, lost_behind, reads_front, reads_back}
use Rattle.rw_filter.proofs.beside.read_beside.Goals as goal

pub returns-in_err-read_part-clause-damaged : goal.returns-in_err-read_part-clause-damaged
returns-in_err-read_part-clause-damaged g c =
    let t = c.args.tables.now in
    let found = c.unwrap-found.result in
    let there : find nat_cmp c.args.file (tables_now t).files ≡ Some found = sym c.get_file.ensures ∙ c.unwrap-found.ensures in
    let refused : c.from_residual.result ≡ Err c.in_err-read_part.field-0.0 = search rules in
    λ stored is q err.
    let first = c.read_part.ensures.damaged stored is q (c.in_err-read_part.was ∙ err_same (sym refused ∙ err)) in
    lost_before (inside_now t) c.args.file c.args.at c.args.count found c.requires.some there q first.0 first.1

pub returns-in_err-read_part-clause-read : goal.returns-in_err-read_part-clause-read
returns-in_err-read_part-clause-read g c =
    let t = c.args.tables.now in
    let found = c.unwrap-found.result in
    let there : find nat_cmp c.args.file (tables_now t).files ≡ Some found = sym c.get_file.ensures ∙ c.unwrap-found.ensures in
    on_err_any c.from_residual.result
    (reads_front (tables_now t) c.args.file c.args.at c.args.count found there c.in_err-read_part.ensures.some)

pub returns-in_err-read_part-2-clause-damaged : goal.returns-in_err-read_part-2-clause-damaged
returns-in_err-read_part-2-clause-damaged g c =
    let t = c.args.tables.now in
    let u = c.read_part.new.tables in
    let reads = c.read_part.ensures.reads in
    let at = c.args.at in
    let n = c.args.count in
    let last : ℕ = (at + n - 1) / 4096 in
    let found = c.unwrap-found.result in
    let there : find nat_cmp c.args.file (tables_now t).files ≡ Some found = sym c.get_file.ensures ∙ c.unwrap-found.ensures in
    let refused : c.from_residual-in_err-read_part-2.result ≡ Err c.in_err-read_part-2.field-0.0 = search rules in
    λ stored is q err.
    let first = c.read_part-then-first_index-last_index.ensures.damaged stored (reads.leaves.tables stored is) q
    (c.in_err-read_part-2.was ∙ err_same (sym refused ∙ err)) in
    lost_behind (inside_now t) c.args.file at n found c.requires.some there c.read_part.new.block
    (c.in_ok-read_part.ensures.cells stored is) q
    (subst (λ (i : Inside). IsFirstLoss i c.args.file found (4096 * last + (at + n - 4096 * last)) (4096 * last + 4096) q)
    (same_inside t u reads) first.0) first.1

pub returns-in_err-read_part-2-clause-read : goal.returns-in_err-read_part-2-clause-read
returns-in_err-read_part-2-clause-read g c =
    let t = c.args.tables.now in
    let found = c.unwrap-found.result in
    let there : find nat_cmp c.args.file (tables_now t).files ≡ Some found = sym c.get_file.ensures ∙ c.unwrap-found.ensures in
    let at = c.args.at in
    let n = c.args.count in
    let last : ℕ = (at + n - 1) / 4096 in
    let some = c.in_err-read_part-2.ensures.some in
    on_err_any c.from_residual-in_err-read_part-2.result
    (reads_back (tables_now t) c.args.file at n found there (
      some.0,
      some.1,
      subst (λ (q : Typed). IsRead q c.args.file last found.covers (4096 * last + (at + n - 4096 * last)))
          c.read_part.ensures.reads.now some.2,
    ))

pub returns-in_err-read_part-2-clause-reads : goal.returns-in_err-read_part-2-clause-reads
returns-in_err-read_part-2-clause-reads g c =
    reads_then g.met.D.Disk.same_next c.args.tables.now c.read_part.new.tables
    c.read_part-then-first_index-last_index.new.tables c.read_part.ensures.reads
    c.read_part-then-first_index-last_index.ensures.reads

pub returns-then-first_index-last_index-clause-reads : goal.returns-then-first_index-last_index-clause-reads
returns-then-first_index-last_index-clause-reads g c =
    reads_then g.met.D.Disk.same_next c.args.tables.now c.read_part.new.tables
    c.read_part-then-first_index-last_index.new.tables c.read_part.ensures.reads
    c.read_part-then-first_index-last_index.ensures.reads

pub returns-then-first_index-last_index-clause-edges : goal.returns-then-first_index-last_index-clause-edges
returns-then-first_index-last_index-clause-edges g c stored is =
    let t = c.args.tables.now in
    let u = c.read_part.new.tables in
    let reads = c.read_part.ensures.reads in
    let id = c.args.file in
    let at = c.args.at in
    let n = c.args.count in
    let last : ℕ = (at + n - 1) / 4096 in
    let found = c.unwrap-found.result in
    let there : find nat_cmp id (tables_now t).files ≡ Some found = sym c.get_file.ensures ∙ c.unwrap-found.ensures in
    let some = c.requires.some in
    let first = c.read_part.new.block in
    let block = c.read_part-then-first_index-last_index.new.block in
    edges_are (inside_now t) id at n found some there (record { first = block; last = block })
    (one_edge (inside_now t) id at n found some (replicate {A = ℕ} 4096 0) first (zeros_are_zero 4096)
    (c.in_ok-read_part.ensures.cells stored is) c.in_ok-read_part.ensures.rest block c.if-first_index-last_index.true
    (subst (λ (i : Inside). HasPart i id found last (at + n - 4096 * last) 4096 block) (same_inside t u reads)
    (c.in_ok-read_part-2.ensures.cells stored (reads.leaves.tables stored is)))
    c.in_ok-read_part-2.ensures.rest)

pub returns-in_err-read_part-3-clause-damaged : goal.returns-in_err-read_part-3-clause-damaged
returns-in_err-read_part-3-clause-damaged g c =
    let t = c.args.tables.now in
    let u = c.read_part.new.tables in
    let reads = c.read_part.ensures.reads in
    let at = c.args.at in
    let n = c.args.count in
    let last : ℕ = (at + n - 1) / 4096 in
    let found = c.unwrap-found.result in
    let there : find nat_cmp c.args.file (tables_now t).files ≡ Some found = sym c.get_file.ensures ∙ c.unwrap-found.ensures in
    let refused : c.from_residual-in_err-read_part-3.result ≡ Err c.in_err-read_part-3.field-0.0 = search rules in
    λ stored is q err.
    let first = c.read_part-2.ensures.damaged stored (reads.leaves.tables stored is) q
    (c.in_err-read_part-3.was ∙ err_same (sym refused ∙ err)) in
    lost_behind (inside_now t) c.args.file at n found c.requires.some there c.read_part.new.block
    (c.in_ok-read_part.ensures.cells stored is) q
    (subst (λ (i : Inside). IsFirstLoss i c.args.file found (4096 * last + (at + n - 4096 * last)) (4096 * last + 4096) q)
    (same_inside t u reads) first.0) first.1

pub returns-in_err-read_part-3-clause-read : goal.returns-in_err-read_part-3-clause-read
returns-in_err-read_part-3-clause-read g c =
    let t = c.args.tables.now in
    let found = c.unwrap-found.result in
    let there : find nat_cmp c.args.file (tables_now t).files ≡ Some found = sym c.get_file.ensures ∙ c.unwrap-found.ensures in
    let at = c.args.at in
    let n = c.args.count in
    let last : ℕ = (at + n - 1) / 4096 in
    let some = c.in_err-read_part-3.ensures.some in
    on_err_any c.from_residual-in_err-read_part-3.result
    (reads_back (tables_now t) c.args.file at n found there (
      some.0,
      some.1,
      subst (λ (q : Typed). IsRead q c.args.file last found.covers (4096 * last + (at + n - 4096 * last)))
          c.read_part.ensures.reads.now some.2,
    ))

pub returns-in_err-read_part-3-clause-reads : goal.returns-in_err-read_part-3-clause-reads
returns-in_err-read_part-3-clause-reads g c =
    reads_then g.met.D.Disk.same_next c.args.tables.now c.read_part.new.tables c.read_part-2.new.tables
    c.read_part.ensures.reads c.read_part-2.ensures.reads

pub returns-clause-reads : goal.returns-clause-reads
returns-clause-reads g c =
    reads_then g.met.D.Disk.same_next c.args.tables.now c.read_part.new.tables c.read_part-2.new.tables
    c.read_part.ensures.reads c.read_part-2.ensures.reads

pub returns-clause-edges : goal.returns-clause-edges
returns-clause-edges g c stored is =
    let t = c.args.tables.now in
    let u = c.read_part.new.tables in
    let reads = c.read_part.ensures.reads in
    let id = c.args.file in
    let at = c.args.at in
    let n = c.args.count in
    let last : ℕ = (at + n - 1) / 4096 in
    let found = c.unwrap-found.result in
    let there : find nat_cmp id (tables_now t).files ≡ Some found = sym c.get_file.ensures ∙ c.unwrap-found.ensures in
    let some = c.requires.some in
    let first = c.read_part.new.block in
    let block = c.read_part-2.new.block in
    edges_are (inside_now t) id at n found some there (record { first = first; last = block })
    (two_edges (inside_now t) id at n found some (replicate {A = ℕ} 4096 0) first (zeros_are_zero 4096)
    (c.in_ok-read_part.ensures.cells stored is) c.in_ok-read_part.ensures.rest block c.if-first_index-last_index.false
    (subst (λ (i : Inside). HasPart i id found last (at + n - 4096 * last) 4096 block) (same_inside t u reads)
    (c.in_ok-read_part-3.ensures.cells stored (reads.leaves.tables stored is)))
    c.in_ok-read_part-3.ensures.rest)
