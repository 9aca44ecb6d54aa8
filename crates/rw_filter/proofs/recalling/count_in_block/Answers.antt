use Rattle.std.proofs.Common.{◌≡◌, ◌*◌, Some, ◌∙◌, ap, sym, arith}
use Rattle.std.specs.Ordering.{nat_cmp}
use Rattle.std.specs.FinMap.{find}
use Rattle.volume_tables.specs.Tables.{tables_now, clusters_in}
use Rattle.volume_files.specs.Lengths.{length_in, length_of}
use Rattle.rw_filter.proofs.Recalled.{covered_short}
use Rattle.rw_filter.proofs.recalling.count_in_block.Goals as goal

pub overflow_sub-found : goal.overflow_sub-found
overflow_sub-found g c =
    let t = c.args.tables.now in
    let there : find nat_cmp c.args.file (tables_now t).files ≡ Some c.unwrap-found.result =
    sym c.get_file.ensures ∙ c.unwrap-found.ensures in
    let cover = covered_short (clusters_in t) (tables_now t) c.args.file c.unwrap-found.result c.requires.rules there in
    let place : c.from.result * c.from-2.result ≡ 4096 * c.args.index = (λ i. c.from.ensures i * c.from-2.ensures i) in
    omega (arith, cover.0, c.requires.covered, place)

pub returns-clause-some : goal.returns-clause-some
returns-clause-some g c =
    let t = c.args.tables.now in
    let there : find nat_cmp c.args.file (tables_now t).files ≡ Some c.unwrap-found.result =
    sym c.get_file.ensures ∙ c.unwrap-found.ensures in
    let cover = covered_short (clusters_in t) (tables_now t) c.args.file c.unwrap-found.result c.requires.rules there in
    let place : c.from.result * c.from-2.result ≡ 4096 * c.args.index = (λ i. c.from.ensures i * c.from-2.ensures i) in
    omega (arith, cover.0, c.requires.covered, place, c.min.ensures, c.from-3.ensures)

pub returns-clause-within : goal.returns-clause-within
returns-clause-within g c =
    let t = c.args.tables.now in
    let there : find nat_cmp c.args.file (tables_now t).files ≡ Some c.unwrap-found.result =
    sym c.get_file.ensures ∙ c.unwrap-found.ensures in
    let cover = covered_short (clusters_in t) (tables_now t) c.args.file c.unwrap-found.result c.requires.rules there in
    let place : c.from.result * c.from-2.result ≡ 4096 * c.args.index = (λ i. c.from.ensures i * c.from-2.ensures i) in
    let long : length_of (tables_now t) c.args.file ≡ c.unwrap-found.result.length = ap length_in there in
    omega (arith, cover.0, c.requires.covered, place, c.min.ensures, c.from-3.ensures, long)

pub returns-clause-low : goal.returns-clause-low
returns-clause-low g c =
    let t = c.args.tables.now in
    let there : find nat_cmp c.args.file (tables_now t).files ≡ Some c.unwrap-found.result =
    sym c.get_file.ensures ∙ c.unwrap-found.ensures in
    let cover = covered_short (clusters_in t) (tables_now t) c.args.file c.unwrap-found.result c.requires.rules there in
    let place : c.from.result * c.from-2.result ≡ 4096 * c.args.index = (λ i. c.from.ensures i * c.from-2.ensures i) in
    omega (arith, cover.0, cover.1, c.requires.covered, place, c.min.ensures, c.from-3.ensures)
