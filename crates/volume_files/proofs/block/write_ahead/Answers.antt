use Rattle.std.proofs.Common.{◌*◌, ℕ, arith}
use Rattle.std.proofs.lemmas.Result.{IfOk-weaker}
use Rattle.volume_tables.specs.Tables.{disk_of}
use Rattle.volume_files.specs.Edges.{edge_byte}
use Rattle.volume_files.proofs.Ahead.{first_laid, rest_ahead, if_three}
use Rattle.volume_files.proofs.block.write_ahead.Goals as goal

pub returns-then-ahead-gt0-clause-block : goal.returns-then-ahead-gt0-clause-block
returns-then-ahead-gt0-clause-block g c stored is holds =
    let start : ℕ = 4096 * c.args.index in
    let some = c.if-ahead-gt0.true in
    first_laid start c.args.at c.args.bytes.now c.args.ahead (disk_of c.args.tables.now).image
    (edge_byte c.args.edges.now c.args.at) (omega (arith, some)) c.requires.filled holds

pub returns-then-ahead-gt0-clause-ahead : goal.returns-then-ahead-gt0-clause-ahead
returns-then-ahead-gt0-clause-ahead g c stored is holds =
    rest_ahead (4096 * c.args.index) c.args.at c.args.bytes.now c.args.ahead (disk_of c.args.tables.now).image holds

pub returns-then-fills-clause-block : goal.returns-then-fills-clause-block
returns-then-fills-clause-block g c stored is holds =
    let start : ℕ = 4096 * c.args.index in
    let w = c.write_filled.ensures in
    if_three c.write_filled.result _ _ _ _
    (λ run some filled ahead. first_laid start c.args.at c.args.bytes.now run
    (disk_of c.write_filled.new.tables).image (edge_byte c.args.edges.now c.args.at) some filled ahead)
    w.some w.filled (w.ahead stored is)

pub returns-then-fills-clause-ahead : goal.returns-then-fills-clause-ahead
returns-then-fills-clause-ahead g c stored is holds =
    IfOk-weaker c.write_filled.result _ _
    (λ run ahead. rest_ahead (4096 * c.args.index) c.args.at c.args.bytes.now run
    (disk_of c.write_filled.new.tables).image ahead)
    (c.write_filled.ensures.ahead stored is)

pub returns-clause-block : goal.returns-clause-block
returns-clause-block g c stored is holds = c.write_alone.ensures.block stored is
