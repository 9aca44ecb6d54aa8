use Rattle.std.proofs.Common.{◌≡◌, ℕ, length, take, drop, replicate, arith, ◌∙◌, ap}
use Rattle.std.proofs.lemmas.List.{length-take-le}
use Rattle.volume_tables.specs.Tables.{tables_now, disk_of}
use Rattle.volume_files.proofs.ReadBytes.{zeros_read}
use Rattle.volume_files.proofs.stretches.zero_rest.Goals as goal

pub returns-clause-bytes : goal.returns-clause-bytes
returns-clause-bytes g c =
    let t = c.args.tables.now in
    let count = c.min-count.result in
    let room : length (take count c.args.out.now) ≡ count = length-take-le count c.args.out.now (omega arith) in
    zeros_read (tables_now t) (disk_of t).image c.fill.new.self (drop count c.args.out.now) c.args.file c.args.place
    count c.args.extent
    (c.fill.ensures.after (λ y is_one. is_one) ∙ ap (λ (n : ℕ). replicate n 0) room) (omega arith) c.requires.extent
    c.requires.behind
