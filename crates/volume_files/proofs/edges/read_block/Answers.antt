use Rattle.std.proofs.Common.{◌+◌, ℕ, List, drop, get_or, ap, sym, ◌∙◌}
use Rattle.std.specs.Prelude.{Option}
use Rattle.std.proofs.lemmas.List.{get_or-drop}
use Rattle.std.proofs.lemmas.Result.{on_ok_weaker}
use Rattle.table_records.specs.declared.records.Extent.{Extent}
use Rattle.volume_inside.specs.Inside.{block_of}
use Rattle.volume_tables.specs.Tables.{disk_of}
use Rattle.volume_files.specs.Writing.{named_bytes}
use Rattle.volume_files.proofs.Overwritten.{padded}
use Rattle.volume_files.proofs.edges.read_block.Goals as goal

pub returns-in-Some-clause-bytes : goal.returns-in-Some-clause-bytes
returns-in-Some-clause-bytes g c stored is =
    let e = c.in-Some.extent in
    let image = (disk_of c.args.tables.now).image in
    let old = c.args.block.now in
    on_ok_weaker c.read_extent.result
    (λ read o low. ap (λ (xs : List ℕ). get_or xs o 0) read
    ∙ padded (block_of e image) (drop e.valid old) (λ j. get_or-drop e.valid old j 0 ∙ c.requires.zeros (e.valid + j)) o
    ∙ ap (λ (w : Option Extent). get_or (named_bytes w image) o 0) (sym c.in-Some.is))
    (c.read_extent.ensures.bytes stored is)
