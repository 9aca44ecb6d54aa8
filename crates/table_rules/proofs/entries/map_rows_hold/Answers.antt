use Rattle.table_records.specs.Tables.{file_codec}
use Rattle.volume_inside.specs.ChunkRules.{MapRowHolds}
use Rattle.volume_inside.specs.Typed.{typed_of}
use Rattle.table_rules.proofs.Eaches.{each_of_pairs, pairs_of_each}
use Rattle.table_rules.proofs.entries.map_rows_hold.Goals as goal

pub returns : goal.returns
returns c =
    let m = c.args.map.now in
    let P = MapRowHolds (typed_of m).chunks.rows in
    (λ e. each_of_pairs file_codec P m (c.each.ensures.0 e), λ all. c.each.ensures.1 (pairs_of_each file_codec P m all))
