use Rattle.std.proofs.Common.{ℕ, subst, sym}
use Rattle.std.specs.Prelude.{◌↔◌, IsTrue}
use Rattle.table_records.specs.Tables.{row_codec}
use Rattle.volume_inside.specs.ChunkRules.{RowHolds, RowsHold}
use Rattle.volume_inside.specs.Typed.{typed_of}
use Rattle.table_rules.proofs.Eaches.{each_of_pairs, pairs_of_each}
use Rattle.table_rules.proofs.chunks.rows_hold.Goals as goal

pub returns : goal.returns
returns c =
    let m = c.args.map.now in
    let P = RowHolds c.args.next_id in
    subst (λ (next : ℕ). IsTrue c.each.result ↔ RowsHold next (typed_of m).chunks) (sym c.requires)
    (λ e. each_of_pairs row_codec P m (c.each.ensures.0 e), λ all. c.each.ensures.1 (pairs_of_each row_codec P m all))
