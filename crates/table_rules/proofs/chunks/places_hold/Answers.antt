use Rattle.std.proofs.Common.{sym, ◌∙◌}
use Rattle.std.proofs.lemmas.Bool.{false≢true}
use Rattle.table_records.specs.Tables.{row_codec, place_codec}
use Rattle.volume_inside.specs.ChunkRules.{PlaceHolds, FirstCopyHolds}
use Rattle.volume_inside.specs.Typed.{typed_of}
use Rattle.table_rules.proofs.Eaches.{each_of_pairs, pairs_of_each}
use Rattle.table_rules.proofs.chunks.places_hold.Goals as goal

pub returns-then-each : goal.returns-then-each
returns-then-each c =
    let m = c.args.map.now in
    let t = typed_of m in
    let P = PlaceHolds t.chunks.rows t.chunks.containers in
    let Q = FirstCopyHolds t.chunks.places in (
      λ e. record {
        places = each_of_pairs place_codec P m (c.each.ensures.0 c.if-each.true);
        first_copies = each_of_pairs row_codec Q m (c.each-then-each.ensures.0 e);
      },
      λ all. c.each-then-each.ensures.1 (pairs_of_each row_codec Q m all.first_copies),
    )

pub returns-else-each : goal.returns-else-each
returns-else-each c =
    let m = c.args.map.now in
    let t = typed_of m in
    let P = PlaceHolds t.chunks.rows t.chunks.containers in
    (λ e. absurd (false≢true (sym c.if-each.false ∙ e)), λ all. c.each.ensures.1 (pairs_of_each place_codec P m all.places))
