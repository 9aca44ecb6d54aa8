use Rattle.table_records.specs.Tables.{extent_codec}
use Rattle.volume_inside.specs.Typed.{typed_of}
use Rattle.volume_inside.specs.Rules.{ExtentHolds}
use Rattle.table_rules.proofs.Eaches.{each_of_pairs, pairs_of_each}
use Rattle.table_rules.proofs.entries.extents_hold.Goals as goal

pub returns : goal.returns
returns c =
    let m = c.args.map.now in
    let P = ExtentHolds c.args.clusters (typed_of m).files in
    (λ e. each_of_pairs extent_codec P m (c.each.ensures.0 e), λ all. c.each.ensures.1 (pairs_of_each extent_codec P m all))
