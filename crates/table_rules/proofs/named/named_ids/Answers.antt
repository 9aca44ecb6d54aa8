use Rattle.std.proofs.Common.{◌++◌, ℕ, List, length, ap, ◌∙◌}
use Rattle.table_records.specs.Codecs.{typed}
use Rattle.table_records.specs.Tables.{name_codec}
use Rattle.table_rules.specs.Ids.{ids_of}
use Rattle.table_rules.proofs.Times.{ids_next, ids_end, length-ids_of}
use Rattle.table_rules.proofs.named.named_ids.Goals as goal

pub loop-key-preserved : goal.loop-key-preserved
loop-key-preserved c =
    let rest = c.next.new.self in
    ap (λ (q : List ℕ). q ++ ids_of (typed name_codec rest)) c.in_ok-push_id.ensures
    ∙ ids_next c.loop-key.ids.items (ids_of (typed name_codec c.args.map.now)) c.loop-key.walk c.in-Some.key.now c.in-Some.value.now rest
    c.loop-key.invariant c.in-Some.ensures.some

pub returns-clause-count : goal.returns-clause-count
returns-clause-count c =
    let names = typed name_codec c.args.map.now in
    ap length (ids_end c.loop-key.ids.items (ids_of names) c.loop-key.walk c.loop-key.invariant c.in_default.ensures.none.0) ∙ length-ids_of names
