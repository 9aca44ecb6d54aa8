use Rattle.std.proofs.Common.{◌≡◌, sym, ◌∙◌}
use Rattle.std.specs.Prelude.{true, false}
use Rattle.table_records.specs.Changes.{is_under}
use Rattle.table_records.specs.Codecs.{typed}
use Rattle.table_records.specs.Keys.{pair_cmp}
use Rattle.table_records.specs.Next.{sorted_typed}
use Rattle.table_records.specs.Tables.{cluster_codec}
use Rattle.volume_tables.specs.Log.{log_now}
use Rattle.volume_tables.proofs.Dropping.{next_left, next_past, next_none}
use Rattle.volume_tables.proofs.raw_pages.next_in_range.Goals as goal

pub returns-in-None : goal.returns-in-None
returns-in-None g c =
    let es = typed cluster_codec (log_now c.args.log.now) in
    next_none c.args.after c.args.to es (sorted_typed cluster_codec (log_now c.args.log.now) c.requires.sorted)
    (sym (c.next.ensures c.requires) ∙ c.in-None.is)

pub returns-then-is_below : goal.returns-then-is_below
returns-then-is_below g c =
    let es = typed cluster_codec (log_now c.args.log.now) in
    let under : is_under pair_cmp c.args.to c.in-Some.key ≡ true = sym c.is_below.ensures ∙ c.if-is_below.true in
    next_left c.args.after c.args.to es (sorted_typed cluster_codec (log_now c.args.log.now) c.requires.sorted)
    (c.in-Some.key, c.in-Some.cluster) (sym (c.next.ensures c.requires) ∙ c.in-Some.is) under

pub returns-else-is_below : goal.returns-else-is_below
returns-else-is_below g c =
    let es = typed cluster_codec (log_now c.args.log.now) in
    let under : is_under pair_cmp c.args.to c.in-Some.key ≡ false = sym c.is_below.ensures ∙ c.if-is_below.false in
    next_past c.args.after c.args.to es (sorted_typed cluster_codec (log_now c.args.log.now) c.requires.sorted)
    (c.in-Some.key, c.in-Some.cluster) (sym (c.next.ensures c.requires) ∙ c.in-Some.is) under
