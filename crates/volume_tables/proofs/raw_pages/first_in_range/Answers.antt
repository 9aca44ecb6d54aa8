use Rattle.std.proofs.Common.{◌≡◌, sym, ◌∙◌}
use Rattle.std.specs.Prelude.{true, false}
use Rattle.table_records.specs.Changes.{is_under}
use Rattle.table_records.specs.Codecs.{typed}
use Rattle.table_records.specs.Keys.{pair_cmp}
use Rattle.table_records.specs.Next.{sorted_typed}
use Rattle.table_records.specs.Tables.{cluster_codec}
use Rattle.volume_tables.specs.Log.{log_now}
use Rattle.volume_tables.proofs.Dropping.{first_absent, first_left, first_past}
use Rattle.volume_tables.proofs.raw_pages.first_in_range.Goals as goal

pub returns-in-None : goal.returns-in-None
returns-in-None g c =
    c.next_in_range.ensures ∙ first_absent c.args.from c.args.to (typed cluster_codec (log_now c.args.log.now))
    (sym c.get.ensures ∙ c.in-None.is)

pub returns-then-is_below : goal.returns-then-is_below
returns-then-is_below g c =
    let es = typed cluster_codec (log_now c.args.log.now) in
    let under : is_under pair_cmp c.args.to c.args.from ≡ true = sym c.is_below.ensures ∙ c.if-is_below.true in
    first_left c.args.from c.args.to es c.in-Some.cluster
    (sorted_typed cluster_codec (log_now c.args.log.now) c.requires.sorted) (sym c.get.ensures ∙ c.in-Some.is) under

pub returns-else-is_below : goal.returns-else-is_below
returns-else-is_below g c =
    let under : is_under pair_cmp c.args.to c.args.from ≡ false = sym c.is_below.ensures ∙ c.if-is_below.false in
    first_past c.args.from c.args.to (typed cluster_codec (log_now c.args.log.now)) under
