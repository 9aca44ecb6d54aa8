use Rattle.std.proofs.Common.{length, ap, arith}
use Rattle.byte_map.specs.Words.{Map}
use Rattle.table_records.specs.Tables.{name_codec}
use Rattle.volume_tables.specs.Log.{log_now}
use Rattle.volume_tables.proofs.Counting.{no_more_entries}
use Rattle.volume_tables.proofs.tables.Tables.other_pairs.Goals as goal

pub overflow_sub-result : goal.overflow_sub-result
overflow_sub-result g c =
    let t = c.args.self.now in
    omega (
      arith,
      t.named,
      no_more_entries name_codec (log_now t.log),
      c.count.ensures.count,
      ap
          (λ (m : Map). length m) c.pairs.ensures,
    )

pub returns : goal.returns
returns g c =
    let t = c.args.self.now in
    omega (
      arith,
      t.named,
      no_more_entries name_codec (log_now t.log),
      c.count.ensures.count,
      ap
          (λ (m : Map). length m) c.pairs.ensures,
    )
