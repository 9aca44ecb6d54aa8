use Rattle.std.proofs.Common.{length, ap, arith}
use Rattle.byte_map.specs.Words.{Map}
use Rattle.table_records.specs.Codecs.{typed}
use Rattle.table_records.specs.Tables.{name_codec}
use Rattle.volume_tables.specs.Log.{log_now}
use Rattle.volume_tables.proofs.Counting.{no_more_entries, counted}
use Rattle.volume_tables.proofs.raw_names.count_names.Goals as goal

pub overflow_add-count : goal.overflow_add-count
overflow_add-count g c =
    let log = c.args.log.now in
    let next = counted name_codec c.loop-key.walk c.in-Some.key.now c.in-Some.field-0-1.now c.next.new.self
    c.name_at-count.result c.in-Some.ensures.some c.name_at-count.ensures in
    omega (arith, next, c.loop-key.invariant, no_more_entries name_codec (log_now log), log.fits, log.most)

pub loop-key-preserved : goal.loop-key-preserved
loop-key-preserved g c =
    let next = counted name_codec c.loop-key.walk c.in-Some.key.now c.in-Some.field-0-1.now c.next.new.self
    c.name_at-count.result c.in-Some.ensures.some c.name_at-count.ensures in
    omega (arith, next, c.loop-key.invariant)

pub returns : goal.returns
returns g c =
    let none = ap (λ (m : Map). length (typed name_codec m)) c.in_default.ensures.none.0 in
    omega (arith, none, c.loop-key.invariant)
