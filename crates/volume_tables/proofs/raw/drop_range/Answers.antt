use Rattle.std.proofs.Common.{take}
use Rattle.volume_tables.proofs.Answers.{on_ok}
use Rattle.volume_tables.proofs.Staged.{drop_fits}
use Rattle.volume_tables.proofs.raw.drop_range.Goals as goal

pub returns : goal.returns
returns g c =
    let s = c.stage_drop.ensures in
    let low = take c.write_key-low_length.result c.write_key-low_length.new.out in
    let high = take c.write_end-high_length.result c.write_end-high_length.new.out in
    let ok = drop_fits c.stage_drop.result s.full s.refused
    (c.requires low high c.write_key-low_length.ensures.spelled c.write_end-high_length.ensures.ends) in
    record {
      dropped = record {
        low = low;
        high = high;
        begins = c.write_key-low_length.ensures.spelled;
        ends = c.write_end-high_length.ensures.ends;
        is = on_ok c.stage_drop.result ok s.now;
      };
      taken = on_ok c.stage_drop.result ok s.staged;
      quiet = record { log = s.log; disk = s.disk; place = s.place; running = s.stopped };
    }
