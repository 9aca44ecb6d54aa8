use Rattle.std.proofs.Common.{take, arith}
use Rattle.volume_tables.proofs.Answers.{on_ok}
use Rattle.volume_tables.proofs.Staged.{drop_fits}
use Rattle.volume_tables.proofs.Sizes.{name_key}
use Rattle.volume_tables.proofs.raw_names.drop_names.Goals as goal

pub returns : goal.returns
returns g c =
    let s = c.stage_drop.ensures in
    let low = take c.write_key-low_length.result c.write_key-low_length.new.out in
    let high = take c.write_key-high_length.result c.write_key-high_length.new.out in
    let low_size = name_key low c.args.from.now c.write_key-low_length.ensures.spelled in
    let high_size = name_key high c.args.to.now c.write_key-high_length.ensures.spelled in
    let ok = drop_fits c.stage_drop.result s.full s.refused (omega (arith, low_size, high_size, c.requires.room)) in
    record {
      dropped = record {
        low = low;
        high = high;
        begins = c.write_key-low_length.ensures.spelled;
        ends = c.write_key-high_length.ensures.spelled;
        is = on_ok c.stage_drop.result ok s.now;
      };
      taken = on_ok c.stage_drop.result ok s.staged;
      quiet = record { log = s.log; disk = s.disk; place = s.place; running = s.stopped };
    }
