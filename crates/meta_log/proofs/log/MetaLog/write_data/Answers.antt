use Rattle.std.proofs.Common.{length}
use Rattle.meta_log.specs.Log.{layout_of, state_of}
use Rattle.meta_log.proofs.Lives.{stands_apart}
use Rattle.meta_log.proofs.log.MetaLog.write_data.Goals as goal

pub returns-in_err-write-clause-log : goal.returns-in_err-write-clause-log
returns-in_err-write-clause-log g c m log =
    let s = c.args.self.now in
    record {
      stands = stands_apart (layout_of s) (state_of s) m log.stands (g.D.Disk.state c.write.new.self) c.args.at (length c.args.bytes.now) c.requires.apart
          c.write.ensures.time.tells c.write.ensures.crash c.write.ensures.image;
      records = log.records;
      spelled = log.spelled;
      now = log.now;
    }

pub returns-clause-log : goal.returns-clause-log
returns-clause-log g c m log =
    let s = c.args.self.now in
    record {
      stands = stands_apart (layout_of s) (state_of s) m log.stands (g.D.Disk.state c.write.new.self) c.args.at (length c.args.bytes.now) c.requires.apart
          c.write.ensures.time.tells c.write.ensures.crash c.write.ensures.image;
      records = log.records;
      spelled = log.spelled;
      now = log.now;
    }
