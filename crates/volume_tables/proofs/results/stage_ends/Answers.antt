use Rattle.volume_tables.proofs.Ending.{quiet_then}
use Rattle.volume_tables.proofs.results.stage_ends.Goals as goal

pub returns-clause-quiet : goal.returns-clause-quiet
returns-clause-quiet g c =
    let first = c.stage_end.new.log in
    let second = c.stage_end-2.new.log in
    let third = c.stage_end-3.new.log in
    let last = c.stage_end-4.new.log in
    quiet_then c.args.log.now first last c.stage_end.ensures.quiet
    (quiet_then first second last c.stage_end-2.ensures.quiet
    (quiet_then second third last c.stage_end-3.ensures.quiet c.stage_end-4.ensures.quiet))
