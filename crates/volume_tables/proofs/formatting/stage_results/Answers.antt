use Rattle.volume_tables.proofs.Ending.{quiet_then}
use Rattle.volume_tables.proofs.formatting.stage_results.Goals as goal

pub returns-in_err-stage_pair-2-clause-quiet : goal.returns-in_err-stage_pair-2-clause-quiet
returns-in_err-stage_pair-2-clause-quiet g c =
    quiet_then c.args.log.now c.stage_pair.new.log c.stage_pair-2.new.log c.stage_pair.ensures.quiet
    c.stage_pair-2.ensures.quiet

pub returns-in_err-stage_pair-3-clause-quiet : goal.returns-in_err-stage_pair-3-clause-quiet
returns-in_err-stage_pair-3-clause-quiet g c =
    let first = c.stage_pair.new.log in
    let last = c.stage_pair-3.new.log in
    quiet_then c.args.log.now first last c.stage_pair.ensures.quiet
    (quiet_then first c.stage_pair-2.new.log last c.stage_pair-2.ensures.quiet c.stage_pair-3.ensures.quiet)

pub returns-clause-quiet : goal.returns-clause-quiet
returns-clause-quiet g c =
    let first = c.stage_pair.new.log in
    let second = c.stage_pair-2.new.log in
    let third = c.stage_pair-3.new.log in
    let last = c.stage_pair-4.new.log in
    quiet_then c.args.log.now first last c.stage_pair.ensures.quiet
    (quiet_then first second last c.stage_pair-2.ensures.quiet
    (quiet_then second third last c.stage_pair-3.ensures.quiet c.stage_pair-4.ensures.quiet))
