use Rattle.std.proofs.Common.{inl}
use Rattle.ddpsh.proofs.TopLaws.{opened_run}
use Rattle.ddpsh.proofs.ClockLaws.{often_none}
use Rattle.ddpsh.proofs.top.run_over.Goals as goal

pub returns-in-Ok-clause-run : goal.returns-in-Ok-clause-run
returns-in-Ok-clause-run g c tells s told =
    inl (opened_run c.args.command c.in-Ok.volume _ _ s _ _ _ _ _ (c.in-Ok.ensures.opens tells)
    (c.in-Ok.ensures.kept tells) c.in-Ok.ensures.read c.in-Ok.ensures.fresh
    (c.serve_script.ensures.run (c.in-Ok.ensures.kept tells) s told))

pub returns-in-Ok-clause-clock : goal.returns-in-Ok-clause-clock
returns-in-Ok-clause-clock g c tells s told = c.serve_script.ensures.clock (c.in-Ok.ensures.kept tells) s told

pub returns-in-Err-clause-clock : goal.returns-in-Err-clause-clock
returns-in-Err-clause-clock g c tells s told = often_none _ _ _ c.refuse.ensures.told.early.no_line
