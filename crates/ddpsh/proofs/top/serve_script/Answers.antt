use Rattle.std.proofs.Common.{refl}
use Rattle.ddpsh.proofs.TopLaws.{printed_since, served_run, kept_as, source_by}
use Rattle.ddpsh.proofs.ClockLaws.{often_status}
use Rattle.ddpsh.proofs.top.serve_script.Goals as goal

pub returns-clause-run : goal.returns-clause-run
returns-clause-run g c kept s told =
    served_run c.args.volume c.new-session.result c.serve-acks.new.session c.into_disk.result s _ (g.K.Sink.held c.serve-acks.new.out) _ _ (g.K.Sink.faults c.serve-acks.new.out) _
    c.serve-acks.result.0 c.serve-acks.result.1.items _ c.new-session.ensures.volume c.into_disk.ensures
    (c.serve-acks.ensures.run (kept_as c.args.volume c.new-session.result.volume c.new-session.ensures.volume kept) s told) c.serve-acks.ensures.sink_later
    (rw c.last_text.ensures at c.print_last.ensures.printed) c.status.ensures refl (rw c.moment-opened.ensures refl) c.from_list.ensures

pub returns-clause-ended : goal.returns-clause-ended
returns-clause-ended g c = record {
  end = c.serve-acks.result.0.end;
  refused = c.serve-acks.result.0.refused;
  mid = g.K.Sink.held c.serve-acks.new.out;
  printed = printed_since _ _ (g.K.Sink.faults c.serve-acks.new.out) _ _ _ c.serve-acks.ensures.sink_later (rw c.last_text.ensures at c.print_last.ensures.printed);
  status = c.status.ensures;
}

pub returns-clause-source : goal.returns-clause-source
returns-clause-source g c seven =
    source_by c.serve-acks.result.0.end c.serve-acks.result.0.refused c.status.result _ _ c.status.ensures seven c.serve-acks.ensures.source
    (λ e. (c.serve-acks.ensures.many e, λ s told. c.serve-acks.ensures.too_long s told e))

pub returns-clause-clock : goal.returns-clause-clock
returns-clause-clock g c kept s told =
    often_status c.serve-acks.result.0.end c.serve-acks.result.0.refused c.serve-acks.result.0.lines _ _ _ _ c.status.ensures refl
    (c.serve-acks.ensures.clock (kept_as c.args.volume c.new-session.result.volume c.new-session.ensures.volume kept) s told)
