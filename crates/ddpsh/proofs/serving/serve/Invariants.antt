use Rattle.std.proofs.Common.{◌≡◌, ◌≤◌, ◌-◌, ◌^◌, ℕ, false, List, length, Some, vec_capacity}
use Rattle.script_items.specs.Input.{taken, IsLeft, HasGiven}
use Rattle.script_items.specs.Script.{volume_text}
use Rattle.volume_core.specs.Volumes.{disk_of, view_now, IsKept}
use Rattle.ddpsh.specs.Served.{StaysSame}
use Rattle.ddpsh.specs.Sessions.{is_over}
use Rattle.ddpsh.specs.Clocks.{AreRead}
use Rattle.ddpsh.specs.Steps.{Stage}
use Rattle.ddpsh.proofs.serving.serve.Given as goal

abbrev pub invariant-items : goal.invariant-items
invariant-items g l = record {
  so : IsKept l.fn.session.volume (view_now l.fn.session.volume) → (s : List ℕ) → g.S.Source.left l.fn.script ≡ Some s →
      Stage l.fn.session l.session s l.input (g.S.Source.left l.script) (g.K.Sink.held l.fn.out) (g.K.Sink.held l.out) l.refused l.lines l.acks.items;
  clock : IsKept l.fn.session.volume (view_now l.fn.session.volume) → (s : List ℕ) → g.S.Source.left l.fn.script ≡ Some s →
      AreRead l.lines (g.C.Clock.answers l.fn.clock) (g.C.Clock.answers l.clock);
  read : (s : List ℕ) → g.S.Source.left l.fn.script ≡ Some s → (rest : List ℕ) × IsLeft l.input (g.S.Source.left l.script) (length s) rest;
  given : HasGiven (g.S.Source.given l.fn.script) l.input.came (g.S.Source.given l.script);
  running : is_over l.session ≡ false;
  text : l.session.text ≡ volume_text;
  same : StaysSame l.fn.session.volume l.session.volume;
  few : l.lines ≤ taken l.input;
  room : 4098 ≤ vec_capacity l.line;
  disk_later : (disk_of l.fn.session.volume).faults ≤ (disk_of l.session.volume).faults;
  clock_later : g.C.Clock.faults l.fn.clock ≤ g.C.Clock.faults l.clock;
  sink_later : g.K.Sink.faults l.fn.out ≤ g.K.Sink.faults l.out;
  source_later : g.S.Source.faults l.fn.script ≤ g.S.Source.faults l.script;
}

abbrev pub decreases-items : goal.decreases-items
decreases-items g l = 2 ^ 40 - taken l.input
