use Rattle.std.proofs.Common.{◌+◌}
use Rattle.regression_chunker.specs.Sees.{HasTurningRun}
use Rattle.regression_chunker.proofs.fast.block.Given as goal

abbrev pub invariant-loop-i : goal.invariant-loop-i
invariant-loop-i l = record {
  run_a : HasTurningRun l.rest l.at l.i l.a l.seen_a;
  run_b : HasTurningRun l.rest (l.at + 1024) (l.i + 1024) l.b l.seen_b;
  run_c : HasTurningRun l.rest (l.at + 2048) (l.i + 2048) l.c l.seen_c;
  run_d : HasTurningRun l.rest (l.at + 3072) (l.i + 3072) l.d l.seen_d;
  run_e : HasTurningRun l.rest (l.at + 4096) (l.i + 4096) l.e l.seen_e;
  run_f : HasTurningRun l.rest (l.at + 5120) (l.i + 5120) l.f l.seen_f;
}
