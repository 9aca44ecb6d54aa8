use Rattle.std.proofs.Common.{arith, ◌≤◌, length, length-drop, drop, ap}
use Rattle.std.proofs.lemmas.List.{take_rest}
use Rattle.answer_text.proofs.PutLaws.{put_more, put_part}
use Rattle.answer_text.proofs.put.put_all.Goals as goal

pub returns-in-Err-clause-err : goal.returns-in-Err-clause-err
returns-in-Err-clause-err g c =
    put_part _ _ _ c.args.text.now c.loop-done.done c.in-Err.failed _ (take_rest c.args.text.now c.loop-done.done) c.loop-done.invariant.put c.in-Err.ensures.bytes

pub loop-done-preserved : goal.loop-done-preserved
loop-done-preserved g c =
    let bound : c.in-Ok.n ≤ length (drop c.loop-done.done c.args.text.now) = omega (arith, c.in-Ok.ensures.bound, ap length (take_rest c.args.text.now c.loop-done.done)) in
    record {
      within = omega (arith, length-drop c.loop-done.done c.args.text.now);
      later = omega (arith, c.in-Ok.ensures.cause.later);
      put = put_more _ _ _ c.args.text.now c.loop-done.done c.in-Ok.n _ (take_rest c.args.text.now c.loop-done.done) c.loop-done.invariant.put c.in-Ok.ensures.bytes;
    }
