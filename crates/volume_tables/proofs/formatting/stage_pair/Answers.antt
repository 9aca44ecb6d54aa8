use Rattle.std.proofs.Common.{◌≤◌, ◌+◌, length, arith, subst, sym}
use Rattle.std.proofs.lemmas.Result.{on_ok_weaker}
use Rattle.byte_map.specs.Words.{Map}
use Rattle.meta_log.specs.Log.{now_of, checkpoint_length}
use Rattle.volume_tables.proofs.FirstRecords.{put_checkpoint, put_refused}
use Rattle.volume_tables.proofs.formatting.stage_pair.Goals as goal

pub returns-clause-checkpoint : goal.returns-clause-checkpoint
returns-clause-checkpoint g c =
    let m = now_of c.args.log.now in
    let record_bytes = 5 + (length c.args.key.now + length c.args.value.now) in
    on_ok_weaker c.stage_put.result
    (λ put. subst (λ (now : Map). checkpoint_length now ≤ checkpoint_length m + record_bytes) (sym put)
    (put_checkpoint c.args.key.now c.args.value.now m)) c.stage_put.ensures.now

pub returns-clause-refused : goal.returns-clause-refused
returns-clause-refused g c =
    let s = c.stage_put.ensures in
    let most = put_checkpoint c.args.key.now c.args.value.now (now_of c.args.log.now) in
    put_refused c.stage_put.result s.full s.table c.requires.group (omega (arith, most, c.requires.half)) s.refused
