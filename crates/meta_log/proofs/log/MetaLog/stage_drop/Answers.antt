use Rattle.std.proofs.Common.{◌≤◌, [], ◌∷◌, ◌++◌, sym, ◌∙◌, ap, subst, arith}
use Rattle.byte_map.specs.Words.{Map}
use Rattle.meta_log.specs.Records.{DropRange, change}
use Rattle.meta_log.specs.Short.{are_short, short_without}
use Rattle.meta_log.specs.Log.{checkpoint_length}
use Rattle.meta_log.specs.Spelled.{changes_push}
use Rattle.meta_log.proofs.Staged.{length_dropped, records_staged}
use Rattle.meta_log.proofs.log.MetaLog.stage_drop.Goals as goal

pub invariant_of-self-clause-fits : goal.invariant_of-self-clause-fits
invariant_of-self-clause-fits g c =
    let s = c.args.self.now in
    let P : Map → Type 0 = λ m. checkpoint_length m ≤ s.half in
    subst P (sym c.drop_range.ensures) (omega (arith, length_dropped c.args.from.now c.args.to.now s.map))

pub invariant_of-self-clause-short : goal.invariant_of-self-clause-short
invariant_of-self-clause-short g c =
    let s = c.args.self.now in
    ap are_short c.drop_range.ensures ∙ short_without c.args.from.now c.args.to.now s.map s.short

pub returns-clause-log : goal.returns-clause-log
returns-clause-log g c m log =
    let s = c.args.self.now in
    let room = c.has_room.ensures.0 c.if-not-has_room.false in
    let r = DropRange c.args.from.now c.args.to.now in
    record {
      stands = log.stands;
      records = log.records ++ r ∷ [];
      spelled = records_staged s.staged.items c.push_drop.new.staged.items r log.records s.head (omega (arith, room), omega (arith, room)) c.push_drop.ensures.items log.spelled;
      now = changes_push log.records r m ∙ ap (change r) log.now ∙ sym c.drop_range.ensures;
    }
