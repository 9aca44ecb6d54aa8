use Rattle.std.proofs.Common.{◌≤◌, ◌-◌, [], ◌∷◌, ◌++◌, sym, ◌∙◌, ap, subst, inl, inr, arith}
use Rattle.std.proofs.lemmas.Bool.{cases_lt}
use Rattle.std.specs.FinMap.Entries.{put}
use Rattle.byte_map.specs.Words.{Map, bytes_cmp, bytes_with}
use Rattle.meta_log.specs.Records.{Put, change}
use Rattle.meta_log.specs.Short.{are_short, short_put}
use Rattle.meta_log.specs.Log.{checkpoint_length}
use Rattle.meta_log.specs.Spelled.{changes_push}
use Rattle.meta_log.proofs.Staged.{records_staged}
use Rattle.meta_log.proofs.log.MetaLog.stage_put.Goals as goal

pub invariant_of-self-clause-fits : goal.invariant_of-self-clause-fits
invariant_of-self-clause-fits g c =
    let s = c.args.self.now in
    let P : Map → Type 0 = λ m. checkpoint_length m ≤ s.half in
    let with_pair = put bytes_cmp c.args.key.now c.args.value.now s.map in
    subst P (sym c.in-Ok.ensures.ok) (elim (cases_lt (s.half - 45) (bytes_with 5 with_pair)) [
      | inl beyond ↦ absurd (let refused = c.in-Ok.ensures.beyond.1 beyond in cc)
      | inr within ↦ omega (arith, within, s.least)
    ])

pub invariant_of-self-clause-short : goal.invariant_of-self-clause-short
invariant_of-self-clause-short g c =
    let s = c.args.self.now in
    let room = c.has_room.ensures.0 c.if-not-has_room.false in
    ap are_short c.in-Ok.ensures.ok ∙ short_put c.args.key.now c.args.value.now s.map (omega (arith, room)) (omega (arith, room)) s.short

pub returns-in-Ok-clause-log : goal.returns-in-Ok-clause-log
returns-in-Ok-clause-log g c m log =
    let s = c.args.self.now in
    let room = c.has_room.ensures.0 c.if-not-has_room.false in
    let r = Put c.args.key.now c.args.value.now in
    record {
      stands = log.stands;
      records = log.records ++ r ∷ [];
      spelled = records_staged s.staged.items c.push_put.new.staged.items r log.records s.head (omega (arith, room), omega (arith, room)) c.push_put.ensures.items log.spelled;
      now = changes_push log.records r m ∙ ap (change r) log.now ∙ sym c.in-Ok.ensures.ok;
    }
