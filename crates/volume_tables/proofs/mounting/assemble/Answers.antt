use Rattle.std.proofs.Common.{arith, refl}
use Rattle.table_rules.specs.Found.{volume_record}
use Rattle.volume_inside.specs.Rules.{IsVolumeRecord}
use Rattle.volume_tables.proofs.Pended.{none_left}
use Rattle.volume_tables.proofs.Assembled.{contents_found, held_found, lawful_found, rules_found}
use Rattle.volume_tables.proofs.mounting.assemble.Goals as goal

pub invariant_of-result : goal.invariant_of-result
invariant_of-result g c =
    let n = c.args.clusters in
    let m = c.args.log.map in
    let r = c.args.found.records in
    let volume = c.requires.volume in
    let lawful : IsVolumeRecord (volume_record r.next_id) = lawful_found n m r volume c.requires.records in
    record {
      least = c.requires.least;
      most = c.requires.most;
      place = c.requires.at;
      half = c.requires.half;
      size = c.requires.size;
      spaces = c.requires.space.size;
      last_id = lawful.last_id;
      named = c.count_names-names.ensures;
      contents = contents_found n m r c.requires.sorted volume c.requires.records;
      held = held_found n m c.args.found.space volume c.requires.space;
      tired = λ worn. absurd (cc);
      few = λ runs fresh. omega (arith, c.requires.staged);
    }

pub returns-clause-opened : goal.returns-clause-opened
returns-clause-opened g c =
    let n = c.args.clusters in
    let m = c.args.log.map in
    let r = c.args.found.records in
    let none = none_left r.results in
    record {
      staged = c.requires.staged;
      due = omega (arith, none, c.requires.staged);
      runs = c.requires.running;
      fresh = refl;
      space = c.requires.space;
      rules = rules_found n m r c.requires.sorted c.requires.volume c.requires.records;
    }
