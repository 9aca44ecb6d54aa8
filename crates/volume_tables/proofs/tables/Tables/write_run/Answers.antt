use Rattle.std.proofs.Common.{◌≡◌, ◌≤◌, ◌+◌, ◌-◌, ◌*◌, ℕ, length, sym, ◌∙◌, ap, subst, arith, refl, rules}
use Rattle.std.specs.Prelude.{Result, OnOk}
use Rattle.std.proofs.lemmas.Result.{on_ok_weaker}
use Rattle.vdisk.specs.Ranges.{part, part_written}
use Rattle.vdisk.specs.Steps.{TornWithin}
use Rattle.plain_volume.specs.declared.call.Fault.{Fault}
use Rattle.byte_map.specs.Words.{Map}
use Rattle.volume_inside.specs.Tails.{AreTailsFree}
use Rattle.volume_inside.specs.Typed.{typed_of}
use Rattle.volume_tables.specs.Log.{log_state}
use Rattle.volume_tables.specs.Tables.{disk_of}
use Rattle.volume_tables.proofs.Staged.{answer_ok}
use Rattle.volume_tables.proofs.Runs.{run_keeps}
use Rattle.volume_tables.proofs.Staged.{data_handed}
use Rattle.volume_tables.proofs.tables.Tables.write_run.Goals as goal

pub returns-clause-written : goal.returns-clause-written
returns-clause-written g c stored is =
    let t = c.args.self.now in
    let s = log_state c.write_data.new.self in
    let at : ℕ = 4096 * c.args.run.first in
    let n : ℕ = 4096 * c.args.run.count in
    let some = c.requires.some in
    let last = c.requires.free (c.args.run.count - 1) (omega (arith, some)) in
    let low = last.from_first in
    let within = last.is.within in
    let fits : at + length c.args.bytes.now ≤ length (disk_of t).image = omega
    (arith, t.size, c.requires.whole, low, within, t.spaces, some) in
    let written : OnOk c.write_data.result (part at n s.image ≡ c.args.bytes.now) =
    on_ok_weaker c.write_data.result
    (λ holds. ap (λ (m : ℕ). part at m s.image) (sym c.requires.whole)
    ∙ part_written at (disk_of t).image c.args.bytes.now s.image fits holds)
    (c.write_data.ensures.written is.log.stands.told) in
    subst (λ (a : Result (Unit {0}) Fault). OnOk a (part at n s.image ≡ c.args.bytes.now))
    (sym c.of_log.ensures)
    (answer_ok _ c.write_data.result written)

pub returns-clause-writes : goal.returns-clause-writes
returns-clause-writes g c =
    let t = c.args.self.now in
    let s = c.write_data.ensures in
    record {
      now = search rules;
      states = refl;
      leaves =
          record {
            clusters = refl;
            tables = λ stored is. record {
              map = is.map;
              log = s.log is.map is.log;
              is = is.is;
              stored_apart = is.stored_apart;
              free = is.free;
              tails = subst (λ (m : Map). AreTailsFree stored (typed_of m).chunks) (sym s.now) is.tails;
            };
            moments = λ stored w is kept. run_keeps t c.args.run c.requires.some c.requires.free stored w
                (log_state c.write_data.new.self)
                (subst (λ (n : ℕ). TornWithin (4096 * c.args.run.first) n (disk_of t) (log_state c.write_data.new.self))
                c.requires.whole s.torn) is kept;
            same = s.same;
            later = s.later;
            tells = s.torn.tells;
            place = s.place.next;
            epoch = s.place.epoch;
            ends = refl;
            worn = refl;
          };
      numbers = search rules;
      runs = search rules;
      stops = search rules;
      failed = search rules;
    }

pub of_log-requires : goal.of_log-requires
of_log-requires g c = data_handed _ c.write_data.result c.write_data.ensures.failed
