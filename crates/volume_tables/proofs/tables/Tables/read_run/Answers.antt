use Rattle.std.proofs.Common.{◌≡◌, ◌+◌, ◌*◌, length, sym, ap, subst, refl}
use Rattle.std.specs.Prelude.{Result, OnOk}
use Rattle.vdisk.specs.Ranges.{part}
use Rattle.vdisk.specs.Steps.{keeps_read}
use Rattle.plain_volume.specs.declared.call.Fault.{Fault}
use Rattle.volume_inside.specs.Shows.{Shows}
use Rattle.volume_inside.specs.Tails.{AreTailsFree}
use Rattle.byte_map.specs.Words.{Map}
use Rattle.meta_log.specs.Log.{checkpoint_length}
use Rattle.volume_inside.specs.Typed.{typed_of}
use Rattle.volume_tables.specs.Log.{log_state}
use Rattle.volume_tables.specs.Tables.{disk_of, area_of, with_ends}
use Rattle.volume_tables.proofs.Staged.{answer_ok}
use Rattle.volume_tables.proofs.Staged.{data_handed}
use Rattle.volume_tables.proofs.tables.Tables.read_run.Goals as goal

pub returns-clause-bytes : goal.returns-clause-bytes
returns-clause-bytes g c stored is =
    let t = c.args.self.now in
    let out = c.read_data.new.out in
    let place = 4096 * c.args.first + c.args.from in
    subst (λ (a : Result (Unit {0}) Fault). OnOk a (out ≡ part place (length c.args.out.now) (disk_of t).image))
    (sym c.of_log.ensures)
    (answer_ok _ c.read_data.result (c.read_data.ensures.bytes is.log.stands.told))

pub returns-clause-reads : goal.returns-clause-reads
returns-clause-reads g c =
    let t = c.args.self.now in
    let s = c.read_data.ensures in
    record {
      now = ap (λ (m : Map). with_ends t.ends (typed_of m)) s.now;
      states = refl;
      image = s.untouched.image;
      ends = refl;
      leaves = record {
        clusters = refl;
        tables = λ stored is. record {
          map = is.map;
          log = s.log is.map is.log;
          is = is.is;
          stored_apart =
              is.stored_apart;
          free = is.free;
          tails = subst (λ (m : Map). AreTailsFree stored (typed_of m).chunks) (sym s.now) is.tails;
        };
        moments = λ stored w is kept. keeps_read (disk_of t) (log_state c.read_data.new.self)
            (Shows (area_of t) w) s.untouched kept;
        same = s.same;
        later = s.later;
        tells = s.untouched.tells;
        place = s.place.next;
        epoch = s.place.epoch;
        ends = refl;
        worn = refl;
      };
      staged = s.staged;
      checkpoint = ap (λ (m : Map). checkpoint_length m) s.now;
      running = s.stopped;
      only = record {
        keeps = keeps_read (disk_of t) (log_state c.read_data.new.self) (disk_of t).may_leave s.untouched
            (λ image left. left);
        image = s.untouched.image;
        later = s.later;
      };
    }

pub of_log-requires : goal.of_log-requires
of_log-requires g c = data_handed _ c.read_data.result c.read_data.ensures.failed
