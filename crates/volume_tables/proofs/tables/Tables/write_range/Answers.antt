use Rattle.std.proofs.Common.{◌≡◌, ◌≤◌, ◌+◌, ◌*◌, ◌∙◌, ℕ, ap, length, sym, subst, arith, inl, refl, rules}
use Rattle.std.specs.Prelude.{Result, OnOk}
use Rattle.std.proofs.lemmas.Result.{on_ok_weaker}
use Rattle.byte_map.specs.Words.{Map}
use Rattle.vdisk.specs.Ranges.{part, part_written}
use Rattle.plain_volume.specs.declared.call.Fault.{Fault}
use Rattle.volume_inside.specs.Tails.{AreTailsFree}
use Rattle.volume_inside.specs.Typed.{typed_of}
use Rattle.volume_tables.specs.Clusters.{AreHeld}
use Rattle.volume_tables.specs.Contents.{HasContents}
use Rattle.volume_tables.specs.Log.{log_state}
use Rattle.volume_inside.specs.Inside.{inside_at}
use Rattle.volume_tables.specs.Tables.{disk_of, with_ends}
use Rattle.volume_tables.proofs.Behind.{behind_data, behind_stays, behind_keeps}
use Rattle.volume_tables.proofs.Staged.{answer_ok, data_handed}
use Rattle.volume_tables.proofs.tables.Tables.write_range.Goals as goal

pub write_data-requires-clause-range : goal.write_data-requires-clause-range
write_data-requires-clause-range g c =
    let t = c.args.self.now in
    let lies = behind_data t c.args.cluster c.args.from (length c.args.bytes.now) c.requires.behind c.requires.within in
    omega (arith, lies.within, c.requires.within, t.size)

pub write_data-requires-clause-apart : goal.write_data-requires-clause-apart
write_data-requires-clause-apart g c =
    let t = c.args.self.now in
    let lies = behind_data t c.args.cluster c.args.from (length c.args.bytes.now) c.requires.behind c.requires.within in
    inl (omega (arith, lies.from_first, t.place, t.half))

pub invariant_of-self-clause-named : goal.invariant_of-self-clause-named
invariant_of-self-clause-named g c =
    c.args.self.now.named ∙ ap (λ (m : Map). length (typed_of m).names) (sym c.write_data.ensures.now)

pub invariant_of-self-clause-contents : goal.invariant_of-self-clause-contents
invariant_of-self-clause-contents g c =
    let t = c.args.self.now in
    subst (λ (m : Map). HasContents m t.next_id t.settings t.ends) (sym c.write_data.ensures.now) t.contents

pub invariant_of-self-clause-held : goal.invariant_of-self-clause-held
invariant_of-self-clause-held g c =
    let t = c.args.self.now in
    subst (λ (m : Map). AreHeld t.clusters t.space (typed_of m)) (sym c.write_data.ensures.now) t.held

pub returns-clause-same : goal.returns-clause-same
returns-clause-same g c =
    let t = c.args.self.now in
    let s = c.write_data.ensures in
    (λ i. inside_at (with_ends t.ends (typed_of (s.now i))) (log_state c.write_data.new.self).image)
    ∙ behind_stays t c.args.cluster c.args.from (length c.args.bytes.now) c.requires.behind c.requires.within
    (log_state c.write_data.new.self).image s.image

pub returns-clause-written : goal.returns-clause-written
returns-clause-written g c stored is =
    let t = c.args.self.now in
    let s = log_state c.write_data.new.self in
    let at : ℕ = 4096 * c.args.cluster + c.args.from in
    let lies = behind_data t c.args.cluster c.args.from (length c.args.bytes.now) c.requires.behind c.requires.within in
    let fits : at + length c.args.bytes.now ≤ length (disk_of t).image = omega
    (arith, t.size, c.requires.within, lies.within) in
    subst (λ (a : Result (Unit {0}) Fault). OnOk a (part at (length c.args.bytes.now) s.image ≡ c.args.bytes.now))
    (sym c.of_log.ensures)
    (answer_ok _ c.write_data.result (on_ok_weaker c.write_data.result
    (λ holds. part_written at (disk_of t).image c.args.bytes.now s.image fits holds)
    (c.write_data.ensures.written is.log.stands.told)))

pub returns-clause-writes : goal.returns-clause-writes
returns-clause-writes g c =
    let t = c.args.self.now in
    let s = c.write_data.ensures in
    record {
      now = search rules;
      states = refl;
      leaves =
          record {
            clusters = refl;
            tables = λ stored is. record {
              map = is.map;
              log = s.log is.map is.log;
              is = is.is;
              stored_apart = is.stored_apart;
              free = is.free;
              tails = subst (λ (m : Map). AreTailsFree stored (typed_of m).chunks) (sym s.now) is.tails;
            };
            moments = λ stored w is kept. behind_keeps t c.args.cluster c.args.from (length c.args.bytes.now)
                c.requires.behind c.requires.within stored w (log_state c.write_data.new.self) s.torn is kept;
            same = s.same;
            later = s.later;
            tells = s.torn.tells;
            place = s.place.next;
            epoch = s.place.epoch;
            ends = refl;
            worn = refl;
          };
      numbers = search rules;
      runs = search rules;
      stops = search rules;
      failed = search rules;
    }

pub of_log-requires : goal.of_log-requires
of_log-requires g c = data_handed _ c.write_data.result c.write_data.ensures.failed
