-- Settings and results of jobs, as they are set, and the rules.
use Rattle.std.specs.Prelude.{◌≤◌, ℕ, Bool, true, false, cond, List, [], ◌∷◌, Option, Some, IsSomeAnd}
use Rattle.std.proofs.Common.{subst, sym}
use Rattle.std.specs.Ordering.{eq_by_cmp}
use Rattle.std.specs.FinMap.Entries.{find, put, find-put}
use Rattle.table_records.specs.Keys.{kind_cmp, single_cmp}
use Rattle.table_records.specs.Orders.{kind_total}
use Rattle.table_records.specs.declared.jobs.JobKind.{JobKind}
use Rattle.table_records.specs.declared.records.ResultRecord.{ResultRecord}
use Rattle.table_records.specs.declared.settings.Settings.{Settings}
use Rattle.volume_inside.specs.Changes.{with_settings, with_result}
use Rattle.volume_inside.specs.Rules.{RulesHold, AreSettings, IsResultRecord}
use Rattle.volume_inside.specs.Typed.{Typed}

either : (b : Bool) (r : ResultRecord) (o : Option ResultRecord) → IsResultRecord r → IsSomeAnd o IsResultRecord
    → IsSomeAnd (cond b (Some r) o) IsResultRecord
either true r o one other = one
either false r o one other = other

pub rules_with_result : (n : ℕ) (t : Typed) (kind : JobKind) (r : ResultRecord) → RulesHold n t → r.result ≤ 6
    → RulesHold n (with_result kind r t)
rules_with_result n t kind r rules known = record {
  records = record {
    volume = rules.records.volume;
    settings = rules.records.settings;
    results = λ k.
        subst (λ (o : Option ResultRecord). IsSomeAnd o IsResultRecord)
        (sym (find-put kind_cmp kind_total k kind r t.results))
        (either (eq_by_cmp kind_cmp k kind) r (find kind_cmp k t.results) (record { known = known })
        (rules.records.results k));
  };
  names = rules.names;
  files = rules.files;
  map_rows = rules.map_rows;
  extents = rules.extents;
  chunks = rules.chunks;
  clusters = rules.clusters;
}

pub rules_with_settings : (n : ℕ) (t : Typed) (s : Settings) → RulesHold n t → AreSettings s
    → RulesHold n (with_settings s t)
rules_with_settings n t s rules are = record {
  records = record { volume = rules.records.volume; settings = one t.settings; results = rules.records.results };
  names = rules.names;
  files = rules.files;
  map_rows = rules.map_rows;
  extents = rules.extents;
  chunks = rules.chunks;
  clusters = rules.clusters;
}
  where
    one : (es : List (Unit {0} × Settings)) → IsSomeAnd (find single_cmp tt (put single_cmp tt s es)) AreSettings
    one [] = are
    one (e ∷ es) = are
