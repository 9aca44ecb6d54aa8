use Rattle.std.proofs.Common.{rules}
use Rattle.volume_inside.specs.Typed.{typed_of}
use Rattle.table_rules.proofs.Marking.{data_of_rules}
use Rattle.table_rules.proofs.checking.check.Goals as goal

pub mark_clusters-requires-clause-data : goal.mark_clusters-requires-clause-data
mark_clusters-requires-clause-data c =
    let extents = c.extents_hold.ensures.0 c.if-not-extents_hold.false in
    let containers = c.containers_hold.ensures.0 c.if-not-containers_hold.false in
    data_of_rules c.args.clusters (typed_of c.args.map.now) extents containers.in_data

pub returns-in-Some-clause-volume : goal.returns-in-Some-clause-volume
returns-in-Some-clause-volume c =
    record {
      spelled = c.in_ok-records.ensures.spelled;
      rules = record {
        records = c.in_ok-records.ensures.hold;
        names = search rules;
        files = c.files_hold.ensures.0 c.if-not-files_hold.false;
        map_rows = c.map_rows_hold.ensures.0 c.if-not-map_rows_hold.false;
        extents = c.extents_hold.ensures.0 c.if-not-extents_hold.false;
        chunks = record {
          rows = c.rows_hold.ensures.0 c.if-not-rows_hold.false;
          redirects = c.redirects_hold.ensures.0 c.if-not-redirects_hold.false;
          places = c.places_hold.ensures.0 c.if-not-places_hold.false;
          containers = c.containers_hold.ensures.0 c.if-not-containers_hold.false;
        };
        clusters = search rules;
      };
    }
