-- The tables of a fresh volume meet the rules, and show no file.
use Rattle.std.specs.Prelude.{◌≡◌, ◌*◌, ℕ, List, [], length, Ok, IsSomeAnd, refl}
use Rattle.std.proofs.Common.{◌∙◌, arith, ap, subst, sym}
use Rattle.std.specs.FinMap.{find}
use Rattle.byte_map.specs.Words.{Map}
use Rattle.table_records.specs.Keys.{kind_cmp}
use Rattle.table_records.specs.WellFormed.{AllWellFormed}
use Rattle.table_records.specs.declared.jobs.JobKind.{JobKind}
use Rattle.table_records.specs.declared.jobs.JobKind.TheVariants.{Optimization, GarbageCollection, Scrubbing, Unoptimization}
use Rattle.volume_inside.specs.Typed.{Typed, typed_of}
use Rattle.volume_inside.specs.Inside.{inside_at}
use Rattle.volume_inside.specs.View.{view}
use Rattle.volume_inside.specs.Rules.{RecordsHold, RulesHold, IsVolume, IsResultRecord}
use Rattle.volume_inside.specs.Superblock.{HasSuperblock}
use Rattle.volume_inside.specs.Shows.{Area, Shows}
use Rattle.volume_inside.specs.Fresh.{fresh_tables, fresh_map}
use Rattle.volume_inside.specs.ChunkRules.{MapsHold}

pub fresh_typed : typed_of fresh_map ≡ fresh_tables
fresh_typed = refl

fresh_results : (kind : JobKind) → IsSomeAnd (find kind_cmp kind fresh_tables.results) IsResultRecord
fresh_results Optimization = record { known = omega arith }
fresh_results GarbageCollection = record { known = omega arith }
fresh_results Scrubbing = record { known = omega arith }
fresh_results Unoptimization = record { known = omega arith }

fresh_records : RecordsHold fresh_tables.volume fresh_tables.settings fresh_tables.results
fresh_records = record {
  volume = record { version = refl; some_id = omega arith; last_id = omega arith };
  settings = record {
    least_size = omega arith;
    most_size = omega arith;
    most_days = omega arith;
    least_threshold = omega arith;
    most_threshold = omega arith;
    folders = refl;
    types = refl;
  };
  results = fresh_results;
}

pub fresh_rules : (n : ℕ) → RulesHold n fresh_tables
fresh_rules n = record {
  records = fresh_records;
  names = record { names = tt; once = tt; few = omega arith };
  files = tt;
  map_rows = tt;
  extents = tt;
  chunks = record {
    rows = tt;
    redirects = tt;
    places = record { places = tt; first_copies = tt };
    containers = record { containers = tt; clusters = tt; in_data = tt };
  };
  clusters = tt;
}

fresh_spelled : AllWellFormed fresh_map
fresh_spelled = (refl, (refl, (refl, (refl, (refl, (refl, tt))))))

pub fresh_volume : (n : ℕ) → IsVolume n fresh_map
fresh_volume n = record { spelled = fresh_spelled; rules = fresh_rules n }

pub fresh_view : (image : List ℕ) → view (inside_at fresh_tables image) ≡ []
unfolding view
fresh_view image = refl

-- an image with a superblock whose journal spells these tables shows the empty volume
pub fresh_shows : (a : Area) (image : List ℕ) (m : Map) → HasSuperblock a.clusters image → length image ≡ 4096 * a.clusters
    → a.meta image ≡ Ok m → AllWellFormed m → typed_of m ≡ fresh_tables → Shows a [] image
fresh_shows a image m superblock size spells formed same = record {
  inside = inside_at (typed_of m) image;
  has = record {
    superblock = superblock;
    size = size;
    stored = m;
    spells = spells;
    volume = record { spelled = formed; rules = subst (RulesHold a.clusters) (sym same) (fresh_rules a.clusters) };
    is = refl;
    maps = subst (λ (t : Typed). MapsHold (inside_at t image)) (sym same) tt;
  };
  is = ap (λ (t : Typed). view (inside_at t image)) same ∙ fresh_view image;
}
