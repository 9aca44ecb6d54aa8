-- Values of fixed lengths: their fields, one behind the other.
use Rattle.std.specs.Prelude.{◌+◌, ℕ, Bool, List, ◌∷◌, ◌++◌, length, take, drop, replicate, nat_eq, nat_lt, if◌then◌else◌}
use Rattle.byteorder.specs.Endian.{big_bytes, big_number}
use Rattle.table_records.specs.declared.records.VolumeRecord.{VolumeRecord}
use Rattle.table_records.specs.declared.records.FileRecord.{FileRecord}
use Rattle.table_records.specs.declared.records.Extent.{Extent}
use Rattle.table_records.specs.declared.chunk_records.Row.{Row}
use Rattle.table_records.specs.declared.chunk_records.Place.{Place}
use Rattle.table_records.specs.declared.chunk_records.Container.{Container}
use Rattle.table_records.specs.declared.records.ResultRecord.{ResultRecord}

-- the number of n bytes at a place, or 0 where the bytes end before
abbrev pub number_at : ℕ → ℕ → List ℕ → ℕ
number_at n place b = if nat_lt (length b) (place + n) then 0 else big_number n (drop place b)

abbrev pub has_length : ℕ → List ℕ → Bool
has_length n b = nat_eq (length b) n

abbrev pub volume_in : List ℕ → VolumeRecord
volume_in b = record { version = number_at 4 0 b; next_id = number_at 8 4 b }

-- the id of a file, as the table of names holds it
abbrev pub id_in : List ℕ → ℕ
id_in b = number_at 8 0 b

abbrev pub file_in : List ℕ → FileRecord
file_in b = record { length = number_at 8 0 b; map_row = number_at 8 8 b; covers = number_at 8 16 b }

abbrev pub extent_in : List ℕ → Extent
extent_in b = record { cluster = number_at 4 0 b; valid = number_at 2 4 b }

-- the 32 bytes at a place, or zeros where the bytes end before
abbrev pub digest_at : ℕ → List ℕ → List ℕ
digest_at place b = if nat_lt (length b) (place + 32) then replicate 32 0 else take 32 (drop place b)

abbrev pub row_in : List ℕ → Row
row_in b = record {
  kind = number_at 1 0 b;
  digest = digest_at 1 b;
  length = number_at 4 33 b;
  partition = number_at 1 37 b;
  seen = number_at 4 38 b;
  redirect = number_at 8 42 b;
}

-- the bytes that spell a row
abbrev pub row_bytes : Row → List ℕ
row_bytes r = r.kind ∷ (r.digest ++ (big_bytes 4 r.length ++ (r.partition ∷ (big_bytes 4 r.seen ++ big_bytes 8 r.redirect))))

abbrev pub place_in : List ℕ → Place
place_in b = record { container = number_at 8 0 b; offset = number_at 4 8 b }

abbrev pub container_in : List ℕ → Container
container_in b = record { kind = number_at 1 0 b; used = number_at 4 1 b }

-- the bytes that spell a container
abbrev pub container_bytes : Container → List ℕ
container_bytes c = c.kind ∷ big_bytes 4 c.used

-- the cluster that holds a page of a container
abbrev pub cluster_in : List ℕ → ℕ
cluster_in b = number_at 4 0 b

abbrev pub result_in : List ℕ → ResultRecord
result_in b = record { second = number_at 8 0 b; result = number_at 1 8 b }
