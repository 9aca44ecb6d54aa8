-- How many bytes the value of the settings has, and a checkpoint of tables.
use Rattle.std.specs.Prelude.{◌+◌, ◌*◌, ℕ, List, [], ◌∷◌, length}
use Rattle.table_records.specs.Texts.{list_bytes}
use Rattle.table_records.specs.declared.settings.Settings.{Settings}
use Rattle.volume_inside.specs.ChunkTables.{ChunkTables, sum_of}
use Rattle.volume_inside.specs.Typed.{Typed}
use Rattle.meta_log.specs.declared.limits.TheConstants.{CHECKPOINT_HEAD}

-- two flags, three numbers of four bytes, and two lists behind their counts
abbrev pub settings_size : Settings → ℕ
settings_size s = 18 + (list_bytes s.folders + list_bytes s.types)

abbrev pub size_in : List (Unit {0} × Settings) → ℕ
size_in [] = 0
size_in (e ∷ es) = settings_size e.1

-- the bytes of the settings' value in tables, which have one
abbrev pub settings_size_of : Typed → ℕ
settings_size_of t = size_in t.settings

-- ---- a checkpoint has a record of each entry: five bytes, the spelled key and the spelled value

-- fourteen bytes of each name, and its own
abbrev pub name_bytes : List (List ℕ × ℕ) → ℕ
name_bytes [] = 0
name_bytes (e ∷ es) = 14 + (length e.0 + name_bytes es)

-- six bytes of the settings, and those of their value
abbrev pub setting_bytes : List (Unit {0} × Settings) → ℕ
setting_bytes [] = 0
setting_bytes (e ∷ es) = 6 + (settings_size e.1 + setting_bytes es)

-- of each entry of a table of chunks five bytes, those of its key and those of its value: 64 of each row, 27 of each
-- place of a copy, 19 of each container and 22 of each cluster of one
abbrev pub chunk_bytes : ChunkTables → ℕ
chunk_bytes t = sum_of (λ K V c long size fixed es. (5 + (long + size)) * length es) t

abbrev pub chunks_in : ChunkTables → ℕ
chunks_in t = sum_of (λ K V c long size fixed es. length es) t

-- the bytes of a checkpoint of tables, behind a head of 45 bytes
abbrev pub tables_bytes : Typed → ℕ
tables_bytes t = CHECKPOINT_HEAD + (18 * length t.volume + (name_bytes t.names + (38 * length t.files + (24 * length t.extents
    + (chunk_bytes t.chunks + (setting_bytes t.settings + 16 * length t.results))))))

-- how many entries there are but for names
abbrev pub others_in : Typed → ℕ
others_in t =
    length t.volume + (length t.files + (length t.extents + (chunks_in t.chunks + (length t.settings + length t.results))))
