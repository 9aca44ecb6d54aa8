-- What keeps the maps of bases as they should be: fewer bytes of a file that are covered, and rows and chunks that stay
-- as far as maps are made of them.
use Rattle.std.specs.Prelude.{◌≡◌, ◌⊎◌, ◌≤◌, ℕ, List, [], ◌∷◌, Option, Some, None, IsSomeAnd, refl}
use Rattle.std.proofs.Common.{◌∙◌, sym, subst, inl, inr, arith}
use Rattle.std.specs.Ordering.{nat_cmp}
use Rattle.std.specs.FinMap.{find}
use Rattle.table_records.specs.Keys.{pair_cmp}
use Rattle.table_records.specs.declared.records.FileRecord.{FileRecord}
use Rattle.table_records.specs.declared.chunk_records.Row.{Row}
use Rattle.stream_map.specs.declared.entry.Entry.{Entry}
use Rattle.stream_map.specs.Pieces.{entries_in}
use Rattle.volume_inside.specs.Chunks.{Bases, chunk, if_sound, or_else}
use Rattle.volume_inside.specs.ChunkRules.{AllEntries, BaseHolds, EntryHolds, IsMapRow, IsPieceOf, MapHolds, MapRowHolds}
use Rattle.volume_inside.specs.Entries.{Each}
use Rattle.volume_inside.specs.Joins.{HasCover}
use Rattle.volume_inside.specs.Mapping.{IsLike, HasEntries}
use Rattle.volume_inside.proofs.BaseSound.{own_is}

-- ---- one file

-- another record with the same map, of which no more is covered; or that covers nothing
pub base_shorter : (b : Bases) (id x : ℕ) (was file : FileRecord) → file.covers ≤ was.covers
    → ((file.covers ≡ 0 → ⊥) → file.map_row ≡ was.map_row) → BaseHolds b id was → BaseHolds b x file
base_shorter b id x was file less same holds some =
    subst (λ (row : ℕ). MapHolds b.rows file.covers (chunk b row)) (sym (same some))
    (shorter (chunk b was.map_row) (holds (λ none. some (omega (arith, none, less)))))
  where
    shorter : (o : Option (List ℕ)) → MapHolds b.rows was.covers o → MapHolds b.rows file.covers o
    shorter None hold = tt
    shorter (Some map) hold = (hold.0, omega (arith, hold.1, less))

-- a file without a base
pub base_none : (b : Bases) (id : ℕ) (file : FileRecord) → file.covers ≡ 0 → BaseHolds b id file
base_none b id file none = λ some. absurd (some none)

-- ---- other rows and chunks

-- an entry names a row that is there still, of the same kind and length
pub entry_like : (b c : Bases) (e : Entry)
    → ((row : Row) → find nat_cmp e.id b.rows ≡ Some row → IsSomeAnd (find nat_cmp e.id c.rows) (IsLike row))
    → EntryHolds b.rows e → EntryHolds c.rows e
entry_like b c e like holds = record {
  some_bytes = holds.some_bytes;
  short = holds.short;
  names_row = by (find nat_cmp e.id b.rows) like holds.names_row;
}
  where
    piece : (row : Row) → IsPieceOf e row → (o : Option Row) → IsSomeAnd o (IsLike row) → IsSomeAnd o (IsPieceOf e)
    piece row is None none = none
    piece row is (Some other) same = record { kind = same.0 ∙ is.kind; length = is.length ∙ sym same.1 }

    by : (o : Option Row) → ((row : Row) → o ≡ Some row → IsSomeAnd (find nat_cmp e.id c.rows) (IsLike row))
        → IsSomeAnd o (IsPieceOf e) → IsSomeAnd (find nat_cmp e.id c.rows) (IsPieceOf e)
    by None all none = absurd none
    by (Some row) all is = piece row is (find nat_cmp e.id c.rows) (all row refl)

module _ (b c : Bases) (P : Entry → Type 0) (Q : ℕ → Type 0)
    (entries : (e : Entry) → P e → EntryHolds b.rows e → EntryHolds c.rows e)
    (chunks : (m : ℕ) → Q m → IsSomeAnd (find nat_cmp m b.rows) IsMapRow
    → (chunk c m ≡ chunk b m) ⊎ (chunk c m ≡ None)) where
  all_entries : (es : List Entry) → AllEntries P es → AllEntries (EntryHolds b.rows) es → AllEntries (EntryHolds c.rows) es
  all_entries [] have hold = tt
  all_entries (e ∷ es) have hold = (entries e have.0 hold.0, all_entries es have.1 hold.1)

  base_left : (id : ℕ) (file : FileRecord) → Q file.map_row → HasEntries b P id file → MapRowHolds b.rows id file
      → HasCover id file → BaseHolds b id file → BaseHolds c id file
  base_left id file here have map_row cover holds some =
      elim (chunks file.map_row here (map_row (λ none. some (cover none)))) [
        | inl same ↦ subst (λ (o : Option (List ℕ)). MapHolds c.rows file.covers o) (sym same)
            (by (chunk b file.map_row) have (holds some))
        | inr lost ↦ subst (λ (o : Option (List ℕ)). MapHolds c.rows file.covers o) (sym lost) tt
      ]
    where
      by : (o : Option (List ℕ)) → ((map : List ℕ) → o ≡ Some map → AllEntries P (entries_in map))
          → MapHolds b.rows file.covers o → MapHolds c.rows file.covers o
      by None all hold = tt
      by (Some map) all hold = (all_entries (entries_in map) (all map refl) hold.0, hold.1)

  -- WHERE MAPS ARE LEFT: each map has its bytes still or is lost, and the rows that it names are there
  pub maps_left : (files : List (ℕ × FileRecord)) → Each (λ id file. Q file.map_row × HasEntries b P id file) files
      → Each (MapRowHolds b.rows) files → Each HasCover files → Each (BaseHolds b) files → Each (BaseHolds c) files
  maps_left [] have map_rows covers hold = tt
  maps_left (f ∷ files) have map_rows covers hold = (
    base_left f.0 f.1 have.0.0 have.0.1 map_rows.0 covers.0 hold.0,
    maps_left files have.1 map_rows.1 covers.1 hold.1,
  )

-- where each row of a map has its bytes still or is lost, and all rows are there
pub maps_stay : (b c : Bases) (files : List (ℕ × FileRecord))
    → ((id : ℕ) (row : Row) → find nat_cmp id b.rows ≡ Some row → IsSomeAnd (find nat_cmp id c.rows) (IsLike row))
    → ((m : ℕ) → IsSomeAnd (find nat_cmp m b.rows) IsMapRow → (chunk c m ≡ chunk b m) ⊎ (chunk c m ≡ None))
    → Each (MapRowHolds b.rows) files → Each HasCover files → Each (BaseHolds b) files → Each (BaseHolds c) files
maps_stay b c files rows chunks =
    maps_left b c (λ e. Unit {0}) (λ m. Unit {0}) (λ e any. entry_like b c e (rows e.id)) (λ m any. chunks m) files
    (anything files)
  where
    any_entries : (es : List Entry) → AllEntries (λ e. Unit {0}) es
    any_entries [] = tt
    any_entries (e ∷ es) = (tt, any_entries es)

    anything : (fs : List (ℕ × FileRecord)) → Each (λ id file. Unit {0} × HasEntries b (λ e. Unit {0}) id file) fs
    anything [] = tt
    anything (f ∷ fs) = ((tt, λ map is. any_entries (entries_in map)), anything fs)

-- a row with its own bytes that stays as its copies do has the chunk that it had
pub chunk_of_own : (b c : Bases) (m : ℕ) (row : Row) → find nat_cmp m b.rows ≡ Some row
    → find nat_cmp m c.rows ≡ Some row → row.redirect ≡ 0
    → ((copy : ℕ) → find pair_cmp (m, copy) c.copies ≡ find pair_cmp (m, copy) b.copies) → chunk c m ≡ chunk b m
chunk_of_own b c m row was is own copies =
    own_is c m row is own
    ∙ (λ i. or_else (if_sound row.digest (copies 0 i)) (if_sound row.digest (copies 1 i)))
    ∙ sym (own_is b m row was own)
