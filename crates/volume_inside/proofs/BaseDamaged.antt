-- Where copies are damaged, chunks stay or are lost, and so do the cells of bases.
use Rattle.std.specs.Prelude.{◌≡◌, ℕ, Bool, true, false, List, Option, Some, None, nat_eq, nat_lt, if◌then◌else◌, refl}
use Rattle.std.proofs.Common.{◌∙◌, ap, sym, subst, inl, inr}
use Rattle.std.specs.Ordering.{nat_cmp}
use Rattle.std.specs.FinMap.{find}
use Rattle.plain_volume.specs.Volume.{Byte}
use Rattle.table_records.specs.Keys.{pair_cmp}
use Rattle.table_records.specs.declared.records.FileRecord.{FileRecord}
use Rattle.stream_map.specs.declared.entry.Entry.{Entry}
use Rattle.stream_map.specs.Pieces.{entries_in, place_at}
use Rattle.table_records.specs.declared.chunk_records.Row.{Row}
use Rattle.volume_inside.specs.Chunks.{Bases, if_sound, or_else, own_chunk, own_or_none, chunk_or_none, chunk}
use Rattle.volume_inside.specs.ChunkChanges.{IsDamagedCopy, AreAlike, IsDamaged, HasOneText}
use Rattle.volume_inside.specs.Bases.{base_cell}
use Rattle.volume_inside.specs.BaseCells.{piece_cell, entry_cell, map_cell, IsCellFrom, IsChunkFrom}

-- ---- from chunks to cells

module _ (b c : Bases) (from : (id : ℕ) → IsChunkFrom (chunk b id) (chunk c id)) where
  piece_from : (o q : Option (List ℕ)) (k : ℕ) → IsChunkFrom o q → IsCellFrom (piece_cell o k) (piece_cell q k)
  piece_from o q k (inl same) = inl (ap (λ (x : Option (List ℕ)). piece_cell x k) same)
  piece_from o q k (inr lost) = inr (ap (λ (x : Option (List ℕ)). piece_cell x k) lost)

  entry_from : (o : Option (Entry × ℕ)) → IsCellFrom (entry_cell b o) (entry_cell c o)
  entry_from None = inl refl
  entry_from (Some e) = piece_from (chunk b e.0.id) (chunk c e.0.id) e.1 (from e.0.id)

  map_from : (o q : Option (List ℕ)) (p : ℕ) → IsChunkFrom o q → IsCellFrom (map_cell b o p) (map_cell c q p)
  map_from o q p (inr lost) = inr (ap (λ (x : Option (List ℕ)). map_cell c x p) lost)
  map_from None q p (inl same) = inl (ap (λ (x : Option (List ℕ)). map_cell c x p) same)
  map_from (Some map) q p (inl same) =
      subst (λ (x : Option (List ℕ)). IsCellFrom (map_cell b (Some map) p) (map_cell c x p)) (sym same)
      (entry_from (place_at (entries_in map) p))

  -- DAMAGE OF CHUNKS: where each chunk stays or is lost, so does each cell of a base
  pub base_from : (file : FileRecord) (p : ℕ) → IsCellFrom (base_cell b file p) (base_cell c file p)
  unfolding base_cell
  base_from file p = by (nat_lt p file.covers)
    where
      by : (t : Bool) → IsCellFrom (if t then map_cell b (chunk b file.map_row) p else Byte 0)
          (if t then map_cell c (chunk c file.map_row) p else Byte 0)
      by true = map_from (chunk b file.map_row) (chunk c file.map_row) p (from file.map_row)
      by false = inl refl

-- ---- from copies to chunks

module _ (digest : List ℕ) (one two new_one new_two : Option (List ℕ)) where
  abbrev pick : Option (List ℕ) → Option (List ℕ) → Option (List ℕ)
  pick a b = or_else (if_sound digest a) (if_sound digest b)

  -- the first sound copy, once some were damaged
  picks : AreAlike digest one two → IsDamagedCopy digest one new_one → IsDamagedCopy digest two new_two
      → IsChunkFrom (pick one two) (pick new_one new_two)
  picks alike (inl same) (inl too) = inl (λ i. pick (same i) (too i))
  picks alike (inl same) (inr lost) =
      subst (λ (o : Option (List ℕ)). IsChunkFrom (pick one two) (or_else (if_sound digest new_one) o)) (sym lost)
      (subst (λ (o : Option (List ℕ)). IsChunkFrom (pick one two) (or_else (if_sound digest o) None)) (sym same)
      (by (if_sound digest one)))
    where
      by : (o : Option (List ℕ)) → IsChunkFrom (or_else o (if_sound digest two)) (or_else o None)
      by None = inr refl
      by (Some x) = inl refl
  picks alike (inr lost) too =
      subst (λ (o : Option (List ℕ)). IsChunkFrom (pick one two) (or_else o (if_sound digest new_two))) (sym lost)
      (by (if_sound digest new_two) refl too)
    where
      mine : (o p : Option (List ℕ)) (y : List ℕ) → if_sound digest one ≡ o → if_sound digest two ≡ p → p ≡ Some y
          → IsChunkFrom (or_else o p) (Some y)
      mine None p y is at e = inl (sym e)
      mine (Some x) p y is at e = inl (ap (λ (z : List ℕ). Some z) (sym (alike x y is (at ∙ e))))

      by : (o : Option (List ℕ)) → if_sound digest new_two ≡ o → IsDamagedCopy digest two new_two → IsChunkFrom (pick one two) o
      by None is damaged = inr refl
      by (Some y) is (inl same) =
          let here : if_sound digest two ≡ Some y = sym (ap (λ (o : Option (List ℕ)). if_sound digest o) same) ∙ is in
          mine (if_sound digest one) (if_sound digest two) y refl refl here
      by (Some y) is (inr gone) = absurd (let clash : Some y ≡ None = sym is ∙ gone in cc)

module _ (b c : Bases) (alike : HasOneText b) (d : IsDamaged b c) where
  own_from : (id : ℕ) (o : Option Row) → find nat_cmp id b.rows ≡ o → IsChunkFrom (own_or_none b id o) (own_or_none c id o)
  own_from id None is = inl refl
  own_from id (Some row) is =
      picks row.digest (find pair_cmp (id, 0) b.copies) (find pair_cmp (id, 1) b.copies)
      (find pair_cmp (id, 0) c.copies) (find pair_cmp (id, 1) c.copies)
      (alike id row is) (d.copies id 0 row is) (d.copies id 1 row is)

  row_from : (id : ℕ) (o : Option Row) → find nat_cmp id b.rows ≡ o
      → IsChunkFrom (chunk_or_none b id o) (chunk_or_none (record c { rows = b.rows }) id o)
  row_from id None is = inl refl
  row_from id (Some row) is = by (nat_eq row.redirect 0)
    where
      by : (t : Bool) → IsChunkFrom (if t then own_chunk b id row else own_or_none b row.redirect (find nat_cmp row.redirect b.rows))
          (if t then own_chunk c id row else own_or_none c row.redirect (find nat_cmp row.redirect b.rows))
      by true = own_from id (Some row) is
      by false = own_from row.redirect (find nat_cmp row.redirect b.rows) refl

  -- DAMAGE OF COPIES: each chunk stays or is lost
  pub chunk_from : (id : ℕ) → IsChunkFrom (chunk b id) (chunk c id)
  unfolding chunk
  chunk_from id =
      subst (λ (rs : List (ℕ × Row)). IsChunkFrom (chunk_or_none b id (find nat_cmp id b.rows))
      (chunk_or_none (record c { rows = rs }) id (find nat_cmp id rs)))
      (sym d.rows) (row_from id (find nat_cmp id b.rows) refl)
