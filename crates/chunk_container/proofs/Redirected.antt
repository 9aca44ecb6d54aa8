-- A row that is redirected, once room was made.
use Rattle.std.specs.Prelude.{◌≡◌, ℕ, T, List, Option, Some, IsSomeAnd, refl}
use Rattle.std.proofs.Common.{ap, sym, subst, arith}
use Rattle.std.specs.Ordering.{nat_cmp}
use Rattle.std.specs.Cmp.{nat_cmp_total}
use Rattle.std.specs.FinMap.{find, is_sorted}
use Rattle.std.proofs.lemmas.Map.Lookups.{exact_unsigned}
use Rattle.vdisk.specs.declared.disk.Disk.{Ghosts}
use Rattle.table_records.specs.Next.{sorted_typed}
use Rattle.table_records.specs.Tables.{row_codec}
use Rattle.table_records.specs.declared.chunk_records.Row.{Row}
use Rattle.volume_inside.specs.Bases.{Bases, bases_of}
use Rattle.volume_inside.specs.ChunkChanges.{IsRedirected}
use Rattle.volume_inside.specs.Chunks.{own_chunk}
use Rattle.volume_inside.specs.Entries.{each_found}
use Rattle.volume_inside.specs.Inside.{Inside}
use Rattle.volume_inside.specs.Rules.{next_id_of, RulesHold}
use Rattle.volume_inside.specs.Typed.{Typed}
use Rattle.volume_tables.proofs.Answers.{as_true}
use Rattle.volume_tables.specs.Log.{log_now}
use Rattle.volume_tables.specs.Tables.{tables_now, inside_now, disk_of, clusters_in}
use Rattle.volume_tables.specs.declared.tables.Tables.{Tables}
use Rattle.chunk_container.specs.Bases.{bases_now}
use Rattle.chunk_container.specs.Rows.{IsRedirectable, redirected}
use Rattle.chunk_container.proofs.Finds.{found_put}
use Rattle.chunk_container.proofs.RowRules.{row_other, place_other, some_target, target_lower}
use Rattle.chunk_container.proofs.RowViews.{copy_same}

-- the rows of the tables are in the order of their ids
pub rows_in_order : {D : Type 0} {d : Ghosts D} (t : Tables D d) → T (is_sorted nat_cmp (tables_now t).chunks.rows)
rows_in_order t = sorted_typed row_codec (log_now t.log) (as_true t.contents.sorted)

-- of the row that is found, a fact on the row
pub of_found : (P : Row → Type 0) (o : Option Row) (row : Row) → IsSomeAnd o P → o ≡ Some row → P row
of_found P o row holds is = subst (λ (p : Option Row). IsSomeAnd p P) is holds

pub redirect_is : (n : ℕ) (t : Typed) (id to : ℕ) (row target : Row) (image : List ℕ) → RulesHold n t
    → IsRedirectable t.chunks.rows id to row → T (is_sorted nat_cmp t.chunks.rows)
    → find nat_cmp to t.chunks.rows ≡ Some target
    → own_chunk (bases_of t image) to target ≡ own_chunk (bases_of t image) id row
    → IsRedirected (bases_of t image) (bases_of (redirected id to row t) image) id to row target
redirect_is n t id to row target image rules may sorted found alike = record {
  was = may.there;
  own = may.own;
  now = found_put nat_cmp nat_cmp_total id (record row { redirect = to }) t.chunks.rows;
  some_to = λ none. (let some = some_target n (next_id_of t) t.chunks rules.chunks id to row may sorted in
      omega (arith, none, some));
  other = λ same. (let low = target_lower n (next_id_of t) t.chunks rules.chunks id to row may sorted in
      omega (arith, same, low));
  target_is = found;
  alike = alike;
  rows = λ x differ. row_other n (next_id_of t) t.chunks rules.chunks id to row may sorted x differ;
  copies = λ x copy differ.
      copy_same t.chunks (redirected id to row t).chunks image refl refl x copy
      (row_other n (next_id_of t) t.chunks rules.chunks id to row may sorted x differ)
      (place_other n (next_id_of t) t.chunks rules.chunks id to row may sorted x copy differ);
  untargeted = λ x r is. each_found nat_cmp exact_unsigned (λ y s. s.redirect ≡ id → ⊥) x r t.chunks.rows is may.untargeted;
}

-- the same once room was made
pub redirect_then : {D : Type 0} {d : Ghosts D} (t m p : Tables D d) (id to : ℕ) (row target : Row)
    → tables_now m ≡ tables_now t → inside_now m ≡ inside_now t → RulesHold (clusters_in t) (tables_now t)
    → (disk_of p).image ≡ (disk_of m).image → tables_now p ≡ redirected id to row (tables_now m)
    → IsRedirectable (tables_now t).chunks.rows id to row
    → find nat_cmp to (tables_now t).chunks.rows ≡ Some target
    → own_chunk (bases_now t) to target ≡ own_chunk (bases_now t) id row
    → IsRedirected (bases_now t) (bases_now p) id to row target
redirect_then t m p id to row target now inside rules image is may found alike =
    let bases : bases_now m ≡ bases_now t = ap (λ (i : Inside). i.bases) inside in
    let order = subst (λ (q : Typed). T (is_sorted nat_cmp q.chunks.rows)) (sym now) (rows_in_order t) in
    subst (λ (x : Bases × Bases). IsRedirected x.0 x.1 id to row target)
    (λ i. (bases i, sym (λ k. bases_of (is k) (image k)) i))
    (redirect_is (clusters_in t) (tables_now m) id to row target (disk_of m).image
    (subst (λ (q : Typed). RulesHold (clusters_in t) q) (sym now) rules)
    (subst (λ (q : Typed). IsRedirectable q.chunks.rows id to row) (sym now) may) order
    (subst (λ (q : Typed). find nat_cmp to q.chunks.rows ≡ Some target) (sym now) found)
    (subst (λ (b : Bases). own_chunk b to target ≡ own_chunk b id row) (sym bases) alike))
