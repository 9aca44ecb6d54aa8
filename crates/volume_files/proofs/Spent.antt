-- What a call spends, from what it does to the tables.
use Rattle.std.specs.Prelude.{◌≡◌, ◌≤◌, ◌<◌, ◌+◌, ◌/◌, ◌%◌, ◌==◌, ℕ, suc, Bool, true, false, not, cond, nat_lt, T, refl}
use Rattle.std.specs.Prelude.{List, [], ◌∷◌, length}
use Rattle.std.specs.Prelude.{Option, Some, None, Result, Ok, Err, OnOk, OnErr}
use Rattle.std.proofs.Common.{◌∙◌, ap, arith}
use Rattle.std.specs.FinMap.{find, put, is_sorted}
use Rattle.std.specs.FinMap.Entries.{where_key}
use Rattle.vdisk.specs.declared.disk.Disk.{Ghosts}
use Rattle.plain_volume.specs.declared.call.Fault.{Fault}
use Rattle.table_records.specs.Keys.{single_cmp, pair_cmp}
use Rattle.table_records.specs.declared.records.Extent.{Extent}
use Rattle.table_records.specs.declared.records.FileRecord.{FileRecord}
use Rattle.table_records.specs.declared.records.VolumeRecord.{VolumeRecord}
use Rattle.volume_inside.specs.Changes.{with_extent, with_file, keep_extents}
use Rattle.volume_inside.specs.Named.{clusters_of}
use Rattle.volume_inside.specs.Rules.{id_after, next_id_of}
use Rattle.volume_inside.specs.Typed.{Typed, FileBlock}
use Rattle.volume_tables.specs.Tables.{tables_now}
use Rattle.volume_tables.specs.declared.tables.Tables.{Tables}
use Rattle.volume_tables.specs.Spending.{Spends, Aside, aside}
use Rattle.volume_files.specs.Lengths.{cut_extent, with_extent_if, end_cut, lies_behind, cut_if, resized_in}
use Rattle.volume_files.specs.Names.{with_new, with_renamed, without_name}
use Rattle.volume_files.specs.Needs.{touched, touched_at}
use Rattle.volume_files.proofs.CutExtents.{cut_means}
use Rattle.volume_files.proofs.Extents.{length-clusters, count_put_new, count_put_over}
use Rattle.volume_files.proofs.Setting.{sorted_now}

-- ---- how many clusters are named

abbrev named_in : Typed → ℕ
named_in t = length (clusters_of t)

fewer_kept : (test : FileBlock → Bool) (es : List (FileBlock × Extent))
    → length (where_key pair_cmp test es) ≤ length es
fewer_kept test [] = omega arith
fewer_kept test (e ∷ es) = by (test e.0) (fewer_kept test es)
  where
    by : (b : Bool) → length (where_key pair_cmp test es) ≤ length es
        → length (cond b (e ∷ where_key pair_cmp test es) (where_key pair_cmp test es)) ≤ suc (length es)
    by true rest = omega (arith, rest)
    by false rest = omega (arith, rest)

-- no more where extents are dropped
named_kept : (test : FileBlock → Bool) (t : Typed) → named_in (keep_extents test t) ≤ named_in t
named_kept test t =
    let one = length-clusters (keep_extents test t) in
    let two = length-clusters t in
    let fewer = fewer_kept test t.extents in
    omega (arith, one, two, fewer)

-- one more at most where one is put
pub named_put : (k : FileBlock) (e : Extent) (t : Typed) → T (is_sorted pair_cmp t.extents)
    → named_in (with_extent k e t) ≤ named_in t + 1
named_put k e t sorted = by (find pair_cmp k t.extents) refl
  where
    by : (o : Option Extent) → find pair_cmp k t.extents ≡ o → named_in (with_extent k e t) ≤ named_in t + 1
    by None is = (let new = count_put_new k e t sorted is in omega (arith, new))
    by (Some old) is = (let over = count_put_over k e old t sorted is in omega (arith, over))

-- as many where the end of a file is cut
named_cut : (id len : ℕ) (t : Typed) → T (is_sorted pair_cmp t.extents) → named_in (end_cut id len t) ≡ named_in t
named_cut id len t sorted = by (cut_extent (len % 4096) (find pair_cmp key t.extents)) refl
  where
    key : FileBlock
    key = (id, len / 4096)

    by : (o : Option Extent) → cut_extent (len % 4096) (find pair_cmp key t.extents) ≡ o
        → named_in (with_extent_if key o t) ≡ named_in t
    by None is = refl
    by (Some e) is =
        (let cut = cut_means (len % 4096) (find pair_cmp key t.extents) e is in count_put_over key e cut.old t sorted
        cut.there)

named_resized : (id len : ℕ) (file : FileRecord) (t : Typed) → T (is_sorted pair_cmp t.extents)
    → named_in (resized_in id file len t) ≤ named_in t
named_resized id len file t sorted = by (nat_lt len file.length)
  where
    by : (b : Bool) → named_in (cut_if b id len t) ≤ named_in t
    by true =
        (let kept = named_kept (λ k. not (lies_behind id len k)) (end_cut id len t) in
        let cut = named_cut id len t sorted in omega (arith, kept, cut))
    by false = omega arith

-- ---- the id that is drawn next

next_put : (v : VolumeRecord) (es : List (Unit {0} × VolumeRecord))
    → id_after (find single_cmp tt (put single_cmp tt v es)) ≡ v.next_id
next_put v [] = refl
next_put v (e ∷ es) = refl

next_new : (name : List ℕ) (t : Typed) → next_id_of (with_new name t) ≡ next_id_of t + 1
next_new name t = next_put (record { version = 1; next_id = next_id_of t + 1 }) t.volume

-- ---- what stands beside the names, the files and the extents

abbrev Beside : Type 0
Beside = List (Unit {0} × VolumeRecord) × Aside

abbrev beside : Typed → Beside
beside t = (t.volume, aside t)

beside_if : (k : FileBlock) (o : Option Extent) (t : Typed) → beside (with_extent_if k o t) ≡ beside t
beside_if k None t = refl
beside_if k (Some e) t = refl

beside_cut : (b : Bool) (id len : ℕ) (t : Typed) → beside (cut_if b id len t) ≡ beside t
beside_cut true id len t =
    beside_if (id, len / 4096) (cut_extent (len % 4096) (find pair_cmp (id, len / 4096) t.extents)) t
beside_cut false id len t = refl

-- ---- what a call spends

module _ {D : Type 0} {d : Ghosts D} where
  -- tables that are the same
  pub spends_none : (n i : ℕ) (a b : Tables D d) → tables_now b ≡ tables_now a → Spends n i a b
  spends_none n i a b same = record {
    named = let is = ap (λ (t : Typed). named_in t) same in omega (arith, is);
    drawn = let is = ap (λ (t : Typed). next_id_of t) same in omega (arith, is);
    same = ap aside same;
  }

  -- tables that name no more clusters
  spends_some : (i : ℕ) (a b : Tables D d) (q : Typed) → tables_now b ≡ q → named_in q ≤ named_in (tables_now a)
      → next_id_of q ≤ next_id_of (tables_now a) + i → aside q ≡ aside (tables_now a) → Spends 0 i a b
  spends_some i a b q is named drawn kept = record {
    named = let same = ap (λ (t : Typed). named_in t) is in omega (arith, same, named);
    drawn = let same = ap (λ (t : Typed). next_id_of t) is in omega (arith, same, drawn);
    same = ap aside is ∙ kept;
  }

  -- two calls, one behind the other
  pub spends_then : (m n most : ℕ) (a b c : Tables D d) → Spends m 0 a b → Spends n 0 b c → m + n ≤ most
      → Spends most 0 a c
  spends_then m n most a b c first second fits = record {
    named = omega (arith, first.named, second.named, fits);
    drawn = omega (arith, first.drawn, second.drawn);
    same = second.same ∙ first.same;
  }

  -- once room was made
  module _ (t m s : Tables D d) (now : tables_now m ≡ tables_now t) where
    after_room : (n i : ℕ) → Spends n i m s → Spends n i t s
    after_room n i spends = record {
      named =
          let is = ap (λ (q : Typed). named_in q) now in
          omega (arith, is, spends.named);
      drawn = let is = ap (λ (q : Typed). next_id_of q) now in omega (arith, is, spends.drawn);
      same = spends.same ∙ ap aside now;
    }

    -- a file was made, or not
    pub spends_new : (name : List ℕ) (r : Result (Unit {0}) Fault)
        → OnOk r (tables_now s ≡ with_new name (tables_now m)) → OnErr r (tables_now s ≡ tables_now m)
        → Spends 0 1 t s
    spends_new name (Ok done) made same =
        after_room 0 1 (spends_some 1 m s (with_new name (tables_now m)) made (omega arith)
        (let next = next_new name (tables_now m) in omega (arith, next)) refl)
    spends_new name (Err fault) made same = after_room 0 1 (spends_none 0 1 m s same)

    -- a file got another name, or not
    pub spends_renamed : (from to : List ℕ) (id : ℕ) (r : Result (Unit {0}) Fault)
        → OnOk r (tables_now s ≡ with_renamed from to id (tables_now m)) → OnErr r (tables_now s ≡ tables_now m)
        → Spends 0 0 t s
    spends_renamed from to id (Ok done) renamed same =
        after_room 0 0 (spends_some 0 m s (with_renamed from to id (tables_now m)) renamed
        (omega arith) (omega arith) refl)
    spends_renamed from to id (Err fault) renamed same = after_room 0 0 (spends_none 0 0 m s same)

    -- a file went
    pub spends_gone : (name : List ℕ) (id : ℕ) → tables_now s ≡ without_name name id (tables_now m) → Spends 0 0 t s
    spends_gone name id gone =
        after_room 0 0 (spends_some 0 m s (without_name name id (tables_now m)) gone
        (named_kept (λ k. not (k.0 == id)) (tables_now m)) (omega arith) refl)

    -- a file got another length
    pub spends_resized : (id len : ℕ) (file : FileRecord) → tables_now s ≡ resized_in id file len (tables_now m)
        → Spends 0 0 t s
    spends_resized id len file resized =
        let same : beside (resized_in id file len (tables_now m)) ≡ beside (tables_now m) =
        beside_cut (nat_lt len file.length) id len (tables_now m) in
        let next = ap (λ (p : Beside). id_after (find single_cmp tt p.0)) same in
        after_room 0 0 (spends_some 0 m s (resized_in id file len (tables_now m)) resized
        (named_resized id len file (tables_now m) (sorted_now m)) (omega (arith, next))
        (ap (λ (p : Beside). p.1) same))

    -- bytes were written, or not
    pub spends_written : (at : ℕ) (bytes : List ℕ) → 0 < length bytes → Spends (touched at (length bytes)) 0 m s
        → Spends (touched_at at bytes) 0 t s
    spends_written at [] some spends = absurd (omega (arith, some))
    spends_written at (b ∷ bytes) some spends = after_room (touched at (length (b ∷ bytes))) 0 spends

  -- a block of a file was set
  pub spends_block : (a b : Tables D d) (k : FileBlock) (e : Extent)
      → tables_now b ≡ with_extent k e (tables_now a) → Spends 1 0 a b
  spends_block a b k e set = record {
    named =
        let same = ap (λ (t : Typed). named_in t) set in
        let put = named_put k e (tables_now a) (sorted_now a) in
        omega (arith, same, put);
    drawn = let same = ap (λ (t : Typed). next_id_of t) set in omega (arith, same);
    same = ap aside set;
  }

  -- the record of a file was set
  pub spends_record : (a b : Tables D d) (id : ℕ) (file : FileRecord)
      → tables_now b ≡ with_file id file (tables_now a) → Spends 0 0 a b
  spends_record a b id file set =
      spends_some 0 a b (with_file id file (tables_now a)) set (omega arith) (omega arith) refl
