-- What an inside becomes, where the tables and the disk change so.
use Rattle.std.specs.Prelude.{◌≡◌, ◌≤◌, ◌<◌, ◌+◌, ◌-◌, ◌*◌, ◌/◌, ◌%◌, ◌==◌, ◌&&◌, ℕ, suc, Bool, true, false, cond, not}
use Rattle.std.specs.Prelude.{nat_lt, T, List, [], ◌∷◌, length, take, get_or, map, min, max, Option, Some, None}
use Rattle.std.specs.Prelude.{refl}
use Rattle.std.proofs.Common.{inl, inr, ◌∙◌, ap, sym, arith}
use Rattle.std.proofs.lemmas.Bool.{le-leb, eq-eqb}
use Rattle.std.proofs.lemmas.List.{take-take, take_all, length-take, length-take-le, get_or-take}
use Rattle.std.proofs.lemmas.List.FromFn.{length-map-range_with_len, get_or-map-range_with_len}
use Rattle.std.proofs.lemmas.Grind.{same_number_lists}
use Rattle.std.specs.List.{range_with_len}
use Rattle.std.specs.declared.cmp.Ordering.TheVariants.{Less, Equal, Greater}
use Rattle.std.specs.Ordering.{nat_cmp}
use Rattle.std.specs.Option.{option_map}
use Rattle.std.specs.FinMap.{find, put, is_sorted}
use Rattle.std.specs.FinMap.Entries.{by_order, where_key, is_sorted-put}
use Rattle.vdisk.specs.declared.disk.Disk.{Ghosts}
use Rattle.byte_map.specs.Words.{bytes_cmp}
use Rattle.table_records.specs.Keys.{pair_cmp}
use Rattle.table_records.specs.Orders.{pair_total}
use Rattle.table_records.specs.declared.records.FileRecord.{FileRecord}
use Rattle.table_records.specs.declared.records.Extent.{Extent}
use Rattle.volume_inside.specs.Changes.{with_file, keep_extents, with_block}
use Rattle.volume_inside.specs.Inside.{Inside, inside_at, block_of, blocks_of, cluster_bytes}
use Rattle.volume_inside.specs.Typed.{Typed, FileBlock}
use Rattle.volume_inside.proofs.Blocks.{blocks-put, blocks-where_key}
use Rattle.volume_tables.specs.Tables.{tables_now, inside_now, disk_of}
use Rattle.volume_tables.specs.declared.tables.Tables.{Tables}
use Rattle.volume_files.specs.Insides.{Blocks, of_id, of_record, cut_one, blocks_cut_if, file_resized}
use Rattle.volume_files.specs.Insides.{id_renamed, id_deleted, id_resized, inside_created, inside_renamed}
use Rattle.volume_files.specs.Insides.{inside_deleted, inside_resized, block_written, blocks_written, with_blocks}
use Rattle.volume_files.specs.Insides.{file_written, id_written, stood_at}
use Rattle.volume_files.specs.Lengths.{cut_extent, with_extent_if, lies_behind, cut_if, record_resized, resized_in}
use Rattle.volume_files.specs.Names.{with_new, with_renamed, without_name}
use Rattle.volume_files.specs.Needs.{touched}
use Rattle.volume_files.specs.Edges.{edge_byte, AreEdgesOf}
use Rattle.volume_files.specs.declared.edges.Edges.{Edges}
use Rattle.volume_files.specs.Writing.{laid, reaching, blocks_up_to}
use Rattle.volume_files.proofs.CutExtents.{exact_blocks, cut_means, cut_none}
use Rattle.volume_files.proofs.Extents.{same_found, found_put, found_beside}
use Rattle.volume_files.proofs.EdgeBytes.{edge_stood}
use Rattle.volume_files.proofs.Laid.{blocks_alike}
use Rattle.volume_files.proofs.Owned.{find-blocks}

-- ---- a call that changed the tables over an image that stayed, once room was made

module _ {D : Type 0} {d : Ghosts D} (t m p : Tables D d) (inside : inside_now m ≡ inside_now t)
    (image : (disk_of p).image ≡ (disk_of m).image) where
  pub inside_left : (change : Inside → Inside) (q : Typed) → inside_at q (disk_of m).image ≡ change (inside_now m)
      → tables_now p ≡ q → inside_now p ≡ change (inside_now t)
  inside_left change q means is = (λ i. inside_at (is i) (image i)) ∙ means ∙ ap change inside

  pub inside_unleft : tables_now p ≡ tables_now m → inside_now p ≡ inside_now t
  inside_unleft is = (λ i. inside_at (is i) (image i)) ∙ inside

-- ---- names

module _ (t : Typed) (image : List ℕ) where
  pub inside_new : (name : List ℕ) → inside_at (with_new name t) image ≡ inside_created name (inside_at t image)
  inside_new name = refl

  pub inside_other : (from to : List ℕ) (id : ℕ) → find bytes_cmp from t.names ≡ Some id
      → inside_at (with_renamed from to id t) image ≡ inside_renamed from to (inside_at t image)
  inside_other from to id named =
      sym (ap (λ (o : Option ℕ). of_id o (λ x. id_renamed from to x (inside_at t image)) (inside_at t image)) named)

  pub inside_gone : (name : List ℕ) (id : ℕ) → find bytes_cmp name t.names ≡ Some id
      → inside_at (without_name name id t) image ≡ inside_deleted name (inside_at t image)
  inside_gone name id named =
      (λ i. record (id_deleted name id (inside_at t image)) {
        blocks = blocks-where_key (λ k. not (k.0 == id)) t.extents image i;
      })
      ∙ sym (ap (λ (o : Option ℕ). of_id o (λ x. id_deleted name x (inside_at t image)) (inside_at t image)) named)

-- ---- lengths

-- an entry of a key that is dropped may be another one
dropped_anyway : (test : FileBlock → Bool) (k : FileBlock) (bytes : List ℕ) (blocks : Blocks) → test k ≡ false
    → where_key pair_cmp test (put pair_cmp k bytes blocks) ≡ where_key pair_cmp test blocks
dropped_anyway test k bytes [] out = ap (λ (b : Bool). cond b ((k, bytes) ∷ []) []) out
dropped_anyway test k bytes (x ∷ blocks) out =
    elim (pair_cmp k x.0) as (λ r. pair_cmp k x.0 ≡ r
    → where_key pair_cmp test (by_order r ((k, bytes) ∷ x ∷ blocks) ((x.0, bytes) ∷ blocks)
    (x ∷ put pair_cmp k bytes blocks))
    ≡ where_key pair_cmp test (x ∷ blocks)) [
      | Less ↦ λ is. ap (λ (b : Bool). cond b ((k, bytes) ∷ where_key pair_cmp test (x ∷ blocks))
          (where_key pair_cmp test (x ∷ blocks))) out
      | Equal ↦ λ is. (let here : test x.0 ≡ false = ap test (sym (exact_blocks k x.0 is)) ∙ out in
          ap (λ (b : Bool). cond b ((x.0, bytes) ∷ where_key pair_cmp test blocks) (where_key pair_cmp test blocks))
          here
          ∙ sym (ap (λ (b : Bool). cond b (x ∷ where_key pair_cmp test blocks) (where_key pair_cmp test blocks)) here))
      | Greater ↦ λ is. (let later = dropped_anyway test k bytes blocks out in
          λ i. cond (test x.0) (x ∷ later i) (later i))
    ] (λ i. pair_cmp k x.0)

-- an extent that is there may be put once more
put_same : (k : FileBlock) (e : Extent) (es : List (FileBlock × Extent)) → T (is_sorted pair_cmp es)
    → find pair_cmp k es ≡ Some e → put pair_cmp k e es ≡ es
put_same k e es sorted found =
    same_found k (put pair_cmp k e es) es (is_sorted-put pair_cmp pair_total k e es sorted) sorted
    (found_put k e es ∙ sym found) (λ q differ. found_beside q k e es differ)

taken_small : (v n : ℕ) (xs : List ℕ) → v ≤ n → take n (take v xs) ≡ take v xs
taken_small v n xs low = take_all n (take v xs) (let size = length-take v xs in omega (arith, size, low))

module _ (id len : ℕ) (t : Typed) (image : List ℕ) (sorted : T (is_sorted pair_cmp t.extents)) where
  abbrev key : FileBlock
  key = (id, len / 4096)

  abbrev test : FileBlock → Bool
  test k = not (lies_behind id len k)

  abbrev rest : ℕ
  rest = len % 4096

  key_behind : rest ≡ 0 → test key ≡ false
  key_behind none =
      let low : len ≤ 4096 * (len / 4096) = omega (arith, none) in
      (λ i. not (eq-eqb id id refl i && le-leb len (4096 * (len / 4096)) low i))

  -- the blocks of the extents, with the last one cut
  end_blocks : (was : Option Extent) → find pair_cmp key t.extents ≡ was
      → where_key pair_cmp test (blocks_of (with_extent_if key (cut_extent rest was) t).extents image)
      ≡ where_key pair_cmp test (cut_one key rest (option_map (λ e. block_of e image) was) (blocks_of t.extents image))
  end_blocks None is = refl
  end_blocks (Some e) is = by (cut_extent rest (Some e)) refl
    where
      bytes : List ℕ
      bytes = cluster_bytes e.cluster image

      by : (o : Option Extent) → cut_extent rest (Some e) ≡ o
          → where_key pair_cmp test (blocks_of (with_extent_if key o t).extents image)
          ≡ where_key pair_cmp test (put pair_cmp key (take rest (block_of e image)) (blocks_of t.extents image))
      by None whole = elim (cut_none rest e whole) [
        | inl none ↦ sym (dropped_anyway test key (take rest (block_of e image)) (blocks_of t.extents image)
            (key_behind none))
        | inr small ↦ ap (λ (bs : Blocks). where_key pair_cmp test bs)
            (sym (ap (λ (es : List (FileBlock × Extent)). blocks_of es image) (put_same key e t.extents sorted is))
            ∙ blocks-put key e t.extents image
            ∙ ap (λ (b : List ℕ). put pair_cmp key b (blocks_of t.extents image))
            (sym (taken_small e.valid rest bytes small)))
      ]
      by (Some x) cut =
          let of = cut_means rest (Some e) x cut in
          let old : e ≡ of.old = (let same : Some e ≡ Some of.old = of.there in cc) in
          let few = of.fewer in
          let one : e.valid ≡ of.old.valid = ap (λ (y : Extent). y.valid) old in
          let less : rest ≤ e.valid = omega (arith, few, one) in
          let cluster : x.cluster ≡ e.cluster = of.cluster ∙ ap (λ (y : Extent). y.cluster) (sym old) in
          ap (λ (bs : Blocks). where_key pair_cmp test bs)
          (blocks-put key x t.extents image
          ∙ ap (λ (b : List ℕ). put pair_cmp key b (blocks_of t.extents image))
          ((λ i. take (of.valid i) (cluster_bytes (cluster i) image)) ∙ sym (take-take rest e.valid bytes less)))

  cut_blocks : (b : Bool)
      → blocks_of (cut_if b id len t).extents image ≡ blocks_cut_if b id len (blocks_of t.extents image)
  cut_blocks false = refl
  cut_blocks true =
      blocks-where_key test (with_extent_if key (cut_extent rest (find pair_cmp key t.extents)) t).extents image
      ∙ end_blocks (find pair_cmp key t.extents) refl
      ∙ ap (λ (o : Option (List ℕ)). where_key pair_cmp test (cut_one key rest o (blocks_of t.extents image)))
      (sym (find-blocks key t.extents image))

  end_alone : (o : Option Extent) → with_extent_if key o t ≡ record t { extents = (with_extent_if key o t).extents }
  end_alone None = refl
  end_alone (Some x) = refl

  cut_alone : (b : Bool) → cut_if b id len t ≡ record t { extents = (cut_if b id len t).extents }
  cut_alone false = refl
  cut_alone true =
      ap (λ (q : Typed). keep_extents test q) (end_alone (cut_extent rest (find pair_cmp key t.extents)))

  file_is_resized : (file : FileRecord)
      → inside_at (resized_in id file len t) image ≡ file_resized id len file (inside_at t image)
  file_is_resized file =
      ap (λ (q : Typed). inside_at (with_file id (record_resized len file) q) image)
      (cut_alone (nat_lt len file.length))
      ∙ (λ i. record (inside_at t image) {
        files = put nat_cmp id (record_resized len file) t.files;
        blocks = cut_blocks (nat_lt len file.length) i;
      })

  pub inside_cut : (name : List ℕ) (file : FileRecord) → find bytes_cmp name t.names ≡ Some id
      → find nat_cmp id t.files ≡ Some file
      → inside_at (resized_in id file len t) image ≡ inside_resized name len (inside_at t image)
  inside_cut name file named there =
      let i = inside_at t image in
      file_is_resized file
      ∙ sym (ap (λ (o : Option ℕ). of_id o (λ x. id_resized x len i) i) named
      ∙ ap (λ (o : Option FileRecord). of_record o (λ f. file_resized id len f i) i) there)

-- ---- bytes

-- the bytes of a block up to the file's end, each of which was laid or stood there
pub block_is_written : (len at index : ℕ) (bytes block : List ℕ) (valid : ℕ) (stood : ℕ → ℕ)
    → length block ≡ 4096 → valid ≡ min 4096 (len - 4096 * index)
    → ((o : ℕ) → o < 4096 → get_or block o 0 ≡ laid at bytes (4096 * index + o) (stood (4096 * index + o)))
    → take valid block ≡ block_written len at bytes stood index
block_is_written len at index bytes block valid stood whole is written =
    same_number_lists (take valid block) (map byte (range_with_len 0 (min 4096 (len - 4096 * index))))
    (size ∙ is ∙ sym (length-map-range_with_len byte 0 (min 4096 (len - 4096 * index))))
    (λ k low.
    let under : k < valid = omega (arith, low, size) in
    get_or-take valid block k 0 under ∙ written k (omega (arith, under, is))
    ∙ sym (get_or-map-range_with_len byte 0 (min 4096 (len - 4096 * index)) k k 0 (omega (arith, under, is))
    (omega arith)))
  where
    byte : ℕ → ℕ
    byte o = laid at bytes (4096 * index + o) (stood (4096 * index + o))

    size : length (take valid block) ≡ valid
    size = length-take-le valid block (omega (arith, whole, is))

-- blocks from one on, once the first of them was set and then the later ones
pub blocks_then : (id len at : ℕ) (bytes : List ℕ) (stood : ℕ → ℕ) (index to : ℕ) (i j : Inside) (block : List ℕ)
    → 4096 * index < to → j ≡ with_block (id, index) block i → block ≡ block_written len at bytes stood index
    → with_blocks (blocks_written id len at bytes stood (index + 1) (blocks_up_to to (index + 1)) j.blocks) j
    ≡ with_blocks (blocks_written id len at bytes stood index (blocks_up_to to index) i.blocks) i
blocks_then id len at bytes stood index to i j block low set written =
    let more : suc (blocks_up_to to (index + 1)) ≡ blocks_up_to to index = omega (arith, low) in
    ap (λ (x : Inside). with_blocks (blocks_written id len at bytes stood (index + 1) (blocks_up_to to (index + 1))
    x.blocks) x)
    (set ∙ ap (λ (b : List ℕ). with_block (id, index) b i) written)
    ∙ ap (λ (n : ℕ). with_blocks (blocks_written id len at bytes stood index n i.blocks) i) more

-- the record of the file after its blocks
pub file_then : {D : Type 0} {d : Ghosts D} (t b s : Tables D d) (id at : ℕ) (grown was : FileRecord) (bytes : List ℕ)
    (edges : Edges) → tables_now s ≡ with_file id grown (tables_now b) → (disk_of s).image ≡ (disk_of b).image
    → find nat_cmp id (tables_now t).files ≡ Some was → grown ≡ reaching (at + length bytes) was → 0 < length bytes
    → AreEdgesOf (inside_now t) id at (length bytes) edges was
    → inside_now b ≡ with_blocks (blocks_written id grown.length at bytes (edge_byte edges at) (at / 4096)
    (blocks_up_to (at + length bytes) (at / 4096)) (inside_now t).blocks) (inside_now t)
    → inside_now s ≡ id_written id at bytes (inside_now t)
file_then t b s id at grown was [] edges set image found is some are blocks = absurd (omega (arith, some))
file_then t b s id at grown was (x ∷ xs) edges set image found is some are blocks =
    let i = inside_now t in
    let bytes = x ∷ xs in
    let len : ℕ = max was.length (at + length bytes) in
    let n : ℕ = touched at (length bytes) in
    let count : blocks_up_to (at + length bytes) (at / 4096) ≡ touched at (length bytes) = omega (arith, some) in
    let stood = blocks_alike id len at bytes (edge_byte edges at) (stood_at i id was)
    (edge_stood i id at (length bytes) edges was are) n (at / 4096) i.blocks (omega arith) (omega arith) in
    (λ k. inside_at (set k) (image k))
    ∙ ap (λ (j : Inside). record j { files = put nat_cmp id grown j.files }) blocks
    ∙ (λ k. record i {
      files = put nat_cmp id (is k) i.files;
      blocks = blocks_written id (is k).length at bytes (edge_byte edges at) (at / 4096) (count k) i.blocks;
    })
    ∙ (λ k. record i {
      files = put nat_cmp id (reaching (at + length bytes) was) i.files;
      blocks = stood k;
    })
    ∙ sym (ap (λ (o : Option FileRecord). of_record o (λ f. file_written id at bytes f i) i) found)
