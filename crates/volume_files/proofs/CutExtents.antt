-- The extents of a file that is cut, and the rules that its tables keep.
use Rattle.std.specs.Prelude.{◌≡◌, ◌⊎◌, ◌≤◌, ◌<◌, ◌+◌, ◌*◌, ◌/◌, ◌%◌, ◌&&◌, ◌==◌, ℕ, Bool, true, false, cond, not, min, nat_eq, nat_le, nat_lt, if◌then◌else◌, IsSomeAnd, T, List, [], ◌∷◌, Option, Some, None, refl}
use Rattle.std.proofs.Common.{sym, ◌∙◌, ap, subst, inl, inr, arith}
use Rattle.std.specs.declared.cmp.Ordering.{Ordering}
use Rattle.std.specs.declared.cmp.Ordering.TheVariants.{Less, Equal, Greater}
use Rattle.std.specs.Ordering.{nat_cmp, is_eq, is_lt, is_le, eq_by_cmp, ordering_then}
use Rattle.std.specs.Cmp.{ranked, tied_itself}
use Rattle.std.specs.FinMap.{find, is_sorted, nat_cmp-IsAntisymmetric}
use Rattle.std.specs.FinMap.Entries.{below_all, find-put, find-where_key, is_sorted-put, is_sorted-where_key, put, where_key}
use Rattle.std.proofs.lemmas.Bool.{cases_eq, ltb-true, ltb-false, leb-false, le-leb, lt-leb, eq-eqb, eqb-true, ne_eqb, and_parts, and_left}
use Rattle.std.proofs.lemmas.Bool.Decides.{nat_tests}
use Rattle.std.proofs.lemmas.Map.Lookups.{exact_pairs, exact_unsigned}
use Rattle.plain_volume.specs.declared.limits.TheConstants.{MOST_BYTES_OF_A_FILE}
use Rattle.table_records.specs.Changes.{is_in_range}
use Rattle.table_records.specs.Keys.{single_cmp, pair_cmp}
use Rattle.table_records.specs.Orders.{pair_total}
use Rattle.table_records.specs.declared.records.VolumeRecord.{VolumeRecord}
use Rattle.table_records.specs.declared.records.FileRecord.{FileRecord}
use Rattle.table_records.specs.declared.records.Extent.{Extent}
use Rattle.table_records.specs.declared.chunk_records.Row.{Row}
use Rattle.volume_inside.specs.Bases.{Bases, base_cell, cell_of_record}
use Rattle.volume_inside.specs.ChunkRules.{CoverHolds, IsMapRow, MapRowHolds}
use Rattle.volume_inside.specs.Changes.{with_file, keep_extents}
use Rattle.volume_inside.specs.Entries.{Each, each_found}
use Rattle.volume_inside.specs.Layout.{IsDataCluster}
use Rattle.volume_inside.specs.Rules.{id_after, next_id_of, FileHolds, LiesIn, ExtentHolds, RulesHold}
use Rattle.volume_inside.specs.Space.{IsSpaced}
use Rattle.volume_inside.specs.Typed.{Typed, FileBlock}
use Rattle.groundwork.proofs.Bools.{first_true, second_true}
use Rattle.volume_inside.proofs.Lawfuls.{rules_with_extent, rules_keep_extents, rules_with_file}
use Rattle.volume_inside.proofs.Spaces.{spaced_same}
use Rattle.volume_files.specs.Lengths.{cut_extent, with_extent_if, lies_behind, cut_if, record_resized, resized_in}
use Rattle.volume_files.specs.Needs.{names_more}

pub exact_blocks : (a b : FileBlock) → pair_cmp a b ≡ Equal → a ≡ b
exact_blocks = exact_pairs nat_cmp nat_cmp exact_unsigned exact_unsigned

-- ---- the range that is dropped

le_test : (a b c d : ℕ) → (a ≤ b → c ≤ d) → (b < a → d < c) → is_le (nat_cmp a b) ≡ nat_le c d
le_test a b c d within beyond = by (nat_cmp a b) refl
  where
    by : (r : Ordering) → nat_cmp a b ≡ r → is_le r ≡ nat_le c d
    by Less is = sym (le-leb c d (within (let less : a < b = ranked a b Less (sym is) in omega (arith, less))))
    by Equal is = sym (le-leb c d (within (let same : a ≡ b = ranked a b Equal (sym is) in omega (arith, same))))
    by Greater is = sym (lt-leb c d (beyond (ranked a b Greater (sym is))))

-- the blocks of a file from the first one behind its end on, up to the next file
pub range_is_behind : (id len : ℕ) (k : FileBlock)
    → is_in_range pair_cmp (id, (len + 4095) / 4096) (Some (id + 1, 0)) k ≡ lies_behind id len k
range_is_behind id len k = by (nat_cmp id k.0) (nat_cmp k.0 (id + 1)) refl refl
  where
    first : ℕ
    first = (len + 4095) / 4096

    by : (r s : Ordering) → nat_cmp id k.0 ≡ r → nat_cmp k.0 (id + 1) ≡ s
        → (is_le (ordering_then r (nat_cmp ((len + 4095) / 4096) k.1)) && is_lt (ordering_then s (nat_cmp k.1 0)))
        ≡ ((k.0 == id) && nat_le len (4096 * k.1))
    by Less Less low high =
        let one : id < k.0 = ranked id k.0 Less (sym low) in
        let two : k.0 < id + 1 = ranked k.0 (id + 1) Less (sym high) in
        absurd (omega (arith, one, two))
    by Less Equal low high =
        let one : id < k.0 = ranked id k.0 Less (sym low) in
        none_below_zero ∙ sym (and_left (k.0 == id) (nat_le len (4096 * k.1))
        (ne_eqb k.0 id (λ same. omega (arith, one, same))))
      where
        none_below_zero : is_lt (nat_cmp k.1 0) ≡ false
        none_below_zero = zero_is_least (nat_cmp k.1 0) refl
          where
            zero_is_least : (r : Ordering) → nat_cmp k.1 0 ≡ r → is_lt r ≡ false
            zero_is_least Less is = absurd (let below : k.1 < 0 = ranked k.1 0 Less (sym is) in omega (arith, below))
            zero_is_least Equal is = refl
            zero_is_least Greater is = refl
    by Less Greater low high =
        let one : id < k.0 = ranked id k.0 Less (sym low) in
        sym (and_left (k.0 == id) (nat_le len (4096 * k.1)) (ne_eqb k.0 id (λ same. omega (arith, one, same))))
    by Equal Less low high =
        let one : id ≡ k.0 = ranked id k.0 Equal (sym low) in
        let test = le_test ((len + 4095) / 4096) k.1 len (4096 * k.1) (λ le. omega (arith, le))
        (λ lt. omega (arith, lt)) in
        and_true (is_le (nat_cmp ((len + 4095) / 4096) k.1)) ∙ test
        ∙ sym (ap (λ (b : Bool). b && nat_le len (4096 * k.1)) (eq-eqb k.0 id (sym one)))
      where
        and_true : (b : Bool) → (b && true) ≡ b
        and_true true = refl
        and_true false = refl
    by Equal Equal low high =
        let one : id ≡ k.0 = ranked id k.0 Equal (sym low) in
        let two : k.0 ≡ id + 1 = ranked k.0 (id + 1) Equal (sym high) in
        absurd (omega (arith, one, two))
    by Equal Greater low high =
        let one : id ≡ k.0 = ranked id k.0 Equal (sym low) in
        let two : id + 1 < k.0 = ranked k.0 (id + 1) Greater (sym high) in
        absurd (omega (arith, one, two))
    by Greater s low high =
        let one : k.0 < id = ranked id k.0 Greater (sym low) in
        sym (and_left (k.0 == id) (nat_le len (4096 * k.1)) (ne_eqb k.0 id (λ same. omega (arith, one, same))))

-- ---- a record that is cut

-- its base, if any is left, is that of the record before
module _ (len : ℕ) (file : FileRecord) where
  abbrev left : ℕ
  left = min file.covers len

  abbrev row_left : Bool → ℕ
  row_left b = if b then 0 else file.map_row

  pub cover_resized : CoverHolds file → CoverHolds (record_resized len file)
  cover_resized holds = record {
    within = omega arith;
    no_map = λ none. ap row_left (eq-eqb left 0 none);
    no_cover = no_cover (nat_eq left 0) (eqb-true left 0);
  }
    where
      no_cover : (b : Bool) → (b ≡ true → left ≡ 0) → row_left b ≡ 0 → left ≡ 0
      no_cover true none row = none refl
      no_cover false none row = (let covers = holds.no_cover row in omega (arith, covers))

  pub map_row_resized : (rows : List (ℕ × Row)) (id : ℕ) → MapRowHolds rows id file
      → MapRowHolds rows id (record_resized len file)
  map_row_resized rows id holds = by (nat_eq left 0)
    where
      by : (b : Bool) → (row_left b ≡ 0 → ⊥) → IsSomeAnd (find nat_cmp (row_left b) rows) IsMapRow
      by true some = absurd (some refl)
      by false some = holds some

  -- before the end it gives the same cells
  pub base_resized : (b : Bases) (p : ℕ) → p < len → base_cell b (record_resized len file) p ≡ base_cell b file p
  base_resized b p low =
      cell_of_record b file (record_resized len file) p (grind (arith, nat_tests))
      (λ covered. ap row_left (ne_eqb left 0 (λ none. omega (arith, none, covered, low))))

-- ---- an extent that is cut

-- it has the same cluster, and fewer bytes, but some
pub record IsCutOf (rest : ℕ) (was : Option Extent) (e : Extent) : Type 0 where
  pub old : Extent
  pub there : was ≡ Some old
  pub cluster : e.cluster ≡ old.cluster
  pub valid : e.valid ≡ rest
  pub some : 0 < rest
  pub fewer : rest < old.valid

pub cut_means : (rest : ℕ) (was : Option Extent) (e : Extent) → cut_extent rest was ≡ Some e → IsCutOf rest was e
cut_means rest None e is = absurd (let clash : None ≡ Some e = is in cc)
cut_means rest (Some o) e is = by (nat_lt 0 rest && nat_lt rest o.valid) refl is
  where
    by : (b : Bool) → (nat_lt 0 rest && nat_lt rest o.valid) ≡ b
        → cond b (Some (record { cluster = o.cluster; valid = rest })) None ≡ Some e
        → IsCutOf rest (Some o) e
    by false test at = absurd (let clash : None ≡ Some e = at in cc)
    by true test at =
        let same : record { cluster = o.cluster; valid = rest } ≡ e = cc in
        let both = and_parts (nat_lt 0 rest) (nat_lt rest o.valid) test in
        record {
          old = o;
          there = refl;
          cluster = ap (λ (x : Extent). x.cluster) (sym same);
          valid = ap (λ (x : Extent). x.valid) (sym same);
          some = ltb-true 0 rest both.0;
          fewer = ltb-true rest o.valid both.1;
        }

-- one that is not cut has no more bytes, or none are left
pub cut_none : (rest : ℕ) (o : Extent) → cut_extent rest (Some o) ≡ None → (rest ≡ 0) ⊎ (o.valid ≤ rest)
cut_none rest o is = by (nat_lt 0 rest) (nat_lt rest o.valid) refl refl is
  where
    by : (a b : Bool) → nat_lt 0 rest ≡ a → nat_lt rest o.valid ≡ b
        → cond {A = Option Extent} (a && b) (Some (record { cluster = o.cluster; valid = rest })) None ≡ None
        → (rest ≡ 0) ⊎ (o.valid ≤ rest)
    by false b none some at = inl (let le = ltb-false 0 rest none in omega (arith, le))
    by true false none some at = inr (ltb-false rest o.valid some)
    by true true none some at = absurd
        (let e : Extent = record { cluster = o.cluster; valid = rest } in let clash : Some e ≡ None = at in cc)

pub cut_is_cut : (rest : ℕ) (was : Option Extent) (e : Extent) → cut_extent rest was ≡ Some e → names_more rest was ≡ true
cut_is_cut rest None e is = absurd (let clash : None ≡ Some e = is in cc)
cut_is_cut rest (Some o) e is = by (nat_lt 0 rest && nat_lt rest o.valid) is
  where
    by : (b : Bool) → cond b (Some (record { cluster = o.cluster; valid = rest })) None ≡ Some e → b ≡ true
    by true at = refl
    by false at = absurd (let clash : None ≡ Some e = at in cc)

pub uncut_is_not : (rest : ℕ) (was : Option Extent) → cut_extent rest was ≡ None → names_more rest was ≡ false
uncut_is_not rest None is = refl
uncut_is_not rest (Some o) is = by (nat_lt 0 rest && nat_lt rest o.valid) is
  where
    by : (b : Bool) → ◌≡◌ {A = Option Extent} (cond b (Some (record { cluster = o.cluster; valid = rest })) None) None
        → b ≡ false
    by true at =
        absurd (let e : Extent = record { cluster = o.cluster; valid = rest } in let clash : Some e ≡ None = at in cc)
    by false at = refl

-- ---- entries in order

none_below : (k : FileBlock) (es : List (FileBlock × Extent)) → T (below_all pair_cmp k es) → find pair_cmp k es ≡ None
none_below k [] low = refl
none_below k (x ∷ es) low =
    ap (λ (r : Ordering). cond (is_eq r) (Some x.1) (find pair_cmp k es))
    (is_less (pair_cmp k x.0) (first_true _ _ low))
    ∙ none_below k es (second_true (is_lt (pair_cmp k x.0)) _ low)
  where
    is_less : (o : Ordering) → T (is_lt o) → o ≡ Less
    is_less Less p = refl
    is_less Equal p = absurd p
    is_less Greater p = absurd p

-- what holds of all that is found holds of each entry
pub each_by_find : (P : FileBlock → Extent → Type 0) (es : List (FileBlock × Extent)) → T (is_sorted pair_cmp es)
    → ((k : FileBlock) (e : Extent) → find pair_cmp k es ≡ Some e → P k e) → Each P es
each_by_find P [] sorted holds = tt
each_by_find P (x ∷ es) sorted holds = (
  holds x.0 x.1 (ap (λ (r : Ordering). cond (is_eq r) (Some x.1) (find pair_cmp x.0 es)) (tied_itself pair_total x.0)),
  each_by_find P es (second_true (below_all pair_cmp x.0 es) _ sorted) (λ k e found. holds k e (later k e found)),
)
  where
    later : (k : FileBlock) (e : Extent) → find pair_cmp k es ≡ Some e → find pair_cmp k (x ∷ es) ≡ Some e
    later k e found = by (pair_cmp k x.0) refl
      where
        by : (r : Ordering) → pair_cmp k x.0 ≡ r → cond (is_eq r) (Some x.1) (find pair_cmp k es) ≡ Some e
        by Less is = found
        by Greater is = found
        by Equal is =
            let none = none_below k es (subst (λ (y : FileBlock). T (below_all pair_cmp y es))
            (sym (exact_blocks k x.0 is)) (first_true (below_all pair_cmp x.0 es) _ sorted)) in
            absurd (let clash : None ≡ Some e = sym none ∙ found in cc)

-- ---- what is found once a file is cut

module _ (id len : ℕ) (t : Typed) where
  abbrev key : FileBlock
  key = (id, len / 4096)

  abbrev test : FileBlock → Bool
  test k = not (lies_behind id len k)

  -- the tables with a block cut, or not
  abbrev pub cut_to : Option Extent → Typed
  cut_to c = keep_extents test (with_extent_if key c t)

  pub found_kept : (k : FileBlock) (es : List (FileBlock × Extent))
      → find pair_cmp k (where_key pair_cmp test es) ≡ cond (test k) (find pair_cmp k es) None
  found_kept k es = find-where_key pair_cmp test k (λ x tie. ap test (sym (exact_blocks k x tie))) es

  pub passes : (k : FileBlock) → (k.0 ≡ id → 4096 * k.1 < len) → test k ≡ true
  passes k low = by (k.0 == id) refl
    where
      by : (b : Bool) → (k.0 == id) ≡ b → not (b && nat_le len (4096 * k.1)) ≡ true
      by false is = refl
      by true is = ap not (lt-leb len (4096 * k.1) (low (eqb-true k.0 id is)))

  passed : (k : FileBlock) → test k ≡ true → k.0 ≡ id → 4096 * k.1 < len
  passed k is same = by (nat_le len (4096 * k.1)) refl
      (sym (ap (λ (b : Bool). not (b && nat_le len (4096 * k.1))) (eq-eqb k.0 id same)) ∙ is)
    where
      by : (b : Bool) → nat_le len (4096 * k.1) ≡ b → not b ≡ true → 4096 * k.1 < len
      by true at none = absurd (let clash : false ≡ true = none in cc)
      by false at none = leb-false len (4096 * k.1) at

  found_once : (k : FileBlock) (e : Extent) (o : Option Extent) → cond (test k) o None ≡ Some e
      → (test k ≡ true) × (o ≡ Some e)
  found_once k e o is = by (test k) refl is
    where
      by : (b : Bool) → test k ≡ b → cond b o None ≡ Some e → (test k ≡ true) × (o ≡ Some e)
      by true passes at = (passes, at)
      by false passes at = absurd (let clash : None ≡ Some e = at in cc)

  -- a block of the file that is found ends within its length
  pub ends_within : (c : Option Extent) → cut_extent (len % 4096) (find pair_cmp key t.extents) ≡ c
      → (k : FileBlock) (e : Extent)
      → find pair_cmp k (cut_to c).extents ≡ Some e → e.valid ≤ 4096 → k.0 ≡ id → 4096 * k.1 + e.valid ≤ len
  ends_within c is k e found short same = elim (cases_eq k.1 (len / 4096)) [
    | inr other ↦ (let low = passed k both.0 same in omega (arith, low, other, short))
    | inl last ↦ at_end c is both.1 last
  ]
    where
      both : (test k ≡ true) × (find pair_cmp k (with_extent_if key c t).extents ≡ Some e)
      both = found_once k e (find pair_cmp k (with_extent_if key c t).extents)
          (sym (found_kept k (with_extent_if key c t).extents) ∙ found)

      at_end : (c : Option Extent) → cut_extent (len % 4096) (find pair_cmp key t.extents) ≡ c
          → find pair_cmp k (with_extent_if key c t).extents ≡ Some e → k.1 ≡ len / 4096 → 4096 * k.1 + e.valid ≤ len
      at_end None none at last =
          let mine : k ≡ key = λ i. (same i, last i) in
          let there : find pair_cmp key t.extents ≡ Some e =
          ap (λ (x : FileBlock). find pair_cmp x t.extents) (sym mine) ∙ at in
          let low = passed k both.0 same in
          elim (cut_none (len % 4096) e (sym (ap (cut_extent (len % 4096)) there) ∙ none)) [
            | inl zero_rest ↦ absurd (omega (arith, low, last, zero_rest))
            | inr small ↦ omega (arith, small, last)
          ]
      at_end (Some x) cut at last =
          let mine : k ≡ key = λ i. (same i, last i) in
          let tie : eq_by_cmp pair_cmp k key ≡ true = ap (λ (y : FileBlock). eq_by_cmp pair_cmp y key) mine
          ∙ ap is_eq (tied_itself pair_total key) in
          let now : find pair_cmp k (put pair_cmp key x t.extents) ≡ Some x =
          find-put pair_cmp pair_total k key x t.extents
          ∙ ap (λ (b : Bool). cond b (Some x) (find pair_cmp k t.extents)) tie in
          let one : Some x ≡ Some e = sym now ∙ at in
          let eq : x ≡ e = cc in
          let valid : e.valid ≡ len % 4096 = ap (λ (y : Extent). y.valid) (sym eq)
          ∙ (cut_means (len % 4096) (find pair_cmp key t.extents) x cut).valid in
          omega (arith, valid, last)

  -- ---- the rules

  module _ (n : ℕ) (rules : RulesHold n t) (sorted : T (is_sorted pair_cmp t.extents)) where
    sorted_end : (c : Option Extent) → T (is_sorted pair_cmp (with_extent_if key c t).extents)
    sorted_end None = sorted
    sorted_end (Some x) = is_sorted-put pair_cmp pair_total key x t.extents sorted

    rules_end : (c : Option Extent) → cut_extent (len % 4096) (find pair_cmp key t.extents) ≡ c
        → RulesHold n (with_extent_if key c t)
    rules_end None is = rules
    rules_end (Some x) is =
        let cut = cut_means (len % 4096) (find pair_cmp key t.extents) x is in
        let old = each_found pair_cmp exact_blocks (ExtentHolds n t.files) key cut.old t.extents cut.there rules.extents in
        let none : IsSpaced 0 [] t t = record {
          free_stored = λ k at. absurd (omega (arith, at.within));
          free_now = λ k at. absurd (omega (arith, at.within));
          deferred_now = λ k at. absurd (omega (arith, at.within));
          once = rules.clusters;
        } in
        let spaced = spaced_same 0 [] t t none key x cut.old sorted cut.there cut.cluster in
        rules_with_extent n t rules key x
        (record {
          in_file = lies (find nat_cmp id t.files) cut.old x (omega (arith, cut.valid, cut.fewer)) old.in_file;
          some_bytes = omega (arith, cut.valid, cut.some);
          in_cluster = omega (arith, cut.valid, cut.fewer, old.in_cluster);
          in_data = subst (λ (k : ℕ). IsDataCluster n k) (sym cut.cluster) old.in_data;
        })
        spaced.once
      where
        lies : (o : Option FileRecord) (was now : Extent) → now.valid ≤ was.valid → LiesIn key was o → LiesIn key now o
        lies None was now less in_file = in_file
        lies (Some file) was now less in_file = omega (arith, less, in_file)

    -- tables with the same files and ids, whose blocks of the file end within its new length
    resized_rules : (q : Typed) → q.files ≡ t.files → q.volume ≡ t.volume → RulesHold n q
        → T (is_sorted pair_cmp q.extents)
        → ((k : FileBlock) (e : Extent) → find pair_cmp k q.extents ≡ Some e → e.valid ≤ 4096 → k.0 ≡ id
        → 4096 * k.1 + e.valid ≤ len)
        → (file : FileRecord) → find nat_cmp id t.files ≡ Some file → len ≤ MOST_BYTES_OF_A_FILE
        → RulesHold n (with_file id (record_resized len file) q)
    resized_rules q files volume kept order ends file found short =
        let holds = each_found nat_cmp nat_cmp-IsAntisymmetric (FileHolds (next_id_of t)) id file t.files found rules.files in
        let there : find nat_cmp id q.files ≡ Some file =
        ap (λ (fs : List (ℕ × FileRecord)). find nat_cmp id fs) files ∙ found in
        rules_with_file n q kept id file (record_resized len file) there
        (record {
          some_id = holds.some_id;
          drawn = subst (λ (v : List (Unit {0} × VolumeRecord)). id < id_after (find single_cmp tt v))
              (sym volume) holds.drawn;
          short = short;
          cover = cover_resized len file holds.cover;
        })
        (map_row_resized len file q.chunks.rows id
        (each_found nat_cmp nat_cmp-IsAntisymmetric (MapRowHolds q.chunks.rows) id file q.files there kept.map_rows))
        (each_by_find (λ k e. k.0 ≡ id → 4096 * k.1 + e.valid ≤ len) q.extents order
        (λ k e at same. ends k e at (each_found pair_cmp exact_blocks
        (ExtentHolds n q.files) k e q.extents at kept.extents).in_cluster same))

    -- THE RULES of the tables once a file has another length
    pub rules_resized : (file : FileRecord) → find nat_cmp id t.files ≡ Some file → len ≤ MOST_BYTES_OF_A_FILE
        → RulesHold n (resized_in id file len t)
    rules_resized file found short = by (nat_lt len file.length) refl
      where
        grown : (k : FileBlock) (e : Extent) → file.length ≤ len → find pair_cmp k t.extents ≡ Some e → k.0 ≡ id
            → 4096 * k.1 + e.valid ≤ len
        grown k e longer at same =
            let old = each_found pair_cmp exact_blocks (ExtentHolds n t.files) k e t.extents at rules.extents in
            let mine : LiesIn k e (Some file) =
            subst (LiesIn k e) (ap (λ (x : ℕ). find nat_cmp x t.files) same ∙ found) old.in_file in
            omega (arith, mine, longer)

        cut_by : (c : Option Extent) → cut_extent (len % 4096) (find pair_cmp key t.extents) ≡ c
            → RulesHold n (with_file id (record_resized len file) (cut_to c))
        cut_by None is =
            resized_rules (cut_to None) refl refl
            (rules_keep_extents n (with_extent_if key None t) (rules_end None is) test)
            (is_sorted-where_key pair_cmp test t.extents (sorted_end None)) (ends_within None is) file found short
        cut_by (Some x) is =
            resized_rules (cut_to (Some x)) refl refl
            (rules_keep_extents n (with_extent_if key (Some x) t) (rules_end (Some x) is) test)
            (is_sorted-where_key pair_cmp test (put pair_cmp key x t.extents) (sorted_end (Some x)))
            (ends_within (Some x) is) file found short

        by : (b : Bool) → nat_lt len file.length ≡ b
            → RulesHold n (with_file id (record_resized len file) (cut_if b id len t))
        by false is = resized_rules t refl refl rules sorted
            (λ k e at small same. grown k e (ltb-false len file.length is) at same) file found short
        by true is = cut_by (cut_extent (len % 4096) (find pair_cmp key t.extents)) refl
