-- A file that is deleted, or that gets another name, keeps the rules.
use Rattle.std.specs.Prelude.{◌≡◌, ◌+◌, ℕ, Bool, true, false, cond, T, List, [], ◌∷◌, ◌++◌, length, is_some, Option, Some, None, IsSome, ◌==◌, refl}
use Rattle.std.proofs.Common.{◌∙◌, ap, sym, subst, arith, eqb-true, length-append}
use Rattle.std.specs.declared.cmp.Ordering.{Ordering}
use Rattle.std.specs.declared.cmp.Ordering.TheVariants.{Less, Equal, Greater}
use Rattle.std.specs.Ordering.{nat_cmp, is_lt, is_eq}
use Rattle.std.specs.Cmp.{tied_itself}
use Rattle.std.specs.Cmp.Lexicographic.{nat_list_cmp_total}
use Rattle.std.specs.List.{filter}
use Rattle.std.specs.FinMap.{find, put, is_sorted, nat_cmp-IsAntisymmetric}
use Rattle.std.specs.FinMap.Entries.{where_key, below_all, find-put, find-where_key, is_sorted-put, length-put}
use Rattle.std.proofs.lemmas.Map.Lookups.{exact_bytes}
use Rattle.std.proofs.lemmas.List.Elements.{filter-append}
use Rattle.byte_map.specs.Words.{bytes_cmp}
use Rattle.plain_volume.specs.Volume.{is_lawful}
use Rattle.table_records.specs.Keys.{pair_cmp}
use Rattle.table_records.specs.declared.records.FileRecord.{FileRecord}
use Rattle.table_records.specs.declared.records.Extent.{Extent}
use Rattle.volume_inside.specs.Typed.{Typed, FileBlock}
use Rattle.volume_inside.specs.Changes.{deleted, renamed, DropsOnly}
use Rattle.volume_inside.specs.Bases.{base_clusters}
use Rattle.volume_inside.specs.Entries.{Each, each_put, each_found, each_weaker, each_where_key}
use Rattle.volume_inside.specs.ChunkRules.{MapRowHolds}
use Rattle.volume_inside.specs.Rules.{next_id_of, NameHolds, IsNamedOnce, FileHolds, LiesIn, ExtentsHold, RulesHold}
use Rattle.volume_inside.proofs.Spaces.{once_kept}
use Rattle.volume_inside.proofs.Changed.{none_below, below_too, not_below}
use Rattle.groundwork.proofs.Bools.{first_true, second_true}
use Rattle.volume_inside.proofs.Names.{other_names}
use Rattle.volume_inside.proofs.Created.{names_after_put, one_if}

is_kept : {K : Type 0} (gone : K → Type 0) (test : K → Bool) → DropsOnly gone test → (k : K) → test k ≡ true → gone k → ⊥
is_kept gone test d k kept is = let clash : true ≡ false = sym kept ∙ d.drops k is in cc

module _ (name : List ℕ) (test : List ℕ → Bool) (only : DropsOnly (λ other. other ≡ name) test) where
  -- names above the one that is dropped are kept
  above_kept : (names : List (List ℕ × ℕ)) → T (below_all bytes_cmp name names) → where_key bytes_cmp test names ≡ names
  above_kept [] low = refl
  above_kept (e ∷ names) low =
      let here = only.keeps e.0 (not_below name e.0 (first_true _ _ low)) in
      let rest = above_kept names (second_true (is_lt (bytes_cmp name e.0)) _ low) in
      (λ i. cond (here i) (e ∷ where_key bytes_cmp test names) (where_key bytes_cmp test names)) ∙ ap (λ (es : List (List ℕ × ℕ)). e ∷ es) rest

  not_first : (e : List ℕ × ℕ) → bytes_cmp name e.0 ≡ Greater → e.0 ≡ name → ⊥
  not_first e is same =
      let mine : Greater ≡ Equal = sym is ∙ ap (λ (x : List ℕ). bytes_cmp name x) same ∙ tied_itself nat_list_cmp_total name in cc

  -- the dropped name stands between those that are kept
  pub record Splits (id : ℕ) (names : List (List ℕ × ℕ)) : Type 0 where
    pub front : List (List ℕ × ℕ)
    pub back : List (List ℕ × ℕ)
    pub all : names ≡ front ++ ((name, id) ∷ back)
    pub kept : where_key bytes_cmp test names ≡ front ++ back

  pub splits : (id : ℕ) (names : List (List ℕ × ℕ)) → T (is_sorted bytes_cmp names) → find bytes_cmp name names ≡ Some id
      → Splits id names
  splits id [] sorted found = absurd (let clash : None ≡ Some id = found in cc)
  splits id (e ∷ names) sorted found =
      by (bytes_cmp name e.0) refl found (λ at. splits id names (second_true (below_all bytes_cmp e.0 names) _ sorted) at)
    where
      by : (r : Ordering) → bytes_cmp name e.0 ≡ r → cond (is_eq r) (Some e.1) (find bytes_cmp name names) ≡ Some id
          → (find bytes_cmp name names ≡ Some id → Splits id names) → Splits id (e ∷ names)
      by Less is at later =
          absurd (let none = none_below name names (below_too name e.0 names is (first_true _ _ sorted)) in
          let clash : Some id ≡ None = sym at ∙ none in cc)
      by Equal is at later =
          let key : name ≡ e.0 = exact_bytes name e.0 is in
          let value : e.1 ≡ id = cc in
          let low = subst (λ (x : List ℕ). T (below_all bytes_cmp x names)) (sym key) (first_true (below_all bytes_cmp e.0 names) _ sorted) in
          let gone = only.drops e.0 (sym key) in
          record {
            front = [];
            back = names;
            all = λ i. (sym key i, value i) ∷ names;
            kept = (λ i. cond (gone i) (e ∷ where_key bytes_cmp test names) (where_key bytes_cmp test names)) ∙ above_kept names low;
          }
      by Greater is at later =
          let rest = later at in
          let here = only.keeps e.0 (not_first e is) in
          record {
            front = e ∷ rest.front;
            back = rest.back;
            all = ap (λ (es : List (List ℕ × ℕ)). e ∷ es) rest.all;
            kept = (λ i. cond (here i) (e ∷ where_key bytes_cmp test names) (where_key bytes_cmp test names))
                ∙ ap (λ (es : List (List ℕ × ℕ)). e ∷ es) rest.kept;
          }

  -- one name fewer
  pub length_dropped : (id : ℕ) (names : List (List ℕ × ℕ)) → Splits id names
      → length names ≡ length (where_key bytes_cmp test names) + 1
  length_dropped id names s =
      let whole = ap length s.all ∙ length-append s.front ((name, id) ∷ s.back) in
      let rest = ap length s.kept ∙ length-append s.front s.back in
      omega (arith, whole, rest)

  -- and one fewer of its file
  pub count_dropped : (x id : ℕ) (names : List (List ℕ × ℕ)) → Splits id names
      → length (filter (λ e. e.1 == x) names) ≡ one_if (id == x) + length (filter (λ e. e.1 == x) (where_key bytes_cmp test names))
  count_dropped x id names s =
      let mine : List ℕ × ℕ → Bool = λ e. e.1 == x in
      let whole = ap (λ (es : List (List ℕ × ℕ)). length (filter mine es)) s.all ∙ counts s.front ((name, id) ∷ s.back) in
      let rest = ap (λ (es : List (List ℕ × ℕ)). length (filter mine es)) s.kept ∙ counts s.front s.back in
      let one = first (id == x) in
      omega (arith, whole, rest, one)
    where
      counts : (es fs : List (List ℕ × ℕ)) → length (filter (λ e. e.1 == x) (es ++ fs))
          ≡ length (filter (λ e. e.1 == x) es) + length (filter (λ e. e.1 == x) fs)
      counts es fs =
          ap length (filter-append (λ (e : List ℕ × ℕ). e.1 == x) es fs)
          ∙ length-append (filter (λ (e : List ℕ × ℕ). e.1 == x) es) (filter (λ (e : List ℕ × ℕ). e.1 == x) fs)

      first : (b : Bool) → length (cond b ((name, id) ∷ filter (λ e. e.1 == x) s.back) (filter (λ e. e.1 == x) s.back))
          ≡ one_if b + length (filter (λ e. e.1 == x) s.back)
      first true = omega arith
      first false = omega arith

same_id : (a b : ℕ) → (a ≡ b → ⊥) → (a == b) ≡ false
same_id a b differ = by (a == b) (λ same. differ (eqb-true a b same))
  where
    by : (t : Bool) → (t ≡ true → ⊥) → t ≡ false
    by true never = absurd (never refl)
    by false never = refl

-- ---- a file that is deleted

module _ (n : ℕ) (t : Typed) (rules : RulesHold n t) (name : List ℕ) (id : ℕ) (sorted : T (is_sorted bytes_cmp t.names))
    (found : find bytes_cmp name t.names ≡ Some id) (names_test : List ℕ → Bool) (files_test : ℕ → Bool) (blocks_test : FileBlock → Bool)
    (one_name : DropsOnly (λ other. other ≡ name) names_test) (one_file : DropsOnly (λ x. x ≡ id) files_test)
    (its_blocks : DropsOnly (λ k. k.0 ≡ id) blocks_test) where
  abbrev names_left : List (List ℕ × ℕ)
  names_left = where_key bytes_cmp names_test t.names

  abbrev files_left : List (ℕ × FileRecord)
  files_left = where_key nat_cmp files_test t.files

  -- a file of another id is where it was
  stays : (x : ℕ) → (x ≡ id → ⊥) → find nat_cmp x files_left ≡ find nat_cmp x t.files
  stays x differ =
      find-where_key nat_cmp files_test x (λ y same. ap files_test (sym (nat_cmp-IsAntisymmetric x y same))) t.files
      ∙ ap (λ (b : Bool). cond b (find nat_cmp x t.files) None) (one_file.keeps x differ)

  names_hold : (names : List (List ℕ × ℕ)) → Each (NameHolds t.files) names → Each (λ other x. (other ≡ name → ⊥) → x ≡ id → ⊥) names
      → Each (NameHolds files_left) (where_key bytes_cmp names_test names)
  names_hold [] each others = tt
  names_hold (e ∷ names) each others =
      by (names_test e.0) refl (names_hold names each.1 others.1)
    where
      by : (b : Bool) → names_test e.0 ≡ b → Each (NameHolds files_left) (where_key bytes_cmp names_test names)
          → Each (NameHolds files_left) (cond b (e ∷ where_key bytes_cmp names_test names) (where_key bytes_cmp names_test names))
      by true is rest =
          let other = others.0 (is_kept (λ k. k ≡ name) names_test one_name e.0 is) in
          (record { lawful = each.0.lawful; names_file = subst IsSome (sym (stays e.1 other)) each.0.names_file }, rest)
      by false is rest = rest

  once_hold : (files : List (ℕ × FileRecord)) → Each (IsNamedOnce t.names) files → Each (IsNamedOnce names_left) (where_key nat_cmp files_test files)
  once_hold [] each = tt
  once_hold (e ∷ files) each = by (files_test e.0) refl (once_hold files each.1)
    where
      by : (b : Bool) → files_test e.0 ≡ b → Each (IsNamedOnce names_left) (where_key nat_cmp files_test files)
          → Each (IsNamedOnce names_left) (cond b (e ∷ where_key nat_cmp files_test files) (where_key nat_cmp files_test files))
      by true is rest =
          let differ = is_kept (λ x. x ≡ id) files_test one_file e.0 is in
          let count = count_dropped name names_test one_name e.0 id t.names (splits name names_test one_name id t.names sorted found) in
          let none = ap one_if (same_id id e.0 (λ same. differ (sym same))) in
          (omega (arith, count, none, each.0), rest)
      by false is rest = rest

  extents_hold : (es : List (FileBlock × Extent)) → ExtentsHold n t.files es → ExtentsHold n files_left (where_key pair_cmp blocks_test es)
  extents_hold [] each = tt
  extents_hold (e ∷ es) each = by (blocks_test e.0) refl (extents_hold es each.1)
    where
      by : (b : Bool) → blocks_test e.0 ≡ b → ExtentsHold n files_left (where_key pair_cmp blocks_test es)
          → ExtentsHold n files_left (cond b (e ∷ where_key pair_cmp blocks_test es) (where_key pair_cmp blocks_test es))
      by true is rest =
          let differ = is_kept (λ k. k.0 ≡ id) blocks_test its_blocks e.0 is in (
            record {
              in_file = subst (LiesIn e.0 e.1) (sym (stays e.0.0 differ)) each.0.in_file;
              some_bytes = each.0.some_bytes;
              in_cluster = each.0.in_cluster;
              in_data = each.0.in_data;
            },
            rest,
          )
      by false is rest = rest

  -- THE FILE THAT GOES: the tables without it meet the rules
  pub rules_deleted : RulesHold n (deleted names_test files_test blocks_test t)
  rules_deleted = record {
    records = rules.records;
    names = record {
      names = names_hold t.names rules.names.names (other_names n t name id rules found);
      once = once_hold t.files rules.names.once;
      few = omega (arith, rules.names.few, length_dropped name names_test one_name id t.names (splits name names_test one_name id t.names sorted found));
    };
    files = each_where_key nat_cmp (FileHolds (next_id_of t)) files_test t.files rules.files;
    map_rows = each_where_key nat_cmp (MapRowHolds t.chunks.rows) files_test t.files rules.map_rows;
    extents = extents_hold t.extents rules.extents;
    chunks = rules.chunks;
    clusters = once_kept (0, 0) (base_clusters t) blocks_test t.extents rules.clusters;
  }

-- ---- a file that gets another name

module _ (n : ℕ) (t : Typed) (rules : RulesHold n t) (from to : List ℕ) (id : ℕ) (sorted : T (is_sorted bytes_cmp t.names))
    (found : find bytes_cmp from t.names ≡ Some id) (new : find bytes_cmp to t.names ≡ None) (lawful : is_lawful to ≡ true)
    (names_test : List ℕ → Bool) (one_name : DropsOnly (λ other. other ≡ from) names_test) where
  differ : from ≡ to → ⊥
  differ same = let clash : Some id ≡ None = sym found ∙ ap (λ (x : List ℕ). find bytes_cmp x t.names) same ∙ new in cc

  found_still : find bytes_cmp from (put bytes_cmp to id t.names) ≡ Some id
  found_still =
      find-put bytes_cmp nat_list_cmp_total from to id t.names ∙ by (bytes_cmp from to) refl
    where
      by : (r : Ordering) → bytes_cmp from to ≡ r → cond (is_eq r) (Some id) (find bytes_cmp from t.names) ≡ Some id
      by Less is = found
      by Equal is = refl
      by Greater is = found

  split : Splits from names_test one_name id (put bytes_cmp to id t.names)
  split = splits from names_test one_name id (put bytes_cmp to id t.names) (is_sorted-put bytes_cmp nat_list_cmp_total to id t.names sorted) found_still

  once_still : (x : ℕ) (file : FileRecord) → IsNamedOnce t.names x file → IsNamedOnce (renamed to id names_test t).names x file
  once_still x file one =
      let put_one = names_after_put x id to t.names new in
      let dropped = count_dropped from names_test one_name x id (put bytes_cmp to id t.names) split in
      omega (arith, put_one, dropped, one)

  -- THE NEW NAME: the tables meet the rules, also where there are as many files as there may be
  pub rules_renamed : RulesHold n (renamed to id names_test t)
  rules_renamed = record {
    records = rules.records;
    names = record {
      names = each_where_key bytes_cmp (NameHolds t.files) names_test (put bytes_cmp to id t.names)
          (each_put bytes_cmp exact_bytes (NameHolds t.files) to id t.names (record { lawful = lawful; names_file = file_there }) rules.names.names);
      once = each_weaker (IsNamedOnce t.names) (IsNamedOnce (renamed to id names_test t).names) t.files once_still rules.names.once;
      few =
          let long = length-put bytes_cmp nat_list_cmp_total to id t.names sorted
          ∙ ap (λ (o : Option ℕ). cond (is_some o) (length t.names) (length t.names + 1)) new in
          omega (arith, long, length_dropped from names_test one_name id (put bytes_cmp to id t.names) split, rules.names.few);
    };
    files = rules.files;
    map_rows = rules.map_rows;
    extents = rules.extents;
    chunks = rules.chunks;
    clusters = rules.clusters;
  }
    where
      file_there : IsSome (find nat_cmp id t.files)
      file_there = (each_found bytes_cmp exact_bytes (NameHolds t.files) from id t.names found rules.names.names).names_file
