-- Tables whose entries have values of one length, and what their changes leave well formed.
use Rattle.std.specs.Prelude.{◌≡◌, ◌≤◌, ◌+◌, ℕ, Bool, true, false, cond, List, [], ◌∷◌, length}
use Rattle.std.specs.Prelude.{Option, Some, None, is_some, get_or, T, refl}
use Rattle.std.proofs.Common.{sym, ◌∙◌, ap, subst, arith, eqb-true}
use Rattle.std.specs.declared.cmp.Ordering.TheVariants.{Less, Equal, Greater}
use Rattle.std.specs.Option.{option_map}
use Rattle.std.specs.Ordering.{is_eq}
use Rattle.std.specs.FinMap.Entries.{find, put, where_key, by_order, is_sorted}
use Rattle.std.proofs.lemmas.Map.Lookups.{exact_bytes}
use Rattle.byte_map.specs.Words.{Map, bytes_cmp, without}
use Rattle.byte_map.specs.Laws.{length_put_new, length_put_present, bytes_in_put_new, bytes_in_put_present}
use Rattle.byte_map.specs.Laws.{length_without, bytes_in_without}
use Rattle.table_records.specs.Codecs.{Codec, typed}
use Rattle.table_records.specs.Laws.{find_typed}
use Rattle.table_records.specs.Tables.{IsTable}
pub use Rattle.table_records.proofs.Belongs.{apart, or_right}
use Rattle.table_records.proofs.Belongs.{own_pair, pair_joins, volume_is_table, name_is_table, file_is_table, extent_is_table}
use Rattle.table_records.proofs.Belongs.{row_is_table, place_is_table, container_is_table, cluster_is_table}
use Rattle.table_records.proofs.Belongs.{settings_are_table, result_is_table}
use Rattle.table_records.specs.Tables.{volume_codec, name_codec, file_codec, extent_codec, settings_codec, result_codec}
use Rattle.table_records.specs.Tables.{row_codec, place_codec, container_codec, cluster_codec}
use Rattle.volume_tables.specs.Spelled.{is_pair_of, is_well_formed, are_well_formed}
use Rattle.meta_log.specs.Log.{checkpoint_length}
use Rattle.volume_tables.specs.Tables.{new_bytes}
use Rattle.volume_tables.proofs.Keyed.{first_is, second_is, both_are}

-- the pairs of a table are well formed, those with its number are its own, and its values have so many bytes
pub record IsEntryTable {K V : Type 0} (c : Codec K V) (size : ℕ) : Type 0 where
  pub own : (key value : List ℕ) → is_well_formed key value ≡ true → get_or key 0 0 ≡ c.number
      → is_pair_of c key value ≡ true
  pub joins : (key value : List ℕ) → is_pair_of c key value ≡ true → is_well_formed key value ≡ true
  pub sized : (value : List ℕ) → c.is_value value ≡ true → length value ≡ size

-- a table of all, whose values have one length
pub entry_table : {K V : Type 0} (c : Codec K V) (size : ℕ) → IsTable c
    → ((value : List ℕ) → c.is_value value ≡ true → length value ≡ size) → IsEntryTable c size
entry_table c size table sized = record { own = own_pair c table; joins = pair_joins c table; sized = sized }

pub volume_table : IsEntryTable volume_codec 12
volume_table = entry_table volume_codec 12 volume_is_table (λ value is. eqb-true (length value) 12 is)

pub names_table : IsEntryTable name_codec 8
names_table = entry_table name_codec 8 name_is_table (λ value is. eqb-true (length value) 8 is)

pub files_table : IsEntryTable file_codec 24
files_table = entry_table file_codec 24 file_is_table (λ value is. eqb-true (length value) 24 is)

pub extents_table : IsEntryTable extent_codec 6
extents_table = entry_table extent_codec 6 extent_is_table (λ value is. eqb-true (length value) 6 is)

pub rows_table : IsEntryTable row_codec 50
rows_table = entry_table row_codec 50 row_is_table (λ value is. eqb-true (length value) 50 is)

pub places_table : IsEntryTable place_codec 12
places_table = entry_table place_codec 12 place_is_table (λ value is. eqb-true (length value) 12 is)

pub containers_table : IsEntryTable container_codec 5
containers_table = entry_table container_codec 5 container_is_table (λ value is. eqb-true (length value) 5 is)

pub clusters_table : IsEntryTable cluster_codec 4
clusters_table = entry_table cluster_codec 4 cluster_is_table (λ value is. eqb-true (length value) 4 is)

pub results_table : IsEntryTable result_codec 9
results_table = entry_table result_codec 9 result_is_table (λ value is. eqb-true (length value) 9 is)

pub settings_join : (key value : List ℕ) → is_pair_of settings_codec key value ≡ true → is_well_formed key value ≡ true
settings_join key value is = pair_joins settings_codec settings_are_table key value is

-- ---- a map stays well formed

pub put_well_formed : (key value : List ℕ) (m : Map) → is_well_formed key value ≡ true → are_well_formed m ≡ true
    → are_well_formed (put bytes_cmp key value m) ≡ true
put_well_formed key value [] one all = both_are _ _ one refl
put_well_formed key value (e ∷ m) one all =
    elim (bytes_cmp key e.0) as (λ r. bytes_cmp key e.0 ≡ r
    → are_well_formed (by_order r ((key, value) ∷ e ∷ m) ((e.0, value) ∷ m) (e ∷ put bytes_cmp key value m)) ≡ true) [
      | Less ↦ λ r. both_are _ _ one all
      | Equal ↦ λ r. both_are _ _ (subst (λ (b : List ℕ). is_well_formed b value ≡ true) (exact_bytes key e.0 r) one)
          (second_is (is_well_formed e.0 e.1) _ all)
      | Greater ↦ λ r. both_are _ _ (first_is _ _ all)
          (put_well_formed key value m one (second_is (is_well_formed e.0 e.1) _ all))
    ] refl

pub where_well_formed : (test : List ℕ → Bool) (m : Map) → are_well_formed m ≡ true
    → are_well_formed (where_key bytes_cmp test m) ≡ true
where_well_formed test [] all = refl
where_well_formed test (e ∷ m) all =
    let rest = where_well_formed test m (second_is (is_well_formed e.0 e.1) _ all) in
    elim (test e.0) as (λ b. are_well_formed (cond b (e ∷ where_key bytes_cmp test m) (where_key bytes_cmp test m)) ≡
    true) [
      | true ↦ both_are _ _ (first_is _ _ all) rest
      | false ↦ rest
    ]

pub found_well_formed : (key w : List ℕ) (m : Map) → are_well_formed m ≡ true → find bytes_cmp key m ≡ Some w
    → is_well_formed key w ≡ true
found_well_formed key w [] all found = absurd (cc)
found_well_formed key w (e ∷ m) all found =
    let later : find bytes_cmp key m ≡ Some w → is_well_formed key w ≡ true = λ is. found_well_formed key w m
    (second_is (is_well_formed e.0 e.1) _ all) is in
    elim (bytes_cmp key e.0) as (λ r. bytes_cmp key e.0 ≡ r → cond (is_eq r) (Some e.1) (find bytes_cmp key m) ≡ Some w
    → is_well_formed key w ≡ true) [
      | Less ↦ λ r is. later is
      | Equal ↦ λ r is.
          let value : e.1 ≡ w = cc in
          subst (λ (x : List ℕ). is_well_formed key x ≡ true) value
          (subst (λ (b : List ℕ). is_well_formed b e.1 ≡ true) (sym (exact_bytes key e.0 r)) (first_is _ _ all))
      | Greater ↦ λ r is. later is
    ] refl found

-- ---- the bytes of a checkpoint

pub checkpoint_without : (from to : List ℕ) (m : Map) → checkpoint_length (without from to m) ≤ checkpoint_length m
checkpoint_without from to m = omega (arith, length_without from to m, bytes_in_without from to m)

module _ {K V : Type 0} (c : Codec K V) (size : ℕ) (table : IsEntryTable c size) where
  -- a value that stands at a key of the table has as many bytes as one that is put there
  pub found_size : (key w : List ℕ) (k : K) (m : Map) → c.read_key key ≡ Some k → are_well_formed m ≡ true
      → find bytes_cmp key m ≡ Some w → length w ≡ size
  found_size key w k m spells all found =
      table.sized w (second_is (is_some (c.read_key key)) _
      (table.own key w (found_well_formed key w m all found) (c.numbered key k spells)))

  pub checkpoint_put : (key value : List ℕ) (k : K) (m : Map) → c.read_key key ≡ Some k → c.is_value value ≡ true
      → T (is_sorted bytes_cmp m) → are_well_formed m ≡ true
      → checkpoint_length (put bytes_cmp key value m) ≡ checkpoint_length m + new_bytes (find c.cmp k (typed c m))
      (5 + (length key + size))
  checkpoint_put key value k m spells whole sorted all =
      by (find bytes_cmp key m) refl ∙ ap (λ (o : Option V). checkpoint_length m + new_bytes o
      (5 + (length key + size))) (sym (find_typed c key k spells m))
    where
      long : length value ≡ size
      long = table.sized value whole

      by : (o : Option (List ℕ)) → find bytes_cmp key m ≡ o
          → checkpoint_length (put bytes_cmp key value m) ≡ checkpoint_length m + new_bytes
          (option_map c.read_value (find bytes_cmp key m)) (5 + (length key + size))
      by None none =
          let P : Option (List ℕ) → Type 0 = λ o. checkpoint_length
          (put bytes_cmp key value m) ≡ checkpoint_length m + new_bytes (option_map c.read_value o)
          (5 + (length key + size)) in
          let count = length_put_new key value m sorted none in
          let bytes = bytes_in_put_new key value m none in
          subst P (sym none) (omega (arith, count, bytes, long))
      by (Some w) found =
          let P : Option (List ℕ) → Type 0 = λ o. checkpoint_length
          (put bytes_cmp key value m) ≡ checkpoint_length m + new_bytes (option_map c.read_value o)
          (5 + (length key + size)) in
          let count = length_put_present key value w m sorted found in
          let bytes = bytes_in_put_present key value w m sorted found in
          let was = found_size key w k m spells all found in
          subst P (sym found) (omega (arith, count, bytes, long, was))
