-- What changes of the journal's map leave of what it holds.
use Rattle.std.specs.Prelude.{◌≡◌, ◌≢◌, ℕ, true, List, Option, Some, IsTrue, is_some, not}
use Rattle.std.proofs.Common.{◌∙◌, ap}
use Rattle.std.specs.FinMap.Entries.{is_sorted}
use Rattle.byte_map.specs.Words.{Map, bytes_cmp, is_between}
use Rattle.byte_map.specs.Laws.{is_sorted_put, is_sorted_without}
use Rattle.table_records.specs.Codecs.{Codec}
use Rattle.table_records.specs.Tables.{volume_codec, settings_codec, result_codec}
use Rattle.table_records.specs.Changes.{IsPut, IsDropped, put_there, dropped_there}
use Rattle.table_records.specs.declared.settings.Settings.{Settings}
use Rattle.volume_tables.specs.declared.ends.JobEnds.{JobEnds}
use Rattle.volume_tables.specs.Spelled.{is_pair_of, is_well_formed, are_well_formed}
use Rattle.volume_tables.specs.Contents.{HasContents}
use Rattle.volume_tables.proofs.Answers.{as_true, true_as}
use Rattle.volume_tables.proofs.Keyed.{both_are}
use Rattle.volume_tables.proofs.WellFormed.{put_well_formed, where_well_formed}

-- the bytes of an entry that was put are a pair of the table
pub put_is_pair : {K V : Type 0} (c : Codec K V) (key value : List ℕ) (k : K) → c.read_key key ≡ Some k
    → IsTrue (c.is_value value) → is_pair_of c key value ≡ true
put_is_pair {K} c key value k spells whole = both_are (is_some (c.read_key key)) (c.is_value value)
    (ap (λ (o : Option K). is_some o) spells) whole

module _ {K V : Type 0} (c : Codec K V) (joins : (key value : List ℕ) → is_pair_of c key value ≡ true
    → is_well_formed key value ≡ true) where
  pub put_spelled : (k : K) (v : V) (m n : Map) → IsPut c k v m n → are_well_formed m ≡ true → are_well_formed n ≡ true
  put_spelled k v m n p all =
      ap are_well_formed p.is ∙ put_well_formed p.key p.value m
      (joins p.key p.value (put_is_pair c p.key p.value k p.spells p.whole)) all

pub dropped_spelled : {K V : Type 0} (c : Codec K V) (from : K) (to : Option K) (m n : Map) → IsDropped c from to m n
    → are_well_formed m ≡ true → are_well_formed n ≡ true
dropped_spelled c from to m n p all = ap are_well_formed p.is
    ∙ where_well_formed (λ k. not (is_between bytes_cmp p.low p.high k)) m all

module _ {K V : Type 0} (c : Codec K V) (no_volume : c.number ≢ 1) (no_settings : c.number ≢ 9)
    (no_result : c.number ≢ 10)
    (m n : Map) (id : ℕ) (settings : Settings) (ends : JobEnds) (has : HasContents m id settings ends) where
  -- an entry of another table was put
  pub put_contents : ((key value : List ℕ) → is_pair_of c key value ≡ true → is_well_formed key value ≡ true)
      → (k : K) (v : V) → IsPut c k v m n → HasContents n id settings ends
  put_contents joins k v p = record {
    sorted = ap (is_sorted bytes_cmp) p.is ∙ true_as (is_sorted_put p.key p.value m (as_true has.sorted));
    spelled = put_spelled c joins k v m n p has.spelled;
    volume = put_there c volume_codec no_volume k v m n p ∙ has.volume;
    settings_there = put_there c settings_codec no_settings k v m n p ∙ has.settings_there;
    ends_there = put_there c result_codec no_result k v m n p ∙ has.ends_there;
  }

  -- entries of another table were dropped
  pub dropped_contents : (from : K) (to : Option K) → IsDropped c from to m n → HasContents n id settings ends
  dropped_contents from to p = record {
    sorted = ap (is_sorted bytes_cmp) p.is ∙ true_as (is_sorted_without p.low p.high m (as_true has.sorted));
    spelled = dropped_spelled c from to m n p has.spelled;
    volume = dropped_there c volume_codec no_volume from to m n p ∙ has.volume;
    settings_there = dropped_there c settings_codec no_settings from to m n p ∙ has.settings_there;
    ends_there = dropped_there c result_codec no_result from to m n p ∙ has.ends_there;
  }
