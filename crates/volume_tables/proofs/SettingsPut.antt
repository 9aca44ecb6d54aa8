-- What setting the settings does.
use Rattle.std.specs.Prelude.{◌≡◌, ◌+◌, ◌<◌, ◌↔◌, ◌⊎◌, ℕ, List, [], ◌∷◌, length, T, Option, Some, None, is_some, true}
use Rattle.std.specs.Prelude.{Result, Err, IsErrOf, OnErr, refl}
use Rattle.std.proofs.Common.{sym, ◌∙◌, ap, subst, arith}
use Rattle.std.specs.Option.{option_map}
use Rattle.std.proofs.lemmas.Result.{on_ok_weaker, on_err_weaker}
use Rattle.std.specs.FinMap.Entries.{find, put, is_sorted}
use Rattle.vdisk.specs.declared.disk.Disk.{Ghosts}
use Rattle.byte_map.specs.Words.{Map, bytes_cmp}
use Rattle.byte_map.specs.Laws.{is_sorted_put, length_put_present, bytes_in_put_present}
use Rattle.meta_log.specs.Log.{checkpoint_length}
use Rattle.meta_log.specs.declared.log.MetaLog.{MetaLog}
use Rattle.plain_volume.specs.declared.call.Fault.{Fault}
use Rattle.plain_volume.specs.declared.call.Fault.TheVariants.{TableFull, Memory}
use Rattle.table_records.specs.Codecs.{typed}
use Rattle.table_records.specs.Changes.{IsPut}
use Rattle.table_records.specs.Keys.{single_cmp}
use Rattle.table_records.specs.Laws.{find_typed}
use Rattle.table_records.specs.Orders.{some_same}
use Rattle.table_records.specs.Settings.{settings_or_empty, settings_bytes, is_settings, empty_settings, AreSpellable}
use Rattle.table_records.specs.Tables.{settings_codec}
use Rattle.table_records.specs.declared.settings.Settings.{Settings}
use Rattle.table_records.proofs.SettingsBytes.{settings_back}
use Rattle.volume_inside.specs.Layout.{half_bytes}
use Rattle.volume_inside.specs.Typed.{Typed, typed_of}
use Rattle.volume_inside.specs.Changes.{with_settings}
use Rattle.std.specs.Option.{unwrap_or}
use Rattle.volume_tables.specs.Contents.{HasContents}
use Rattle.volume_tables.specs.Log.{log_now}
use Rattle.volume_tables.specs.Sizes.{settings_size, size_in, settings_size_of}
use Rattle.volume_tables.specs.Spelled.{are_well_formed}
use Rattle.volume_tables.specs.Staging.{IsStagedPut}
use Rattle.volume_tables.specs.Tables.{tables_now, IsResized}
use Rattle.volume_tables.specs.declared.tables.Tables.{Tables}
use Rattle.volume_tables.proofs.Answers.{as_true, true_as}
use Rattle.table_records.proofs.Belongs.{own_pair, settings_are_table}
use Rattle.volume_tables.proofs.Keyed.{second_is}
use Rattle.volume_tables.proofs.Kept.{put_spelled}
use Rattle.volume_tables.proofs.Puts.{settings_put}
use Rattle.volume_tables.proofs.SettingsSize.{value_size}
use Rattle.volume_tables.proofs.Sizes.{settings_key}
use Rattle.volume_tables.proofs.WellFormed.{found_well_formed, settings_join}

-- the bytes of settings are a value, which means them
pub bytes_whole : (s : Settings) → AreSpellable s → is_settings (settings_bytes s) ≡ true
bytes_whole s fits = ap (λ (o : Option Settings). is_some o) (settings_back s fits)

pub bytes_mean : (s : Settings) → AreSpellable s → settings_or_empty (settings_bytes s) ≡ s
bytes_mean s fits = ap (λ (o : Option Settings). unwrap_or o empty_settings) (settings_back s fits)

pub bytes_size : (s : Settings) → AreSpellable s → length (settings_bytes s) ≡ settings_size s
bytes_size s fits = value_size (settings_bytes s) s (bytes_whole s fits) (bytes_mean s fits)

-- the checkpoint of a map where these settings stood
settings_grown : (m : Map) (s was : Settings) → T (is_sorted bytes_cmp m) → are_well_formed m ≡ true
    → typed settings_codec m ≡ (tt, was) ∷ []
    → (key value : List ℕ) → settings_codec.read_key key ≡ Some tt → is_settings value ≡ true
    → settings_or_empty value ≡ s
    → checkpoint_length (put bytes_cmp key value m) + settings_size was ≡ checkpoint_length m + settings_size s
settings_grown m s was sorted all there key value spells whole means = by (find bytes_cmp key m) refl
    (sym (find_typed settings_codec key tt spells m)
    ∙ ap (λ (es : List (Unit {0} × Settings)). find single_cmp tt es) there)
  where
    by : (o : Option (List ℕ)) → find bytes_cmp key m ≡ o
        → option_map settings_or_empty (find bytes_cmp key m) ≡ Some was
        → checkpoint_length (put bytes_cmp key value m) + settings_size was ≡ checkpoint_length m + settings_size s
    by None none is = absurd (let nothing : option_map settings_or_empty None ≡ Some was = subst
        (λ (o : Option (List ℕ)). option_map settings_or_empty o ≡ Some was) none is in cc)
    by (Some w) found is =
        let same : Some (settings_or_empty w) ≡ Some was = subst
        (λ (o : Option (List ℕ)). option_map settings_or_empty o ≡ Some was) found is in
        let pair = own_pair settings_codec settings_are_table key w (found_well_formed key w m all found) (settings_codec.numbered key tt spells) in
        let old_size = value_size w was (second_is (is_some (settings_codec.read_key key)) (is_settings w) pair)
        (some_same (settings_or_empty w) was same) in
        let new_size = value_size value s whole means in
        let count = length_put_present key value w m sorted found in
        let bytes = bytes_in_put_present key value w m sorted found in
        omega (arith, count, bytes, old_size, new_size)

module _ {D : Type 0} {d : Ghosts D} where
  -- the settings' value in the tables now
  pub size_now : (t : Tables D d) → settings_size_of (tables_now t) ≡ settings_size t.settings
  size_now t = ap (λ (es : List (Unit {0} × Settings)). size_in es) t.contents.settings_there

  -- nothing was set
  pub not_resized : (was size n : ℕ) (log : MetaLog D d) (e : Fault)
      → (IsErrOf {T = Unit {0}} (Err e) TableFull ↔ (half_bytes n + was < checkpoint_length (log_now log) + size))
      → OnErr {T = Unit {0}} (Err e) (IsErrOf {T = Unit {0}} (Err e) TableFull ⊎ IsErrOf {T = Unit {0}} (Err e) Memory)
      → IsResized was size n log log (Err e)
  not_resized was size n log e full refused = record {
    full = full;
    refused = refused;
    checkpoint = tt;
    no_checkpoint = refl;
    staged = tt;
    none_staged = refl;
    running = refl;
    image = refl;
  }

  module _ (t : Tables D d) (log : MetaLog D d) (s : Settings) (result : Result (Unit {0}) Fault)
      (p : IsStagedPut settings_codec tt s t.log log result) where
    resized_by : IsResized (settings_size t.settings) (settings_size s) t.clusters t.log log result
    resized_by =
        let half = t.half in
        let key = settings_key p.key p.spells in
        let value = value_size p.value s p.whole p.means in
        let grown = settings_grown (log_now t.log) s t.settings
        (as_true t.contents.sorted) t.contents.spelled t.contents.settings_there p.key p.value p.spells p.whole
        p.means in
        record {
          full = (
            λ e. let past = p.full.0 e in omega (arith, past, grown, half),
            λ past. p.full.1
                (omega (arith, past, grown, half)),
          );
          refused = p.refused;
          checkpoint = on_ok_weaker result (λ is. let same = ap checkpoint_length is in omega (arith, same, grown))
              p.ok;
          no_checkpoint = on_err_weaker result (λ is. ap checkpoint_length is) p.err;
          staged = on_ok_weaker result (λ is. omega (arith, is, key, value)) p.taken;
          none_staged = p.left;
          running = p.quiet.running;
          image = ap (λ (x : D). (d.state x).image) p.quiet.disk;
        }

    pub resized : IsResized (settings_size_of (tables_now t)) (settings_size s) t.clusters t.log log result
    resized = subst (λ (n : ℕ). IsResized n (settings_size s) t.clusters t.log log result) (sym (size_now t)) resized_by

  module _ (t : Tables D d) (log : MetaLog D d) (s : Settings)
      (p : IsPut settings_codec tt s (log_now t.log) (log_now log)) where
    settings_all : typed_of (log_now log) ≡ with_settings s (typed_of (log_now t.log))
    settings_all = settings_put (log_now t.log) (log_now log) (as_true t.contents.sorted) s p

    pub settings_contents : HasContents (log_now log) t.next_id s t.ends
    settings_contents = record {
      sorted = ap (is_sorted bytes_cmp) p.is ∙ true_as
          (is_sorted_put p.key p.value (log_now t.log) (as_true t.contents.sorted));
      spelled = put_spelled settings_codec settings_join tt s (log_now t.log) (log_now log) p t.contents.spelled;
      volume = ap (λ (q : Typed). q.volume) settings_all ∙ t.contents.volume;
      settings_there = ap (λ (q : Typed). q.settings) settings_all
          ∙ ap (λ (es : List (Unit {0} × Settings)). put single_cmp tt s es) t.contents.settings_there;
      ends_there = ap (λ (q : Typed). q.results) settings_all ∙ t.contents.ends_there;
    }
