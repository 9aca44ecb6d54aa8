-- The settings that a well-formed map holds.
use Rattle.std.specs.Prelude.{◌≡◌, ℕ, List, [], ◌∷◌, Option, Some, None, IsTrue, is_some, refl}
use Rattle.std.proofs.Common.{sym, ◌∙◌, ap}
use Rattle.std.proofs.lemmas.Bool.{false≢true}
use Rattle.std.proofs.lemmas.Map.Lookups.{exact_bytes}
use Rattle.std.specs.Option.{option_map, unwrap_or}
use Rattle.std.specs.FinMap.Entries.{find}
use Rattle.byte_map.specs.Words.{Map, bytes_cmp}
use Rattle.table_records.specs.Codecs.{typed, IsPairOf}
use Rattle.table_records.specs.Keys.{single_cmp}
use Rattle.table_records.specs.Laws.{find_typed}
use Rattle.table_records.specs.Settings.{settings_in, settings_or_empty, empty_settings}
use Rattle.table_records.specs.Tables.{settings_codec}
use Rattle.table_records.specs.WellFormed.{IsWellFormed, AllWellFormed}
use Rattle.table_records.specs.declared.settings.Settings.{Settings}
use Rattle.table_records.proofs.Belongs.{belongs, settings_are_table}
use Rattle.volume_inside.specs.Entries.{each_found}
use Rattle.table_rules.proofs.Eaches.{pairs_of_spelled}

some_again : (o : Option Settings) → IsTrue (is_some o) → o ≡ Some (unwrap_or o empty_settings)
some_again None some = absurd (false≢true some)
some_again (Some s) some = refl

pub stored_there : (m : Map) (value : List ℕ) → AllWellFormed m → find bytes_cmp (9 ∷ []) m ≡ Some value
    → settings_in value ≡ find single_cmp tt (typed settings_codec m)
stored_there m value spelled there =
    let pair : IsPairOf settings_codec (9 ∷ []) value =
    belongs settings_codec settings_are_table (9 ∷ []) value (each_found bytes_cmp exact_bytes IsWellFormed (9 ∷ []) value m there (pairs_of_spelled m spelled)) refl in
    some_again (settings_in value) pair.whole
    ∙ ap (λ (o : Option (List ℕ)). option_map settings_or_empty o) (sym there)
    ∙ sym (find_typed settings_codec (9 ∷ []) tt refl m)

pub none_there : (m : Map) → find bytes_cmp (9 ∷ []) m ≡ None → None ≡ find single_cmp tt (typed settings_codec m)
none_there m there =
    ap (λ (o : Option (List ℕ)). option_map settings_or_empty o) (sym there) ∙ sym (find_typed settings_codec (9 ∷ []) tt refl m)
