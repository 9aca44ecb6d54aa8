-- The bytes of the settings, and the settings that bytes spell.
use Rattle.std.specs.Prelude.{◌+◌, ◌-◌, ◌^◌, ◌≤◌, ◌<◌, ◌||◌, ℕ, zero, suc, Bool, true, false, List, [], ◌∷◌, ◌++◌, length, get_or, take, drop, Option, Some, None, nat_lt, is_some, if◌then◌else◌}
use Rattle.std.specs.Option.{unwrap_or}
use Rattle.table_records.specs.declared.limits.TheConstants.{MOST_LIST_BYTES}
use Rattle.byteorder.specs.Endian.{big_bytes, big_number}
use Rattle.table_records.specs.declared.settings.Settings.{Settings}
use Rattle.table_records.specs.Texts.{list_bytes}

-- ---- from settings to bytes

abbrev pub flag_byte : Bool → ℕ
flag_byte false = 0
flag_byte true = 1

-- a text behind its length of two bytes
abbrev pub text_bytes : List ℕ → List ℕ
text_bytes text = big_bytes 2 (length text) ++ text

abbrev pub texts_bytes : List (List ℕ) → List ℕ
texts_bytes [] = []
texts_bytes (text ∷ texts) = text_bytes text ++ texts_bytes texts

-- texts behind their count of two bytes
abbrev pub counted_bytes : List (List ℕ) → List ℕ
counted_bytes texts = big_bytes 2 (length texts) ++ texts_bytes texts

-- the flags and the numbers, of fourteen bytes
abbrev pub head_bytes : Settings → List ℕ
head_bytes s =
    flag_byte s.enabled ∷ flag_byte s.verify ∷ (big_bytes 4 s.minimum_size ++ (big_bytes 4 s.age_days ++ big_bytes 4 s.threshold))

abbrev pub settings_bytes : Settings → List ℕ
settings_bytes s = head_bytes s ++ (counted_bytes s.folders ++ counted_bytes s.types)

-- ---- from bytes to settings

abbrev pub flag_in : ℕ → Option Bool
flag_in zero = Some false
flag_in (suc zero) = Some true
flag_in (suc (suc n)) = None

-- what is read, and the bytes behind it
abbrev pub Read : Type 0 → Type 0
Read A = Option (A × List ℕ)

abbrev pub with_text : List ℕ → Read (List (List ℕ)) → Read (List (List ℕ))
with_text text None = None
with_text text (Some (texts, rest)) = Some (text ∷ texts, rest)

-- the bytes of the first text, with its length
abbrev pub first_size : List ℕ → ℕ
first_size b = big_number 2 b + 2

-- the first text does not fit into the bytes, or into the room
abbrev pub is_cut : ℕ → List ℕ → Bool
is_cut room b = nat_lt (length b) (first_size b) || nat_lt room (first_size b)

-- so many texts, which fit into so much room
abbrev pub texts_in : ℕ → ℕ → List ℕ → Read (List (List ℕ))
texts_in zero room b = Some ([], b)
texts_in (suc n) room b =
    if is_cut room b then None
    else with_text (take (big_number 2 b) (drop 2 b)) (texts_in n (room - first_size b) (drop (first_size b) b))

-- texts behind their count, which take at most 8,192 bytes
abbrev pub counted_in : List ℕ → Read (List (List ℕ))
counted_in b = if nat_lt (length b) 2 then None else texts_in (big_number 2 b) MOST_LIST_BYTES (drop 2 b)

-- what is read, where nothing stands behind it
abbrev pub nothing_behind : {A : Type 0} → Read A → Option A
nothing_behind None = None
nothing_behind (Some (a, [])) = Some a
nothing_behind (Some (a, b ∷ rest)) = None

abbrev pub last_in : List ℕ → Option (List (List ℕ))
last_in b = nothing_behind (counted_in b)

abbrev pub with_types : List (List ℕ) → Option (List (List ℕ)) → Option (List (List ℕ) × List (List ℕ))
with_types folders None = None
with_types folders (Some types) = Some (folders, types)

-- the types behind the folders, and nothing behind them
abbrev pub types_behind : Read (List (List ℕ)) → Option (List (List ℕ) × List (List ℕ))
types_behind None = None
types_behind (Some (folders, rest)) = with_types folders (last_in rest)

abbrev pub lists_in : List ℕ → Option (List (List ℕ) × List (List ℕ))
lists_in b = types_behind (counted_in b)

abbrev pub settings_of : List ℕ → Option Bool → Option Bool → Option (List (List ℕ) × List (List ℕ)) → Option Settings
settings_of b None verify lists = None
settings_of b (Some enabled) None lists = None
settings_of b (Some enabled) (Some verify) None = None
settings_of b (Some enabled) (Some verify) (Some (folders, types)) = Some (record {
  enabled = enabled;
  verify = verify;
  minimum_size = big_number 4 (drop 2 b);
  age_days = big_number 4 (drop 6 b);
  threshold = big_number 4 (drop 10 b);
  folders = folders;
  types = types;
})

-- the settings that just these bytes spell: each flag is 0 or 1, and each list takes at most 8,192 bytes
abbrev pub settings_in : List ℕ → Option Settings
settings_in b =
    if nat_lt (length b) 14 then None
    else settings_of b (flag_in (get_or b 0 0)) (flag_in (get_or b 1 0)) (lists_in (drop 14 b))

abbrev pub empty_settings : Settings
empty_settings = record { enabled = false; verify = false; minimum_size = 0; age_days = 0; threshold = 0; folders = []; types = [] }

abbrev pub settings_or_empty : List ℕ → Settings
settings_or_empty b = unwrap_or (settings_in b) empty_settings

abbrev pub is_settings : List ℕ → Bool
is_settings b = is_some (settings_in b)

-- ---- what code reads, step by step

-- the bytes behind what is read
abbrev pub rest_of : {A : Type 0} → Read A → Option (List ℕ)
rest_of None = None
rest_of (Some (a, rest)) = Some rest

-- the size of the first text, where it fits into the bytes and into the room
abbrev pub fitting_size : ℕ → List ℕ → Option ℕ
fitting_size room b = if is_cut room b then None else Some (first_size b)

-- texts up to a place of bytes, and what stands behind
abbrev pub read_to : List ℕ → Option (List (List ℕ) × ℕ) → Read (List (List ℕ))
read_to b None = None
read_to b (Some (texts, place)) = Some (texts, drop place b)

-- the place lies within the bytes
abbrev pub IsWithin : List ℕ → Option (List (List ℕ) × ℕ) → Type 0
IsWithin b None = Unit {0}
IsWithin b (Some (texts, place)) = place ≤ length b

abbrev pub prepend : List (List ℕ) → Read (List (List ℕ)) → Read (List (List ℕ))
prepend front None = None
prepend front (Some (texts, rest)) = Some (front ++ texts, rest)

-- one list, and nothing behind it
abbrev pub is_last_rest : Option (List ℕ) → Bool
is_last_rest None = false
is_last_rest (Some []) = true
is_last_rest (Some (b ∷ rest)) = false

abbrev pub is_last : List ℕ → Bool
is_last b = is_last_rest (rest_of (counted_in b))

-- the numbers of settings have four bytes, and each list takes at most 8,192
pub record AreSpellable (s : Settings) : Type 0 where
  pub minimum_size : s.minimum_size < 256 ^ 4
  pub age_days : s.age_days < 256 ^ 4
  pub threshold : s.threshold < 256 ^ 4
  pub folders : list_bytes s.folders ≤ 8192
  pub types : list_bytes s.types ≤ 8192
