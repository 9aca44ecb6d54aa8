-- What a staged record does to the length of a checkpoint, and to the records.
use Rattle.std.proofs.Common.{◌≡◌, ℕ, ◌≤◌, List, [], ◌∷◌, ◌++◌, length, drop, sym, ◌∙◌, ap, arith}
use Rattle.std.specs.Prelude.{Some}
use Rattle.std.proofs.lemmas.List.{drop-append-le, drop_all}
use Rattle.byte_map.specs.Words.{Map, without}
use Rattle.byte_map.specs.Laws.{length_without, bytes_in_without}
use Rattle.meta_log.specs.Log.{checkpoint_length}
use Rattle.meta_log.specs.Records.{Record, records_of, changes}
use Rattle.meta_log.specs.Spelled.{Fits, bytes_of, records_push}

pub length_dropped : (from to : List ℕ) (m : Map) → checkpoint_length (without from to m) ≤ checkpoint_length m
length_dropped from to m = omega (arith, length_without from to m, bytes_in_without from to m)

-- one more record behind those that are staged
pub records_staged : (staged new : List ℕ) (r : Record) (rs : List Record) → 36 ≤ length staged → Fits r → new ≡ staged ++ bytes_of r
    → records_of (drop 36 staged) ≡ Some rs → records_of (drop 36 new) ≡ Some (rs ++ r ∷ [])
records_staged staged new r rs head fits is spelled =
    ap (λ (q : List ℕ). records_of q) (ap (λ (q : List ℕ). drop 36 q) is ∙ drop-append-le 36 staged (bytes_of r) head)
    ∙ records_push (drop 36 staged) rs r fits spelled

-- with nothing staged the stored map is the map now
pub stored_is_now : (staged : List ℕ) (rs : List Record) (m n : Map) → length staged ≤ 36 → records_of (drop 36 staged) ≡ Some rs → changes rs m ≡ n → m ≡ n
stored_is_now staged rs m n few spelled now =
    let read : Some [] ≡ Some rs = ap (λ (q : List ℕ). records_of q) (sym (drop_all 36 staged few)) ∙ spelled in
    let none : [] ≡ rs = cc in
    ap (λ (qs : List Record). changes qs m) none ∙ now
