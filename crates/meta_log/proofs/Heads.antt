-- The record at the front of some bytes, by its head.
use Rattle.std.proofs.Common.{◌≡◌, ℕ, suc, Bool, true, false, ◌+◌, ◌≤◌, ◌<◌, List, length, get_or, nat_lt, refl, ap, arith}
use Rattle.std.specs.Prelude.{if◌then◌else◌, None}
use Rattle.std.proofs.lemmas.Bool.{le-ltb, lt-ltb}
use Rattle.vdisk.specs.Ranges.{part}
use Rattle.meta_log.specs.Records.{tagged, record_at, first_length, second_length, rest_length}

pub record_whole : (bytes : List ℕ) → 5 + (first_length bytes + second_length bytes) ≤ length bytes
    → record_at bytes ≡ tagged (get_or bytes 0 0) (part 5 (first_length bytes) bytes) (part (5 + first_length bytes) (second_length bytes) bytes)
record_whole bytes whole =
    let long : nat_lt (length bytes) (suc (rest_length bytes)) ≡ false = le-ltb _ _ (omega (arith, whole)) in
    ap (λ (t : Bool). if t then None else tagged (get_or bytes 0 0) (part 5 (first_length bytes) bytes) (part (5 + first_length bytes) (second_length bytes) bytes)) long

pub record_cut : (bytes : List ℕ) → length bytes < 5 + (first_length bytes + second_length bytes) → record_at bytes ≡ None
record_cut bytes short =
    let cut : nat_lt (length bytes) (suc (rest_length bytes)) ≡ true = lt-ltb _ _ (omega (arith, short)) in
    ap (λ (t : Bool). if t then None else tagged (get_or bytes 0 0) (part 5 (first_length bytes) bytes) (part (5 + first_length bytes) (second_length bytes) bytes)) cut

pub record_untagged : (bytes : List ℕ) → ((a b : List ℕ) → tagged (get_or bytes 0 0) a b ≡ None) → record_at bytes ≡ None
record_untagged bytes unknown =
    elim (nat_lt (length bytes) (suc (rest_length bytes))) as (λ t. (if t then None else tagged (get_or bytes 0 0) (part 5 (first_length bytes) bytes) (part (5 + first_length bytes) (second_length bytes) bytes)) ≡ None) [
      | true ↦ refl
      | false ↦ unknown _ _
    ]
