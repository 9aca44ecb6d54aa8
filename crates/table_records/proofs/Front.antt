-- What stands at the front of bytes after writes into them.
use Rattle.std.specs.Prelude.{◌≡◌, ◌≤◌, ◌<◌, ◌^◌, ℕ, List, [], ◌∷◌, ◌++◌, length, take, drop, Some, nat_lt, if◌then◌else◌, slice_set, refl}
use Rattle.std.proofs.Common.{◌∙◌, ap, arith, length-append, length-drop}
use Rattle.std.proofs.lemmas.List.{take_more_set, take_at, drop_at}
use Rattle.byteorder.specs.Endian.{big_bytes, big_number}
use Rattle.byteorder.specs.Numbers.{big_number-reads_back, length-bytes_high_first}
use Rattle.table_records.specs.declared.jobs.JobKind.{JobKind}
use Rattle.table_records.specs.declared.jobs.JobKind.TheVariants.{Optimization, GarbageCollection, Scrubbing, Unoptimization}
use Rattle.table_records.specs.Keys.{kind_number, kind_of}
use Rattle.table_records.specs.Values.{result_in}

pub one_written : (out : List ℕ) (x : ℕ) → 1 ≤ length out → take 1 (slice_set out 0 x) ≡ x ∷ []
one_written out x room = take_more_set out 0 x (omega (arith, room))

pub two_written : (out : List ℕ) (x y : ℕ) → 2 ≤ length out → 2 ≤ length (slice_set out 0 x) → take 2 (slice_set (slice_set out 0 x) 1 y) ≡ x ∷ y ∷ []
two_written out x y room still =
    take_more_set (slice_set out 0 x) 1 y (omega (arith, still)) ∙ ap (λ (b : List ℕ). b ++ y ∷ []) (one_written out x (omega (arith, room)))

pub kind_back : (k : JobKind) → kind_of (kind_number k) ≡ Some k
kind_back Optimization = refl
kind_back GarbageCollection = refl
kind_back Scrubbing = refl
kind_back Unoptimization = refl

-- a number of eight bytes and a byte behind it
pub result_back : (second result : ℕ) (out : List ℕ) → second < 256 ^ 8 → 9 ≤ length out
    → result_in (take 9 (slice_set (big_bytes 8 second ++ drop 8 out) 8 result)) ≡ record { second = second; result = result }
result_back second result out fits room =
    let front : List ℕ = big_bytes 8 second in
    let size = length-bytes_high_first 8 second in
    let whole : 8 < length (big_bytes 8 second ++ drop 8 out) = omega (arith, room, size, length-append (big_bytes 8 second) (drop 8 out), length-drop 8 out) in
    let is : take 9 (slice_set (big_bytes 8 second ++ drop 8 out) 8 result) ≡ big_bytes 8 second ++ result ∷ [] =
    take_more_set (big_bytes 8 second ++ drop 8 out) 8 result whole
    ∙ ap (λ (b : List ℕ). b ++ result ∷ []) (take_at (big_bytes 8 second) (drop 8 out) 8 size) in
    let nine : length (big_bytes 8 second ++ result ∷ []) ≡ 9 = omega (arith, size, length-append (big_bytes 8 second) (result ∷ [])) in
    let one : big_number 8 (big_bytes 8 second ++ result ∷ []) ≡ second = big_number-reads_back 8 second (result ∷ []) fits in
    let two : drop 8 (big_bytes 8 second ++ result ∷ []) ≡ result ∷ [] = drop_at (big_bytes 8 second) (result ∷ []) 8 size in
    let last : big_number 1 (result ∷ []) ≡ result = omega arith in
    ap result_in is
    ∙ (λ i. record {
      second = if nat_lt (nine i) 8 then 0 else one i;
      result = if nat_lt (nine i) 9 then 0 else big_number 1 (two i);
    })
    ∙ (λ i. record { second = second; result = last i })
