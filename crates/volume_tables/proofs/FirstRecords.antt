-- A put for which there is room.
use Rattle.std.specs.Prelude.{◌⊎◌, ◌↔◌, ◌≤◌, ◌<◌, ◌+◌, ℕ, List, [], ◌∷◌, length}
use Rattle.std.specs.Prelude.{Result, Ok, Err, IsErrOf, OnErr}
use Rattle.std.proofs.Common.{arith, ⊎_elim}
use Rattle.std.specs.FinMap.Entries.{put, by_order}
use Rattle.std.specs.declared.cmp.Ordering.TheVariants.{Less, Equal, Greater}
use Rattle.byte_map.specs.Words.{Map, bytes_cmp, bytes_in}
use Rattle.meta_log.specs.Log.{checkpoint_length}
use Rattle.meta_log.specs.declared.fault.MetaFault.{MetaFault}
use Rattle.meta_log.specs.declared.fault.MetaFault.TheVariants.{GroupFull, TableFull, Memory}

-- a put makes a map longer by its own pair at most
put_length : (k v : List ℕ) (m : Map) → length (put bytes_cmp k v m) ≤ length m + 1
put_length k v [] = omega arith
put_length k v (e ∷ m) =
    let rest = put_length k v m in
    elim (bytes_cmp k e.0) as (λ r. length (by_order r ((k, v) ∷ e ∷ m) ((e.0, v) ∷ m) (e ∷ put bytes_cmp k v m))
    ≤ length (e ∷ m) + 1) [
      | Less ↦ omega arith
      | Equal ↦ omega arith
      | Greater ↦ omega (arith, rest)
    ]

put_bytes : (k v : List ℕ) (m : Map) → bytes_in (put bytes_cmp k v m) ≤ bytes_in m + (length k + length v)
put_bytes k v [] = omega arith
put_bytes k v (e ∷ m) =
    let rest = put_bytes k v m in
    elim (bytes_cmp k e.0) as (λ r. bytes_in (by_order r ((k, v) ∷ e ∷ m) ((e.0, v) ∷ m) (e ∷ put bytes_cmp k v m))
    ≤ bytes_in (e ∷ m) + (length k + length v)) [
      | Less ↦ omega arith
      | Equal ↦ omega arith
      | Greater ↦ omega (arith, rest)
    ]

pub put_checkpoint : (k v : List ℕ) (m : Map)
    → checkpoint_length (put bytes_cmp k v m) ≤ checkpoint_length m + (5 + (length k + length v))
put_checkpoint k v m = omega (arith, put_length k v m, put_bytes k v m)

-- a put that fits
pub put_refused : {n half bytes : ℕ} (r : Result (Unit {0}) MetaFault) → (IsErrOf r GroupFull ↔ (65536 < n))
    → (IsErrOf r TableFull ↔ ((n ≤ 65536) × (half < bytes))) → n ≤ 65536 → bytes ≤ half
    → OnErr r (IsErrOf r GroupFull ⊎ (IsErrOf r TableFull ⊎ IsErrOf r Memory)) → OnErr r (IsErrOf r Memory)
put_refused (Ok u) group half fits short refused = tt
put_refused (Err e) group half fits short refused =
    ⊎_elim (λ full. absurd (let past = group.0 full in omega (arith, past, fits)))
    (λ rest. ⊎_elim (λ full. absurd (let past = half.0 full in omega (arith, past.1, short))) (λ memory. memory) rest)
    refused
