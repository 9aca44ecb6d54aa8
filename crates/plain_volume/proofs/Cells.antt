-- Bytes as cells.
use Rattle.std.proofs.Common.{◌≡◌, ℕ, zero, suc, ◌+◌, Bool, List, [], ◌∷◌, length, map, take, drop, replicate, None, refl, sym, ap, ◌∙◌, ◌-◌, ◌++◌}
use Rattle.std.proofs.lemmas.List.{map-append, take-map, drop-map, length-map}
use Rattle.plain_volume.specs.Volume.{cells_from, lost_where, bytes_of, overwritten, resized}
use Rattle.plain_volume.specs.Volume.Cell.{Byte}
use Rattle.plain_volume.specs.Step.{lost_beside}
use Rattle.plain_volume.specs.Files.{with_bytes_at}

pub none_lost : (test : ℕ → Bool) (n : ℕ) (bytes : List ℕ) → lost_where test n (cells_from bytes) ≡ None
none_lost test n [] = refl
none_lost test n (b ∷ bytes) = none_lost test (n + 1) bytes

pub none_beside : (at : ℕ) (bytes old : List ℕ) → lost_beside at bytes (cells_from old) ≡ None
none_beside at [] old = refl
none_beside at (b ∷ bytes) old = none_lost _ 0 old

pub bytes_again : (bytes : List ℕ) → bytes_of (cells_from bytes) ≡ bytes
bytes_again [] = refl
bytes_again (b ∷ bytes) = ap (λ bs. b ∷ bs) (bytes_again bytes)

pub bytes_read : (n at : ℕ) (bytes : List ℕ) → bytes_of (take n (drop at (cells_from bytes))) ≡ take n (drop at bytes)
bytes_read n at bytes = ap (λ cells. bytes_of (take n cells)) (drop-map Byte at bytes) ∙ ap bytes_of (take-map Byte n (drop at bytes)) ∙ bytes_again (take n (drop at bytes))

zeros : (n : ℕ) → map Byte (replicate n 0) ≡ replicate n (Byte 0)
zeros zero = refl
zeros (suc n) = ap (λ cells. Byte 0 ∷ cells) (zeros n)

pub cells_written : (at b : ℕ) (bytes old : List ℕ) → overwritten at (b ∷ bytes) (cells_from old) ≡ cells_from (with_bytes_at at (b ∷ bytes) old)
cells_written at b bytes old =
    sym (simp (map-append, zeros, length-map) (rw (take-map Byte at old, drop-map Byte (at + length (b ∷ bytes)) old) refl))

pub cells_resized : (len : ℕ) (old : List ℕ) → resized len (cells_from old) ≡ cells_from (take len old ++ replicate (len - length old) 0)
cells_resized len old = sym (simp (map-append, zeros, length-map) (rw (take-map Byte len old) refl))
