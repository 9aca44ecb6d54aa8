-- Words of the laws on the crash model.
use Rattle.std.specs.Prelude.{◌≡◌, ◌⊎◌, ◌<◌, ◌≤◌, ◌+◌, ◌-◌, ℕ, List, length, get_or}

-- each byte is that of the image or, in the range, the written one
pub record IsMix (at : ℕ) (bytes image mix : List ℕ) : Type 0 where
  pub size : length mix ≡ length image
  pub each : (i : ℕ)
      → (get_or mix i 0 ≡ get_or image i 0)
      ⊎ ((at ≤ i) × (i < at + length bytes) × (get_or mix i 0 ≡ get_or bytes (i - at) 0))
