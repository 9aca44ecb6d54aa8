-- Which of the images that a crash may leave a number picks.
use Rattle.std.specs.Prelude.{◌≡◌, ◌<◌, ◌+◌, ◌*◌, ◌/◌, ◌%◌, ◌^◌, ℕ, zero, suc, Bool, true, false, if◌then◌else◌, ◌==◌, List, length, get_or}
use Rattle.vdisk.specs.declared.record.Event.{Event}
use Rattle.vdisk.specs.declared.crash.TheConstants.{MULTIPLIER, INCREMENT}
use Rattle.vdisk.specs.Past.{is_pending, byte_at_sync}

-- the next state of a linear congruential generator
abbrev pub next_state : ℕ → ℕ
next_state s = (s * MULTIPLIER + INCREMENT) % 2 ^ 64

-- its state after so many draws
abbrev pub state_after : ℕ → ℕ → ℕ
state_after seed zero = seed
state_after seed (suc k) = next_state (state_after seed k)

-- byte k that it draws: the highest byte of the state
abbrev pub drawn_byte : ℕ → ℕ → ℕ
drawn_byte seed k = next_state (state_after seed k) / 2 ^ 56

-- how many places below this one pass the test
abbrev pub places_below : (ℕ → Bool) → ℕ → ℕ
places_below test zero = 0
places_below test (suc i) = if test i then places_below test i + 1 else places_below test i

-- the byte that a pick gives at a pending place: that of the last sync, that of reads, or the next one drawn
abbrev pub picked_byte : List ℕ → List Event → ℕ → ℕ → ℕ
picked_byte image events pick i =
    if pick == 0 then byte_at_sync events i (get_or image i 0)
    else (if pick == 1 then get_or image i 0 else drawn_byte pick (places_below (is_pending events) i))

-- the image that a pick gives
pub record IsPicked (image : List ℕ) (events : List Event) (pick : ℕ) (c : List ℕ) : Type 0 where
  pub size : length c ≡ length image
  pub clean : (i : ℕ) → is_pending events i ≡ false → get_or c i 0 ≡ get_or image i 0
  pub pending : (i : ℕ) → i < length image → is_pending events i ≡ true → get_or c i 0 ≡ picked_byte image events pick i
