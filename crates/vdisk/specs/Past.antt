-- What a disk in memory held at each moment, computed from the record of its calls. Events stand with the newest first.
use Rattle.std.specs.Prelude.{◌≡◌, ◌⊎◌, ◌≤◌, ◌+◌, ◌-◌, ℕ, Bool, true, false, leb, ltb, ◌&&◌, ◌||◌, if◌then◌else◌, List, [], ◌∷◌, ◌++◌, length, take, drop, get_or}
use Rattle.vdisk.specs.declared.record.Change.{Change}
use Rattle.vdisk.specs.declared.record.Change.TheVariants.{Wrote, Grew, Synced}
use Rattle.vdisk.specs.declared.record.Event.{Event}

-- the image with these bytes at this place
abbrev pub put : List ℕ → ℕ → List ℕ → List ℕ
put image at bytes = take at image ++ bytes ++ drop (at + length bytes) image

-- the image before a change
abbrev pub before : Change → List ℕ → List ℕ
before (Wrote at was) image = put image at was.items
before (Grew from) image = take from image
before Synced image = image

-- place i lies in the n bytes from a place on
abbrev pub lies_in : ℕ → ℕ → ℕ → Bool
lies_in at n i = leb at i && ltb i (at + n)

abbrev pub is_sync : Change → Bool
is_sync (Wrote at was) = false
is_sync (Grew from) = false
is_sync Synced = true

-- the change leaves place i pending
abbrev pub touches : Change → ℕ → Bool
touches (Wrote at was) i = lies_in at (length was.items) i
touches (Grew from) i = leb from i
touches Synced i = false

-- place i was written, or came with the disk's growth, since the last sync
abbrev pub is_pending : List Event → ℕ → Bool
is_pending [] i = false
is_pending (e ∷ es) i = if is_sync e.change then false else (touches e.change i || is_pending es i)

-- a crash may leave this: any bytes where one is pending, and what reads give elsewhere
pub record LeftByCrash (image : List ℕ) (events : List Event) (c : List ℕ) : Type 0 where
  pub size : length c ≡ length image
  pub clean : (i : ℕ) → is_pending events i ≡ false → get_or c i 0 ≡ get_or image i 0

-- at some moment since t, before the last of these events, a crash might have left this
abbrev pub Had : ℕ → List ℕ → List Event → List ℕ → Type 0
Had t image [] c = ⊥
Had t image (e ∷ es) c = ((t ≤ e.stamp) × LeftByCrash (before e.change image) es c) ⊎ Had t (before e.change image) es c

-- the byte of place i before a change: 0 past the size of then
abbrev pub byte_before : Change → ℕ → ℕ → ℕ
byte_before (Wrote at was) i now = if lies_in at (length was.items) i then get_or was.items (i - at) 0 else now
byte_before (Grew from) i now = if leb from i then 0 else now
byte_before Synced i now = now

-- the byte of place i at the last sync, by what it is now
abbrev pub byte_at_sync : List Event → ℕ → ℕ → ℕ
byte_at_sync [] i now = now
byte_at_sync (e ∷ es) i now = if is_sync e.change then now else byte_at_sync es i (byte_before e.change i now)
