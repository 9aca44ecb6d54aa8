-- What a crash leaves in the two steps of a commit behind the last group, over any disk.
use Rattle.std.proofs.Common.{◌≡◌, ◌≢◌, inl, inr, ⊎_elim, ℕ, Bool, true, false, ◌+◌, ◌*◌, ◌≤◌, ◌<◌, ◌^◌, List, [], ◌∷◌, ◌++◌, length, get_or, take, drop, nat_lt, refl, sym, ◌∙◌, ap, subst, arith, ltb-true, ltb-false, length-append}
use Rattle.std.specs.Prelude.{Some, Ok, IsTrue}
use Rattle.std.proofs.lemmas.List.{get_or-take, get_or-drop, get_or_at, get_or_past, take_at, take-take}
use Rattle.vdisk.specs.Disk.{DiskState, ChangedWithin, Holds, Only}
use Rattle.vdisk.specs.Ranges.{part, length-part, part_part, part_written, part_apart, changed_same, changed_then, changed_wider, changed_part, same_front}
use Rattle.vdisk.specs.Steps.{Keeps, TornWithin, keeps_start, keeps_then, keeps_torn}
use Rattle.byte_map.specs.Words.{Map}
use Rattle.meta_log.specs.Records.{Record, records_of, changes}
use Rattle.meta_log.specs.Meta.{map_of_half, meta_of}
use Rattle.meta_log.specs.Group.{group_text, gate_behind, IsRoom}
use Rattle.meta_log.specs.Ready.{Layout, IsLive, Stands, IsCommitImage}
use Rattle.meta_log.proofs.Groups.{length_group, torn_behind, torn_gate, goes_on_behind}
use Rattle.meta_log.proofs.Lives.{Placed, placed, live_stays, same_live, same_other, spells_by, image_spells, stands_spells}

length_gate : (b : Bool) (next half : ℕ) → IsRoom b next half → next + length (gate_behind b) ≤ half
length_gate true next half room = omega (arith, room)
length_gate false next half room = omega (arith, room)

-- a gate goes behind a group exactly where a byte is left
pub room_for : (a b half : ℕ) → a ≡ b → b ≤ half → IsRoom (nat_lt a half) b half
room_for a b half same low = by (nat_lt a half) refl
  where
    by : (t : Bool) → nat_lt a half ≡ t → IsRoom t b half
    by true is = omega (arith, ltb-true a half is, same)
    by false is = omega (arith, ltb-false a half is, same, low)

-- so a group and that gate lie within the half
pub group_within : (place half : ℕ) (gate : Bool) (bytes : List ℕ) → IsRoom gate (place + (length bytes + 1)) half → place + 1 + length (bytes ++ gate_behind gate) ≤ half
group_within place half gate bytes room = omega (arith, length-append bytes (gate_behind gate), length_gate gate (place + (length bytes + 1)) half room)

module _ (l : Layout) (s₀ : DiskState) (m : Map) (stands : Stands l s₀ m) where
  abbrev live : List ℕ → List ℕ
  live c = part l.live_at l.half c

  abbrev other : List ℕ → List ℕ
  other c = part l.other_at l.half c

  where_is : Placed l
  where_is = placed l stands.halves

  long : (c : List ℕ) → length c ≡ length s₀.image → length (live c) ≡ l.half
  long c same = length-part l.live_at l.half c (omega (arith, where_is.live_high, stands.fits, same))

  -- a change inside the live half
  inside : (k n : ℕ) (x y : List ℕ) → length x ≡ length s₀.image → k + n ≤ l.half → ChangedWithin (l.live_at + k) n x y → ChangedWithin k n (live x) (live y)
  inside k n x y same within change = changed_part l.live_at l.half k n x y (omega (arith, where_is.live_high, stands.fits, same)) within change

  beside : (k n : ℕ) (x y : List ℕ) → k + n ≤ l.half → ChangedWithin (l.live_at + k) n x y → other y ≡ other x
  beside k n x y within change = part_apart (l.live_at + k) n l.other_at l.half x y (⊎_elim (λ low. inr (omega (arith, low, within))) (λ high. inl (omega (arith, high))) where_is.apart) change

  wide : (k n : ℕ) (x y : List ℕ) → k + n ≤ l.half → ChangedWithin (l.live_at + k) n x y → ChangedWithin l.at (2 * l.half) x y
  wide k n x y within change = changed_wider (l.live_at + k) n l.at (2 * l.half) x y (omega (arith, where_is.live_low)) (omega (arith, where_is.live_high, within)) change

  header : (k n : ℕ) (x y : List ℕ) → 45 ≤ k → ChangedWithin k n x y → take 45 y ≡ take 45 x
  header k n x y behind change = same_front 45 k x y behind change.before

  pub not_begun : (n : Map) → Keeps s₀ s₀ (IsCommitImage l.at l.half s₀ n)
  not_begun n = keeps_start s₀ (IsCommitImage l.at l.half s₀ n) (λ c left. inl (c, left, changed_same l.at (2 * l.half) c, refl))

  module _ (body : List ℕ) (rs : List Record) (gate : Bool) (short : length body < 2 ^ 32) (reads : records_of body ≡ Some rs) (room : IsRoom gate (l.place + (37 + length body)) l.half)
      (bytes : List ℕ) (is : bytes ≡ group_text body) where
    abbrev next : ℕ
    next = l.place + (37 + length body)

    abbrev text : List ℕ
    text = bytes ++ gate_behind gate

    abbrev n : Map
    n = changes rs m

    abbrev Q : List ℕ → Type 0
    Q = IsCommitImage l.at l.half s₀ n

    long_group : length bytes ≡ 36 + length body
    long_group = ap length is ∙ length_group body

    count : length text ≡ 36 + length body + length (gate_behind gate)
    count = omega (arith, length-append bytes (gate_behind gate), long_group)

    fits : l.place + 1 + length text ≤ l.half
    fits = omega (arith, count, length_gate gate next l.half room)

    module _ (s₁ : DiskState) (torn : TornWithin (l.live_at + (l.place + 1)) (length text) s₀ s₁) where
      -- while the group is written behind the closed gate
      pub behind : Keeps s₀ s₁ Q
      behind = keeps_torn s₀ s₁ (l.live_at + (l.place + 1)) (length text) s₀.may_leave Q torn (λ c left. left) (λ d c change left.
          let size = (stands.same d left).1 in
          let within : ChangedWithin (l.place + 1) (length text) (live s₀.image) (live c) =
          subst (λ (q : List ℕ). ChangedWithin (l.place + 1) (length text) q (live c)) (same_live l s₀ m stands d left) (inside (l.place + 1) (length text) d c size (omega (arith, fits)) change) in
          let spells : meta_of l.at l.half c ≡ Ok m =
          spells_by l s₀ m stands c m (beside (l.place + 1) (length text) d c (omega (arith, fits)) change ∙ same_other l s₀ m stands d left)
          (header (l.place + 1) (length text) (live s₀.image) (live c) (omega (arith, stands.goes_on.behind)) within)
          (torn_behind l.place (length text) (live s₀.image) (live c) m stands.goes_on within) in
          inl (d, left, wide (l.place + 1) (length text) d c (omega (arith, fits)) change, spells ∙ sym (stands_spells l s₀ m stands d left)))

      module _ (change : ChangedWithin (l.live_at + (l.place + 1)) (length text) s₀.image s₁.image) (written : Holds s₀.image (l.live_at + (l.place + 1)) text s₁.image) (only : Only s₁.image s₁.may_leave) where
        within₁ : ChangedWithin (l.place + 1) (length text) (live s₀.image) (live s₁.image)
        within₁ = inside (l.place + 1) (length text) s₀.image s₁.image refl (omega (arith, fits)) change

        -- what was written, in the live half
        there : part (l.place + 1) (length text) (live s₁.image) ≡ text
        there =
            part_part l.live_at l.half (l.place + 1) (length text) s₁.image (omega (arith, fits))
            ∙ part_written (l.live_at + (l.place + 1)) s₀.image text s₁.image (omega (arith, fits, where_is.live_high, stands.fits)) written

        group : part (l.place + 1) (36 + length body) (live s₁.image) ≡ group_text body
        group =
            sym (take-take (36 + length body) (length text) (drop (l.place + 1) (live s₁.image)) (omega (arith, count)))
            ∙ ap (λ (q : List ℕ). take (36 + length body) q) there
            ∙ take_at bytes (gate_behind gate) (36 + length body) long_group
            ∙ is

        -- no open gate behind the group
        shut : get_or (live s₁.image) next 0 ≢ 1
        shut = by gate room refl
          where
            by : (b : Bool) → IsRoom b next l.half → b ≡ gate → get_or (live s₁.image) next 0 ≢ 1
            by true low same opens =
                let place : l.place + 1 + (36 + length body) ≡ next = omega arith in
                let end : gate_behind gate ≡ 0 ∷ [] = ap gate_behind (sym same) in
                let more : 36 + length body < length text = omega (arith, count, ap length end) in
                let zero_gate : get_or (live s₁.image) next 0 ≡ 0 =
                ap (λ (j : ℕ). get_or (live s₁.image) j 0) (sym place) ∙ sym (get_or-drop (l.place + 1) (live s₁.image) (36 + length body) 0)
                ∙ sym (get_or-take (length text) (drop (l.place + 1) (live s₁.image)) (36 + length body) 0 more)
                ∙ ap (λ (q : List ℕ). get_or q (36 + length body) 0) (there ∙ ap (λ (q : List ℕ). bytes ++ q) end)
                ∙ get_or_at bytes 0 [] 0 (36 + length body) long_group in
                absurd (omega (arith, opens, zero_gate))
            by false full same opens = absurd (omega (arith, opens, get_or_past (live s₁.image) next 0 (omega (arith, full, long s₁.image change.size))))

        group_fits : l.place + (37 + length body) ≤ length (live s₀.image)
        group_fits = omega (arith, fits, count, long s₀.image refl)

        -- an image whose gate alone is torn
        gate_inside : (c : List ℕ) → ChangedWithin (l.live_at + l.place) 1 s₁.image c → ChangedWithin l.place 1 (live s₁.image) (live c)
        gate_inside c torn_gate = inside l.place 1 s₁.image c change.size (omega (arith, fits)) torn_gate

        gate_wide : (c : List ℕ) → ChangedWithin (l.live_at + l.place) 1 s₁.image c → ChangedWithin l.at (2 * l.half) s₀.image c
        gate_wide c torn_gate = changed_then l.at (2 * l.half) s₀.image s₁.image c (wide (l.place + 1) (length text) s₀.image s₁.image (omega (arith, fits)) change) (wide l.place 1 s₁.image c (omega (arith, fits)) torn_gate)

        gate_other : (c : List ℕ) → ChangedWithin (l.live_at + l.place) 1 s₁.image c → other c ≡ other s₀.image
        gate_other c torn_gate = beside l.place 1 s₁.image c (omega (arith, fits)) torn_gate ∙ beside (l.place + 1) (length text) s₀.image s₁.image (omega (arith, fits)) change

        gate_header : (c : List ℕ) → ChangedWithin (l.live_at + l.place) 1 s₁.image c → take 45 (live c) ≡ take 45 (live s₀.image)
        gate_header c torn_gate =
            header l.place 1 (live s₁.image) (live c) stands.goes_on.behind (gate_inside c torn_gate)
            ∙ header (l.place + 1) (length text) (live s₀.image) (live s₁.image) (omega (arith, stands.goes_on.behind)) within₁

        module _ (s₂ : DiskState) (torn₂ : TornWithin (l.live_at + l.place) 1 s₁ s₂) where
          -- while the gate is opened
          pub opening : Keeps s₀ s₂ Q
          opening = keeps_then s₀ s₁ s₂ Q behind (keeps_torn s₁ s₂ (l.live_at + l.place) 1 (λ c. c ≡ s₁.image) Q torn₂ only (λ d c change₂ is.
              let here : ChangedWithin (l.live_at + l.place) 1 s₁.image c = subst (λ (q : List ℕ). ChangedWithin (l.live_at + l.place) 1 q c) is change₂ in
              let spells : (q : Map) → map_of_half (live c) ≡ Some q → meta_of l.at l.half c ≡ Ok q = λ q by. spells_by l s₀ m stands c q (gate_other c here) (gate_header c here) by in
              ⊎_elim (λ old. inl (s₀.image, s₀.reads, gate_wide c here, spells m old ∙ sym (image_spells l s₀ m stands))) (λ new. inr (gate_wide c here, spells n new))
              (torn_gate l.place (live s₀.image) (live s₁.image) body rs m (length text) short reads stands.goes_on group_fits within₁ group shut (live c) (gate_inside c here))))

          module _ (change₂ : ChangedWithin (l.live_at + l.place) 1 s₁.image s₂.image) (written₂ : Holds s₁.image (l.live_at + l.place) (1 ∷ []) s₂.image) (only₂ : Only s₂.image s₂.may_leave) where
            gate_there : get_or (live s₂.image) l.place 0 ≡ 1
            gate_there =
                (let same : l.place ≡ l.place + 0 = omega arith in ap (λ (k : ℕ). get_or (live s₂.image) k 0) same)
                ∙ sym (get_or-take 1 (drop l.place (live s₂.image)) 0 0 (omega arith) ∙ get_or-drop l.place (live s₂.image) 0 0)
                ∙ ap (λ (q : List ℕ). get_or q 0 0) (part_part l.live_at l.half l.place 1 s₂.image (omega (arith, fits))
                ∙ part_written (l.live_at + l.place) s₁.image (1 ∷ []) s₂.image (omega (arith, fits, where_is.live_high, stands.fits, change.size)) written₂)

            -- the gate is open, and all is on the disk
            pub done : Stands (record l { place = next }) s₂ n
            done = record {
              told = subst (λ b. IsTrue b) (sym (torn₂.tells ∙ torn.tells)) stands.told;
              fits = omega (arith, stands.fits, change.size, change₂.size);
              halves = stands.halves;
              same = λ c left. (ap (λ (q : List ℕ). part l.at (2 * l.half) q) (only₂ c left), ap length (only₂ c left));
              live = subst (λ (q : List ℕ). IsLive l.epoch l.other_open (live s₂.image) q) (sym (gate_other s₂.image change₂))
                  (live_stays l.epoch l.other_open (live s₀.image) (live s₂.image) (other s₀.image) (gate_header s₂.image change₂) stands.live);
              goes_on = goes_on_behind l.place (live s₀.image) (live s₁.image) body rs m (length text) short reads stands.goes_on group_fits within₁ group shut (live s₂.image) (gate_inside s₂.image change₂) gate_there;
            }

            pub outside : ChangedWithin l.at (2 * l.half) s₀.image s₂.image
            outside = gate_wide s₂.image change₂
