-- How the bytes that a pick draws are laid over the pending places.
use Rattle.std.proofs.Common.{◌≡◌, ◌≢◌, ◌<◌, ◌≤◌, ◌+◌, ◌/◌, ◌^◌, ⊎_elim, ℕ, zero, suc, Bool, true, false, List, length, get_or, set, sym, ◌∙◌, ap, subst, refl, arith, eqb, leb, ◌||◌, ◌-◌, if◌then◌else◌, [], ◌∷◌, add-one, get_or-set_other, get_or-set_same}
use Rattle.std.proofs.lemmas.Bool.{cases_Bool, cases_lt, cases_eq, cond-true, cond-false, or_parts, ne_eqb, both_ways}
use Rattle.std.proofs.lemmas.List.{get_or_past}
use Rattle.vdisk.specs.Past.{is_sync, touches, lies_in, is_pending, byte_before, byte_at_sync}
use Rattle.vdisk.specs.Picks.{next_state, state_after, drawn_byte, places_below, IsPicked}
use Rattle.vdisk.specs.declared.record.Event.{Event}
use Rattle.vdisk.specs.declared.record.Change.{Change}
use Rattle.vdisk.specs.declared.record.Change.TheVariants.{Wrote, Grew, Synced}

abbrev pub marked : List Bool → ℕ → Bool
marked marks k = get_or marks k false

below_hit : (test : ℕ → Bool) (i : ℕ) → test i ≡ true → places_below test (i + 1) ≡ places_below test i + 1
below_hit test i hit = ap (places_below test) (add-one i) ∙ cond-true (test i) (places_below test i + 1) (places_below test i) hit

below_miss : (test : ℕ → Bool) (i : ℕ) → test i ≡ false → places_below test (i + 1) ≡ places_below test i
below_miss test i miss = ap (places_below test) (add-one i) ∙ cond-false (test i) (places_below test i + 1) (places_below test i) miss

state_more : (seed n : ℕ) → state_after seed (n + 1) ≡ next_state (state_after seed n)
state_more seed n = ap (state_after seed) (add-one n)

-- the pending places below i have their bytes, and no other place was changed
pub record Drawn (seed : ℕ) (marks : List Bool) (first : List ℕ) (i state : ℕ) (now : List ℕ) : Type 0 where
  pub state_is : state ≡ state_after seed (places_below (marked marks) i)
  pub drawn : (k : ℕ) → k < i → get_or marks k false ≡ true
      → get_or now k 0 ≡ drawn_byte seed (places_below (marked marks) k)
  pub clean : (k : ℕ) → get_or marks k false ≡ false → get_or now k 0 ≡ get_or first k 0

-- no place below i is marked
none_below : (marks : List Bool) (i : ℕ) → ((k : ℕ) → k < i → get_or marks k false ≡ false) → places_below (marked marks) i ≡ 0
none_below marks zero none = refl
none_below marks (suc i) none =
    cond-false (get_or marks i false) (places_below (marked marks) i + 1) (places_below (marked marks) i) (none i (omega arith))
    ∙ none_below marks i (λ k low. none k (omega (arith, low)))

pub drawn_start : (seed : ℕ) (marks : List Bool) (first : List ℕ) (from : ℕ) → ((k : ℕ) → k < from → get_or marks k false ≡ false)
    → Drawn seed marks first from seed first
drawn_start seed marks first from none = record {
  state_is = ap (state_after seed) (sym (none_below marks from none));
  drawn = λ k low hit. absurd (both_ways (get_or marks k false) (none k low) hit);
  clean = λ k miss. refl;
}

-- a place that is not in the stretch is not marked
pub unmarked : (marks : List Bool) (size from to : ℕ) → length marks ≡ size
    → ((i : ℕ) → i < size → get_or marks i false ≡ true → (from ≤ i) × (i < to)) → (k : ℕ) → k < from → get_or marks k false ≡ false
unmarked marks size from to long stretch k low = ⊎_elim
    (λ hit. ⊎_elim (λ within. absurd (omega (arith, low, (stretch k within hit).0)))
    (λ past. get_or_past marks k false (omega (arith, past, long))) (cases_lt k size))
    (λ miss. miss)
    (cases_Bool (get_or marks k false))

pub drawn_hit : (seed : ℕ) (marks : List Bool) (first : List ℕ) (i state : ℕ) (now : List ℕ) → i < length now
    → get_or marks i false ≡ true → Drawn seed marks first i state now
    → Drawn seed marks first (i + 1) (next_state state) (set now i (next_state state / 2 ^ 56))
drawn_hit seed marks first i state now within hit so_far =
    let byte : ℕ = next_state state / 2 ^ 56 in
    record {
      state_is = ap next_state so_far.state_is ∙ sym (state_more seed (places_below (marked marks) i)) ∙ ap (state_after seed) (sym (below_hit (marked marks) i hit));
      drawn = λ k low pends. ⊎_elim
          (λ here. subst (λ (j : ℕ). get_or (set now i byte) j 0 ≡ drawn_byte seed (places_below (marked marks) j)) (sym here)
          (get_or-set_same now i byte 0 within ∙ ap (λ (s : ℕ). next_state s / 2 ^ 56) so_far.state_is))
          (λ other. get_or-set_other now i k byte 0 other ∙ so_far.drawn k (omega (arith, low, other)) pends)
          (cases_eq k i);
      clean = λ k miss. ⊎_elim
          (λ here. absurd (both_ways (get_or marks i false) (subst (λ (j : ℕ). get_or marks j false ≡ false) here miss) hit))
          (λ other. get_or-set_other now i k byte 0 other ∙ so_far.clean k miss)
          (cases_eq k i);
    }

pub drawn_miss : (seed : ℕ) (marks : List Bool) (first : List ℕ) (i state : ℕ) (now : List ℕ)
    → get_or marks i false ≡ false → Drawn seed marks first i state now → Drawn seed marks first (i + 1) state now
drawn_miss seed marks first i state now miss so_far = record {
  state_is = so_far.state_is ∙ ap (state_after seed) (sym (below_miss (marked marks) i miss));
  drawn = λ k low pends. ⊎_elim
      (λ here. absurd (both_ways (get_or marks i false) miss (subst (λ (j : ℕ). get_or marks j false ≡ true) here pends)))
      (λ other. so_far.drawn k (omega (arith, low, other)) pends)
      (cases_eq k i);
  clean = so_far.clean;
}

pub drawn_more : (seed : ℕ) (marks : List Bool) (first : List ℕ) (i state next : ℕ) (now new : List ℕ)
    → i < length now → Drawn seed marks first i state now
    → (get_or marks i false ≡ true → next ≡ next_state state) → (get_or marks i false ≡ true → new ≡ set now i (next_state state / 2 ^ 56))
    → (get_or marks i false ≡ false → next ≡ state) → (get_or marks i false ≡ false → new ≡ now) → Drawn seed marks first (i + 1) next new
drawn_more seed marks first i state next now new within so_far hit_state hit_byte miss_state miss_byte = ⊎_elim
    (λ hit. subst (λ (n : ℕ). Drawn seed marks first (i + 1) n new) (sym (hit_state hit))
    (subst (λ (l : List ℕ). Drawn seed marks first (i + 1) (next_state state) l) (sym (hit_byte hit)) (drawn_hit seed marks first i state now within hit so_far)))
    (λ miss. subst (λ (n : ℕ). Drawn seed marks first (i + 1) n new) (sym (miss_state miss))
    (subst (λ (l : List ℕ). Drawn seed marks first (i + 1) state l) (sym (miss_byte miss)) (drawn_miss seed marks first i state now miss so_far)))
    (cases_Bool (get_or marks i false))

-- tests that agree below a place
below_same : (p q : ℕ → Bool) (i : ℕ) → ((k : ℕ) → k < i → p k ≡ q k) → places_below p i ≡ places_below q i
below_same p q zero same = refl
below_same p q (suc i) same =
    let rest : places_below p i ≡ places_below q i = below_same p q i (λ k low. same k (omega (arith, low))) in
    let here : p i ≡ q i = same i (omega arith) in
    ⊎_elim
    (λ hit. cond-true (p i) (places_below p i + 1) (places_below p i) hit ∙ ap (λ (n : ℕ). n + 1) rest ∙ sym (cond-true (q i) (places_below q i + 1) (places_below q i) (sym here ∙ hit)))
    (λ miss. cond-false (p i) (places_below p i + 1) (places_below p i) miss ∙ rest ∙ sym (cond-false (q i) (places_below q i + 1) (places_below q i) (sym here ∙ miss)))
    (cases_Bool (p i))

-- past the end there is nothing to change
pub all_clean : (image c : List ℕ) (es : List Event) → length c ≡ length image
    → ((i : ℕ) → i < length image → is_pending es i ≡ false → get_or c i 0 ≡ get_or image i 0)
    → (i : ℕ) → is_pending es i ≡ false → get_or c i 0 ≡ get_or image i 0
all_clean image c es size clean i none = ⊎_elim (λ low. clean i low none)
    (λ past. get_or_past c i 0 (omega (arith, past, size)) ∙ sym (get_or_past image i 0 past)) (cases_lt i (length image))

pub drawn_picked : (image c : List ℕ) (marks : List Bool) (es : List Event) (pick : ℕ) → pick ≢ 0 → pick ≢ 1
    → length c ≡ length image
    → ((i : ℕ) → i < length image → get_or marks i false ≡ is_pending es i)
    → ((i : ℕ) → i < length image → get_or marks i false ≡ false → get_or c i 0 ≡ get_or image i 0)
    → ((i : ℕ) → i < length image → get_or marks i false ≡ true → get_or c i 0 ≡ drawn_byte pick (places_below (marked marks) i))
    → IsPicked image es pick c
drawn_picked image c marks es pick other another size places clean drawn = record {
  size = size;
  clean = all_clean image c es size (λ i low none. clean i low (places i low ∙ none));
  pending = λ i low pends.
      drawn i low (places i low ∙ pends)
      ∙ ap (drawn_byte pick) (below_same (marked marks) (is_pending es) i (λ k less. places k (omega (arith, less, low))))
      ∙ sym (cond-false (eqb pick 0) (byte_at_sync es i (get_or image i 0)) (if eqb pick 1 then get_or image i 0 else drawn_byte pick (places_below (is_pending es) i)) (ne_eqb pick 0 other)
      ∙ cond-false (eqb pick 1) (get_or image i 0) (drawn_byte pick (places_below (is_pending es) i)) (ne_eqb pick 1 another));
}

-- what is not pending is as it was at the last sync
safe_step : (change : Change) (es : List Event) (i now : ℕ)
    → ((b : ℕ) → is_pending es i ≡ false → byte_at_sync es i b ≡ b)
    → (if is_sync change then false else (touches change i || is_pending es i)) ≡ false → (if is_sync change then now else byte_at_sync es i (byte_before change i now)) ≡ now
safe_step (Wrote at was) es i now rest none =
    let parts = or_parts (lies_in at (length was.items) i) (is_pending es i) none in
    ap (byte_at_sync es i) (cond-false (lies_in at (length was.items) i) (get_or was.items (i - at) 0) now parts.0) ∙ rest now parts.1
safe_step (Grew from) es i now rest none =
    let parts = or_parts (leb from i) (is_pending es i) none in
    ap (byte_at_sync es i) (cond-false (leb from i) 0 now parts.0) ∙ rest now parts.1
safe_step Synced es i now rest none = refl

safe : (es : List Event) (i now : ℕ) → is_pending es i ≡ false → byte_at_sync es i now ≡ now
safe [] i now none = refl
safe (e ∷ es) i now none = safe_step e.change es i now (λ b left. safe es i b left) none

pub synced_picked : (image c : List ℕ) (es : List Event) → length c ≡ length image
    → ((i : ℕ) → i < length image → get_or c i 0 ≡ byte_at_sync es i (get_or image i 0)) → IsPicked image es 0 c
synced_picked image c es size each = record {
  size = size;
  clean = all_clean image c es size (λ i low none. each i low ∙ safe es i (get_or image i 0) none);
  pending = λ i low pends. each i low;
}

pub read_picked : (image : List ℕ) (es : List Event) → IsPicked image es 1 image
read_picked image es = record { size = refl; clean = λ i none. refl; pending = λ i low pends. refl }
