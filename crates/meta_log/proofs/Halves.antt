-- A checkpoint is written to a half: what the disk holds behind the gate, and what a crash leaves.
use Rattle.std.proofs.Common.{◌≡◌, ◌⊎◌, inl, inr, ℕ, ◌+◌, ◌-◌, ◌≤◌, ◌<◌, List, [], ◌∷◌, ◌++◌, length, get_or, take, drop, refl, sym, ◌∙◌, ap, subst, arith, append_assoc, length-append}
use Rattle.std.proofs.lemmas.Bool.{cases_lt}
use Rattle.std.proofs.lemmas.List.{get_or-take, get_or-drop, get_or_at, get_or_past}
use Rattle.byteorder.specs.Endian.{big_bytes}
use Rattle.byteorder.specs.Numbers.{length-bytes_high_first}
use Rattle.vdisk.specs.Disk.{DiskState, ChangedWithin, Holds, Only}
use Rattle.vdisk.specs.Ranges.{part, part_more, part_part, part_apart, part_written, length-part, changed_part, changed_then, changed_wider}
use Rattle.vdisk.specs.Steps.{Keeps, TornWithin, keeps_then, keeps_torn}
use Rattle.byte_map.specs.Words.{Map}
use Rattle.meta_log.specs.Meta.{digest_of}
use Rattle.meta_log.specs.Checkpoint.{body_text, front_text, IsCheckpoint, IsHalfImage}
use Rattle.meta_log.specs.Stream.{WritesWithin}
use Rattle.meta_log.proofs.Groups.{length_digest}

-- what stands behind a body: a closed gate, where a byte is left for it
abbrev pub IsGateBehind : ℕ → List ℕ → Type 0
IsGateBehind left behind = ((left ≡ 0) × (behind ≡ [])) ⊎ ((0 < left) × (behind ≡ 0 ∷ []))

pub gate_from : (left : ℕ) (behind : List ℕ) → (left ≡ 0 → behind ≡ []) → (0 < left → behind ≡ 0 ∷ []) → IsGateBehind left behind
gate_from left behind none one = elim (cases_lt 0 left) [
  | inl some ↦ inr (some, one some)
  | inr few ↦ let is : left ≡ 0 = omega (arith, few) in inl (is, none is)
]

pub gate_length : (left : ℕ) (behind : List ℕ) → IsGateBehind left behind → length behind ≤ left
gate_length left behind (inl none) = omega (arith, ap length none.1)
gate_length left behind (inr one) = omega (arith, one.0, ap length one.1)

pub header_length : (epoch : ℕ) (m : Map) → length (front_text epoch m ++ digest_of (front_text epoch m ++ body_text m)) ≡ 44
header_length epoch m = omega (
  arith,
  length-append (front_text epoch m) (digest_of (front_text epoch m ++ body_text m)),
  length-append (big_bytes 8 epoch) (big_bytes 4 (length (body_text m))),
  length-bytes_high_first 8 epoch,
  length-bytes_high_first 4 (length (body_text m)),
  length_digest (front_text epoch m ++ body_text m),
)

-- the body and the gate behind it were written, and then the header
pub laid_down : (at half epoch : ℕ) (m : Map) (behind header : List ℕ) (s₁ s₂ : DiskState)
    → 45 + length (body_text m) ≤ half → at + half ≤ length s₁.image → IsGateBehind (half - (45 + length (body_text m))) behind
    → part (at + 45) (length (body_text m ++ behind)) s₁.image ≡ body_text m ++ behind
    → header ≡ front_text epoch m ++ digest_of (front_text epoch m ++ body_text m)
    → ChangedWithin (at + 1) (length header) s₁.image s₂.image → Holds s₁.image (at + 1) header s₂.image
    → IsCheckpoint epoch m (part at half s₂.image)
laid_down at half epoch m behind header s₁ s₂ fits range gate text is change written =
    let n = length (body_text m) in
    let body = body_text m in
    let x = s₂.image in
    let h = part at half x in
    let long : length header ≡ 44 = ap length is ∙ header_length epoch m in
    let size : length h ≡ half = length-part at half x (omega (arith, range, change.size)) in
    let low : length behind ≤ half - (45 + n) = gate_length (half - (45 + n)) behind gate in
    let after : part (at + 45) (length (body ++ behind)) x ≡ body ++ behind =
    part_apart (at + 1) (length header) (at + 45) (length (body ++ behind)) s₁.image x (inr (omega (arith, long))) change ∙ text in
    let ahead : part (at + 1) 44 x ≡ header =
    ap (λ (k : ℕ). part (at + 1) k x) (sym long) ∙ part_written (at + 1) s₁.image header x (omega (arith, long, range, fits)) written in
    let there : part (at + 1 + 44) n x ≡ body =
    (let place : at + 1 + 44 ≡ at + 45 = omega arith in ap (λ (k : ℕ). part k n x) place)
    ∙ sym (take_part (at + 45) n (length (body ++ behind)) x (omega (arith, length-append body behind)))
    ∙ ap (λ (q : List ℕ). take n q) after ∙ take_front body behind in
    record {
      text =
          part_part at half 1 (44 + n) x (omega (arith, fits)) ∙ part_more (at + 1) 44 n x
          ∙ ap (λ (q : List ℕ). q ++ part (at + 1 + 44) n x) (ahead ∙ is)
          ∙ ap (λ (q : List ℕ). (front_text epoch m ++ digest_of (front_text epoch m ++ body)) ++ q) there
          ∙ append_assoc (front_text epoch m) (digest_of (front_text epoch m ++ body)) body;
      closed = elim gate [
        | inl none ↦ λ open_gate. absurd (omega (arith, open_gate, get_or_past h (45 + n) 0 (omega (arith, size, none.0))))
        | inr one ↦ λ open_gate.
            let more : length (body ++ behind) ≡ n + 1 = omega (arith, length-append body behind, ap length one.1) in
            let end : part 45 (n + 1) h ≡ body ++ 0 ∷ [] =
            part_part at half 45 (n + 1) x (omega (arith, one.0)) ∙ ap (λ (k : ℕ). part (at + 45) k x) (sym more) ∙ after ∙ ap (λ (q : List ℕ). body ++ q) one.1 in
            let shut : get_or h (45 + n) 0 ≡ 0 =
            sym (get_or-drop 45 h n 0) ∙ sym (get_or-take (n + 1) (drop 45 h) n 0 (omega arith)) ∙ ap (λ (q : List ℕ). get_or q n 0) end ∙ get_or_at body 0 [] 0 n refl in
            absurd (omega (arith, open_gate, shut))
      ];
      within = omega (arith, fits, size);
    }
  where
    take_front : (xs ys : List ℕ) → take (length xs) (xs ++ ys) ≡ xs
    take_front [] ys = refl
    take_front (x ∷ xs) ys = ap (λ (q : List ℕ). x ∷ q) (take_front xs ys)

    take_part : (at n k : ℕ) (x : List ℕ) → n ≤ k → take n (part at k x) ≡ part at n x
    take_part at n k x le = part_part at k 0 n x (omega (arith, le)) ∙ (let same : at + 0 ≡ at = omega arith in ap (λ (j : ℕ). part j n x) same)

-- the gate does not matter to what stands behind it
pub gate_apart : (epoch : ℕ) (m : Map) (x y : List ℕ) → ChangedWithin 0 1 x y → IsCheckpoint epoch m x → IsCheckpoint epoch m y
gate_apart epoch m x y change is =
    let n = length (body_text m) in
    let place : 1 + (44 + n) ≡ 45 + n = omega arith in
    let there : (q : List ℕ) → get_or q (45 + n) 0 ≡ get_or (drop 1 q) (44 + n) 0 = λ q. ap (λ (k : ℕ). get_or q k 0) (sym place) ∙ sym (get_or-drop 1 q (44 + n) 0) in
    record {
      text = part_apart 0 1 1 (44 + n) x y (inr (omega arith)) change ∙ is.text;
      closed = λ open_gate. is.closed (there x ∙ ap (λ (q : List ℕ). get_or q (44 + n) 0) (sym change.after) ∙ sym (there y) ∙ open_gate);
      within = omega (arith, is.within, change.size);
    }

-- ---- over disks: while all behind the gate is written, and while the gate is opened

pub half_gate_inside : (at half : ℕ) (x y : List ℕ) → 1 ≤ half → at + half ≤ length x → ChangedWithin at 1 x y → ChangedWithin 0 1 (part at half x) (part at half y)
half_gate_inside at half x y some range change =
    let same : at ≡ at + 0 = omega arith in
    changed_part at half 0 1 x y range (omega (arith, some)) (subst (λ (k : ℕ). ChangedWithin k 1 x y) same change)

module _ (at half epoch : ℕ) (m : Map) (s s₁ : DiskState) (within : WritesWithin (at + 1) (half - 1) s s₁) (some : 1 ≤ half) (range : at + half ≤ length s.image) where
  abbrev P : List ℕ → Type 0
  P = IsHalfImage at half s epoch m

  pub half_begun : Keeps s s₁ P
  half_begun = keeps_torn s s₁ (at + 1) (half - 1) s.may_leave P within.torn (λ c left. left) (λ d c change left. inl (d, left, change))

  pub half_outside : ChangedWithin at half s.image s₁.image
  half_outside = changed_wider (at + 1) (half - 1) at half s.image s₁.image (omega arith) (omega (arith, some)) within.change

  module _ (written : IsCheckpoint epoch m (part at half s₁.image)) (only : Only s₁.image s₁.may_leave) (s₂ : DiskState) (torn : TornWithin at 1 s₁ s₂) where
    under_gate : (c : List ℕ) → ChangedWithin at 1 s₁.image c → ChangedWithin at half s.image c × IsCheckpoint epoch m (part at half c)
    under_gate c change = (
      changed_then at half s.image s₁.image c half_outside (changed_wider at 1 at half s₁.image c (omega arith) (omega (arith, some)) change),
      gate_apart epoch m (part at half s₁.image) (part at half c) (half_gate_inside at half s₁.image c some (omega (arith, range, within.change.size)) change) written,
    )

    pub half_gated : Keeps s s₂ P
    half_gated = keeps_then s s₁ s₂ P half_begun (keeps_torn s₁ s₂ at 1 (λ c. c ≡ s₁.image) P torn only (λ d c change is.
        inr (under_gate c (subst (λ (q : List ℕ). ChangedWithin at 1 q c) is change))))

    pub half_written : ChangedWithin at 1 s₁.image s₂.image → IsCheckpoint epoch m (part at half s₂.image)
    half_written change = (under_gate s₂.image change).1

    pub half_opened : ChangedWithin at 1 s₁.image s₂.image → Holds s₁.image at (1 ∷ []) s₂.image → get_or (part at half s₂.image) 0 0 ≡ 1
    half_opened change holds =
        let place : at + 0 ≡ at = omega arith in
        sym (get_or-take 1 (part at half s₂.image) 0 0 (omega arith))
        ∙ ap (λ (q : List ℕ). get_or q 0 0) (part_part at half 0 1 s₂.image (omega (arith, some)) ∙ ap (λ (k : ℕ). part k 1 s₂.image) place
        ∙ part_written at s₁.image (1 ∷ []) s₂.image (omega (arith, some, range, within.change.size)) holds)
