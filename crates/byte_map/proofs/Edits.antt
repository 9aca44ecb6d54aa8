-- What an edit of one block does to all pairs, from a block that was read to the block that stands there then.
use Rattle.std.specs.Prelude.{◌≡◌, ℕ, zero, suc, ◌-◌, ◌<◌, ◌≤◌, List, [], ◌∷◌, ◌++◌, length, take, drop, insert, Result, Ok, Err, OnOk, OnErr, refl}
use Rattle.std.proofs.Common.{sym, ◌∙◌, ap, arith, get_or, set}
use Rattle.std.proofs.lemmas.List.{append-nil, length-append, length-take, length-drop, length-set}
use Rattle.byte_map.specs.Words.{Map}
use Rattle.byte_map.specs.Blocks.{joined, block_of, before, rest, AllFilled, HasRoom, SameParts, in_halves, pair_of, with_value}
use Rattle.byte_map.proofs.Joined.{parts, block_read, rest_next, rest_end, edited_insert, edited_set, edited_drop, filled_at, filled_set, filled_insert, joined-append}

-- a fact that both outcomes give
pub either : {A E P Q R : Type 0} (r : Result A E) → OnOk r P → OnErr r Q → (P → R) → (Q → R) → R
either (Ok x) p q f g = f p
either (Err e) p q f g = g q

pub same_joined : (old : List Map) (b i : ℕ) (new : List Map) (c j : ℕ) → SameParts old b i new c j → joined new ≡ joined old
same_joined old b i new c j same = sym (parts new c j) ∙ (λ k. same.front k ++ same.back k) ∙ parts old b i

-- behind the last pair of the last block
pub at_last : (blocks : List Map) (b i : ℕ) → suc b ≡ length blocks → length (block_of blocks b) ≤ i → rest blocks b i ≡ []
at_last blocks b i last past = rest_next blocks b i (omega (arith, last)) past ∙ rest_end blocks (suc b) 0 (omega (arith, last))

pub before_last : (blocks : List Map) (b i : ℕ) → suc b ≡ length blocks → length (block_of blocks b) ≤ i → before blocks b i ≡ joined blocks
before_last blocks b i last past =
    sym (append-nil (before blocks b i)) ∙ ap (λ (m : Map). before blocks b i ++ m) (sym (at_last blocks b i last past)) ∙ parts blocks b i

module _ (blocks : List Map) (b : ℕ) (x y : Map) (in_list : b < length blocks) (read : x ≡ get_or blocks b x) where
  pub inserted : (i : ℕ) (e : List ℕ × List ℕ) → y ≡ insert x i e → joined (set blocks b y) ≡ before blocks b i ++ (e ∷ rest blocks b i)
  inserted i e is =
      ap (λ (z : Map). joined (set blocks b z)) (is ∙ ap (λ (z : Map). insert z i e) (block_read blocks b x in_list read)) ∙ edited_insert blocks b i e in_list

  pub revalued : (i : ℕ) (v : List ℕ) → i < length (block_of blocks b) → (let e = get_or x i ([], []) in y ≡ set x i (e.0, v)) → joined (set blocks b y) ≡ with_value blocks b i v
  revalued i v in_block is =
      ap (λ (z : Map). joined (set blocks b z)) (is ∙ ap (λ (z : Map). let e = get_or z i ([], []) in set z i (e.0, v)) (block_read blocks b x in_list read))
      ∙ (let e = pair_of blocks b i in edited_set blocks b i (e.0, v) in_list in_block)

  pub shortened_to : (i j : ℕ) → y ≡ take i x ++ drop j x → joined (set blocks b y) ≡ before blocks b i ++ rest blocks b j
  shortened_to i j is =
      ap (λ (z : Map). joined (set blocks b z)) (is ∙ ap (λ (z : Map). take i z ++ drop j z) (block_read blocks b x in_list read)) ∙ edited_drop blocks b i j in_list

  module _ (filled : AllFilled blocks) where
    pub filled_inserted : (i : ℕ) (e : List ℕ × List ℕ) → y ≡ insert x i e → AllFilled (set blocks b y)
    filled_inserted i e is =
        let long = ap (λ (z : Map). length z) is ∙ length-append (take i x) (e ∷ drop i x) in
        filled_set blocks b y filled (omega (arith, long))

    pub filled_same : y ≡ x → AllFilled (set blocks b y)
    filled_same is =
        let here = filled_at blocks b filled in_list in
        let long = ap (λ (z : Map). length z) (is ∙ block_read blocks b x in_list read) in
        filled_set blocks b y filled (omega (arith, here, long))

    pub filled_revalued : (i : ℕ) (e : List ℕ × List ℕ) → y ≡ set x i e → AllFilled (set blocks b y)
    filled_revalued i e is =
        let here = filled_at blocks b filled in_list in
        let long = ap (λ (z : Map). length z) is ∙ length-set x i e ∙ ap (λ (z : Map). length z) (block_read blocks b x in_list read) in
        filled_set blocks b y filled (omega (arith, here, long))

-- one block more, behind all others
pub pushed : (blocks new : List Map) (x : Map) (e : List ℕ × List ℕ) → new ≡ blocks ++ x ∷ [] → x ≡ e ∷ [] → joined new ≡ joined blocks ++ (e ∷ [])
pushed blocks new x e is one =
    ap joined (is ∙ ap (λ (z : Map). blocks ++ z ∷ []) one) ∙ joined-append blocks ((e ∷ []) ∷ [])

-- ---- a block in two

low_half : (blocks : List Map) (b h : ℕ) → b < length blocks → block_of (in_halves blocks b h) b ≡ take h (block_of blocks b)
low_half [] b h in_list = absurd (omega (arith, in_list))
low_half (x ∷ xs) zero h in_list = refl
low_half (x ∷ xs) (suc b) h in_list = low_half xs b h (omega (arith, in_list))

high_half : (blocks : List Map) (b h : ℕ) → b < length blocks → block_of (in_halves blocks b h) (suc b) ≡ drop h (block_of blocks b)
high_half [] b h in_list = absurd (omega (arith, in_list))
high_half (x ∷ xs) zero h in_list = refl
high_half (x ∷ xs) (suc b) h in_list = high_half xs b h (omega (arith, in_list))

more_blocks : (blocks : List Map) (b h : ℕ) → b < length blocks → length (in_halves blocks b h) ≡ suc (length blocks)
more_blocks [] b h in_list = absurd (omega (arith, in_list))
more_blocks (x ∷ xs) zero h in_list = refl
more_blocks (x ∷ xs) (suc b) h in_list = ap suc (more_blocks xs b h (omega (arith, in_list)))

module _ (blocks : List Map) (b : ℕ) (in_list : b < length blocks) (full : 128 ≤ length (block_of blocks b)) (few : length (block_of blocks b) ≤ 128) where
  low_long : length (take 64 (block_of blocks b)) ≡ 64
  low_long = let long = length-take 64 (block_of blocks b) in omega (arith, long, full)

  high_long : length (drop 64 (block_of blocks b)) ≡ 64
  high_long = let long = length-drop 64 (block_of blocks b) in omega (arith, long, full, few)

  pub room_low : (i : ℕ) → i ≤ 64 → HasRoom (in_halves blocks b 64) b i
  room_low i low =
      let long = ap (λ (z : Map). length z) (low_half blocks b 64 in_list) ∙ low_long in
      let more = more_blocks blocks b 64 in_list in
      record { block = omega (arith, more, in_list); index = omega (arith, long, low); room = omega (arith, long) }

  pub room_high : (i : ℕ) → i < length (block_of blocks b) → 64 ≤ i → HasRoom (in_halves blocks b 64) (suc b) (i - 64)
  room_high i in_block high =
      let long = ap (λ (z : Map). length z) (high_half blocks b 64 in_list) ∙ high_long in
      let more = more_blocks blocks b 64 in_list in
      record { block = omega (arith, more, in_list); index = omega (arith, long, in_block, few); room = omega (arith, long) }

  pub filled_halves : AllFilled blocks → AllFilled (in_halves blocks b 64)
  filled_halves filled =
      filled_insert (set blocks b (take 64 (block_of blocks b))) (suc b) (drop 64 (block_of blocks b))
      (filled_set blocks b (take 64 (block_of blocks b)) filled (omega (arith, low_long))) (omega (arith, high_long))
