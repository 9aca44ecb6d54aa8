-- Blocks one after the other: the two parts at a place, and what an edit of blocks does to all pairs.
use Rattle.std.specs.Prelude.{◌≡◌, ◌≢◌, ℕ, zero, suc, ◌+◌, ◌-◌, ◌<◌, ◌≤◌, List, [], ◌∷◌, ◌++◌, length, take, drop, insert, Some, refl}
use Rattle.std.proofs.Common.{sym, ◌∙◌, ap, arith, get_or, set}
use Rattle.std.proofs.Math.Seq.{drop-cons, take-add}
use Rattle.std.proofs.lemmas.List.{append_assoc, append-nil, append_cancel_left, take-append-drop, take-take, drop_more, drop-drop, drop_all, take-set-le, drop-set-lt, set_comm, set_split, get_or_read}
use Rattle.byte_map.specs.Words.{Map, bytes_in, first_of}
use Rattle.byte_map.specs.Blocks.{joined, block_of, before, rest, AllFilled, SameParts, in_halves}

abbrev no_blocks : List Map
no_blocks = []

take_none : (n : ℕ) → take n no_blocks ≡ no_blocks
take_none zero = refl
take_none (suc n) = refl

drop_none : (n : ℕ) → drop n no_blocks ≡ no_blocks
drop_none zero = refl
drop_none (suc n) = refl

-- a block that was read
pub block_read : (blocks : List Map) (b : ℕ) (x : Map) → b < length blocks → x ≡ get_or blocks b x → x ≡ block_of blocks b
block_read blocks b x in_list is = get_or_read blocks b x in_list is []

-- ---- a place

pub parts : (blocks : List Map) (b i : ℕ) → before blocks b i ++ rest blocks b i ≡ joined blocks
parts [] b i = refl
parts (x ∷ xs) zero i = sym (append_assoc (take i x) (drop i x) (joined xs)) ∙ ap (λ (m : Map). m ++ joined xs) (take-append-drop i x)
parts (x ∷ xs) (suc b) i = append_assoc x (before xs b i) (rest xs b i) ∙ ap (λ (m : Map). x ++ m) (parts xs b i)

-- the pair at a place, and those behind it
pub at_place : (blocks : List Map) (b i : ℕ) (d : List ℕ × List ℕ) → b < length blocks → i < length (block_of blocks b)
    → rest blocks b i ≡ get_or (block_of blocks b) i d ∷ rest blocks b (suc i)
at_place [] b i d in_list in_block = absurd (omega (arith, in_list))
at_place (x ∷ xs) zero i d in_list in_block = ap (λ (m : Map). m ++ joined xs) (drop-cons x i d in_block)
at_place (x ∷ xs) (suc b) i d in_list in_block = at_place xs b i d (omega (arith, in_list)) in_block

-- what is first from a place on
pub pair_there : (blocks : List Map) (b i : ℕ) (d : List ℕ × List ℕ) → b < length blocks → i < length (block_of blocks b)
    → Some (get_or (block_of blocks b) i d) ≡ first_of (rest blocks b i)
pair_there blocks b i d in_list in_block = ap (λ (m : Map). first_of m) (sym (at_place blocks b i d in_list in_block))

pub rest_end : (blocks : List Map) (b i : ℕ) → length blocks ≤ b → rest blocks b i ≡ []
rest_end [] b i out = refl
rest_end (x ∷ xs) zero i out = absurd (omega (arith, out))
rest_end (x ∷ xs) (suc b) i out = rest_end xs b i (omega (arith, out))

rest_start : (blocks : List Map) → rest blocks zero 0 ≡ joined blocks
rest_start [] = refl
rest_start (x ∷ xs) = refl

-- behind the last pair of a block the next block begins
pub rest_next : (blocks : List Map) (b i : ℕ) → b < length blocks → length (block_of blocks b) ≤ i → rest blocks b i ≡ rest blocks (suc b) 0
rest_next [] b i in_list past = absurd (omega (arith, in_list))
rest_next (x ∷ xs) zero i in_list past = ap (λ (m : Map). m ++ joined xs) (drop_all i x past) ∙ sym (rest_start xs)
rest_next (x ∷ xs) (suc b) i in_list past = rest_next xs b i (omega (arith, in_list)) past

-- all pairs are from the first place on
pub rest_all : (blocks : List Map) → rest blocks 0 0 ≡ joined blocks
rest_all blocks = rest_start blocks

pub before_end : (blocks : List Map) (b i : ℕ) → length blocks ≤ b → before blocks b i ≡ joined blocks
before_end blocks b i out = sym (append-nil (before blocks b i)) ∙ ap (λ (m : Map). before blocks b i ++ m) (sym (rest_end blocks b i out)) ∙ parts blocks b i

-- ---- an edit in one block

pub edited : (blocks : List Map) (b i j : ℕ) (ys : Map) → b < length blocks
    → joined (set blocks b (take i (block_of blocks b) ++ (ys ++ drop j (block_of blocks b)))) ≡ before blocks b i ++ (ys ++ rest blocks b j)
edited [] b i j ys in_list = absurd (omega (arith, in_list))
edited (x ∷ xs) zero i j ys in_list =
    append_assoc (take i x) (ys ++ drop j x) (joined xs) ∙ ap (λ (m : Map). take i x ++ m) (append_assoc ys (drop j x) (joined xs))
edited (x ∷ xs) (suc b) i j ys in_list =
    ap (λ (m : Map). x ++ m) (edited xs b i j ys (omega (arith, in_list))) ∙ sym (append_assoc x (before xs b i) (ys ++ rest xs b j))

-- one pair is new at an index
pub edited_insert : (blocks : List Map) (b i : ℕ) (e : List ℕ × List ℕ) → b < length blocks
    → joined (set blocks b (insert (block_of blocks b) i e)) ≡ before blocks b i ++ (e ∷ rest blocks b i)
edited_insert blocks b i e in_list = edited blocks b i i (e ∷ []) in_list

-- one pair is another
pub edited_set : (blocks : List Map) (b i : ℕ) (e : List ℕ × List ℕ) → b < length blocks → i < length (block_of blocks b)
    → joined (set blocks b (set (block_of blocks b) i e)) ≡ before blocks b i ++ (e ∷ rest blocks b (suc i))
edited_set blocks b i e in_list in_block =
    ap (λ (x : Map). joined (set blocks b x)) (set_split (block_of blocks b) i e in_block) ∙ edited blocks b i (suc i) (e ∷ []) in_list

-- pairs of one block are dropped
pub edited_drop : (blocks : List Map) (b i j : ℕ) → b < length blocks
    → joined (set blocks b (take i (block_of blocks b) ++ drop j (block_of blocks b))) ≡ before blocks b i ++ rest blocks b j
edited_drop blocks b i j in_list = edited blocks b i j [] in_list

-- ---- a block in two

pub split_joined : (blocks : List Map) (b h : ℕ) → b < length blocks
    → joined (in_halves blocks b h) ≡ joined blocks
split_joined [] b h in_list = absurd (omega (arith, in_list))
split_joined (x ∷ xs) zero h in_list = sym (append_assoc (take h x) (drop h x) (joined xs)) ∙ ap (λ (m : Map). m ++ joined xs) (take-append-drop h x)
split_joined (x ∷ xs) (suc b) h in_list = ap (λ (m : Map). x ++ m) (split_joined xs b h (omega (arith, in_list)))

split_low : (blocks : List Map) (b h i : ℕ) → b < length blocks → i ≤ h
    → before (in_halves blocks b h) b i ≡ before blocks b i
split_low [] b h i in_list low = absurd (omega (arith, in_list))
split_low (x ∷ xs) zero h i in_list low = take-take i h x low
split_low (x ∷ xs) (suc b) h i in_list low = ap (λ (m : Map). x ++ m) (split_low xs b h i (omega (arith, in_list)) low)

split_high : (blocks : List Map) (b h i : ℕ) → b < length blocks → h ≤ i
    → before (in_halves blocks b h) (suc b) (i - h) ≡ before blocks b i
split_high [] b h i in_list high = absurd (omega (arith, in_list))
split_high (x ∷ xs) zero h i in_list high =
    let whole : h + (i - h) ≡ i = omega (arith, high) in
    sym (take-add h (i - h) x) ∙ ap (λ (n : ℕ). take n x) whole
split_high (x ∷ xs) (suc b) h i in_list high = ap (λ (m : Map). x ++ m) (split_high xs b h i (omega (arith, in_list)) high)

-- equal fronts of one list leave equal rests
rest_from : (a b c d m : Map) → a ≡ b → a ++ c ≡ m → b ++ d ≡ m → c ≡ d
rest_from a b c d m same one two = append_cancel_left a c d (one ∙ sym two ∙ ap (λ (x : Map). x ++ d) (sym same))

pub split_parts_low : (blocks : List Map) (b h i : ℕ) → b < length blocks → i ≤ h
    → SameParts blocks b i (in_halves blocks b h) b i
split_parts_low blocks b h i in_list low =
    let new = in_halves blocks b h in
    let front = split_low blocks b h i in_list low in
    record { front = front; back = rest_from _ _ _ _ (joined blocks) front (parts new b i ∙ split_joined blocks b h in_list) (parts blocks b i) }

pub split_parts_high : (blocks : List Map) (b h i : ℕ) → b < length blocks → h ≤ i
    → SameParts blocks b i (in_halves blocks b h) (suc b) (i - h)
split_parts_high blocks b h i in_list high =
    let new = in_halves blocks b h in
    let front = split_high blocks b h i in_list high in
    record { front = front; back = rest_from _ _ _ _ (joined blocks) front (parts new (suc b) (i - h) ∙ split_joined blocks b h in_list) (parts blocks b i) }

-- ---- blocks are not empty

pub filled_append : (a b : List Map) → AllFilled a → AllFilled b → AllFilled (a ++ b)
filled_append [] b p q = q
filled_append (x ∷ a) b p q = (p.0, filled_append a b p.1 q)

pub filled_set : (blocks : List Map) (b : ℕ) (y : Map) → AllFilled blocks → 0 < length y → AllFilled (set blocks b y)
filled_set [] b y filled here = tt
filled_set (x ∷ xs) zero y filled here = (here, filled.1)
filled_set (x ∷ xs) (suc b) y filled here = (filled.0, filled_set xs b y filled.1 here)

pub filled_take : (blocks : List Map) (n : ℕ) → AllFilled blocks → AllFilled (take n blocks)
filled_take blocks zero filled = tt
filled_take [] (suc n) filled = tt
filled_take (x ∷ xs) (suc n) filled = (filled.0, filled_take xs n filled.1)

pub filled_drop : (blocks : List Map) (n : ℕ) → AllFilled blocks → AllFilled (drop n blocks)
filled_drop blocks zero filled = filled
filled_drop [] (suc n) filled = tt
filled_drop (x ∷ xs) (suc n) filled = filled_drop xs n filled.1

pub filled_insert : (blocks : List Map) (b : ℕ) (y : Map) → AllFilled blocks → 0 < length y → AllFilled (insert blocks b y)
filled_insert blocks b y filled here = filled_append (take b blocks) (y ∷ drop b blocks) (filled_take blocks b filled) (here, filled_drop blocks b filled)

pub filled_at : (blocks : List Map) (b : ℕ) → AllFilled blocks → b < length blocks → 0 < length (block_of blocks b)
filled_at [] b filled in_list = absurd (omega (arith, in_list))
filled_at (x ∷ xs) zero filled in_list = filled.0
filled_at (x ∷ xs) (suc b) filled in_list = filled_at xs b filled.1 (omega (arith, in_list))

-- ---- whole blocks

pub joined-append : (a b : List Map) → joined (a ++ b) ≡ joined a ++ joined b
joined-append [] b = refl
joined-append (x ∷ a) b = ap (λ (m : Map). x ++ m) (joined-append a b) ∙ sym (append_assoc x (joined a) (joined b))

-- the blocks up to one that keeps its first pairs
cut_before : (blocks : List Map) (b i : ℕ) → joined (take (suc b) (set blocks b (take i (block_of blocks b)))) ≡ before blocks b i
cut_before [] b i = refl
cut_before (x ∷ xs) zero i = append-nil (take i x)
cut_before (x ∷ xs) (suc b) i = ap (λ (m : Map). x ++ m) (cut_before xs b i)

cut_whole : (blocks : List Map) (b : ℕ) → joined (take b blocks) ≡ before blocks b 0
cut_whole [] b = ap joined (take_none b)
cut_whole (x ∷ xs) zero = refl
cut_whole (x ∷ xs) (suc b) = ap (λ (m : Map). x ++ m) (cut_whole xs b)

-- the blocks from one that lost its first pairs
cut_rest : (blocks : List Map) (b j : ℕ) → joined (drop b (set blocks b (drop j (block_of blocks b)))) ≡ rest blocks b j
cut_rest [] b j = ap joined (drop_none b)
cut_rest (x ∷ xs) zero j = refl
cut_rest (x ∷ xs) (suc b) j = cut_rest xs b j

-- one block keeps its first pairs, a later one loses its first pairs, and those between are dropped
module _ (blocks : List Map) (b i c j : ℕ) (apart : b < c) where
  abbrev pub shortened : List Map
  shortened = set (set blocks b (take i (block_of blocks b))) c (drop j (block_of blocks c))

  front_kept : (n : ℕ) → n ≤ c → take n shortened ≡ take n (set blocks b (take i (block_of blocks b)))
  front_kept n within = take-set-le n (set blocks b (take i (block_of blocks b))) c (drop j (block_of blocks c)) within

  back_kept : drop c shortened ≡ drop c (set blocks c (drop j (block_of blocks c)))
  back_kept =
      let other : b ≢ c = λ same. omega (arith, same, apart) in
      ap (λ (s : List Map). drop c s) (set_comm blocks b c (take i (block_of blocks b)) (drop j (block_of blocks c)) other)
      ∙ drop-set-lt c (set blocks c (drop j (block_of blocks c))) b (take i (block_of blocks b)) apart

  -- the first is kept
  pub cut_between : joined (take (suc b) shortened ++ drop c shortened) ≡ before blocks b i ++ rest blocks c j
  cut_between =
      joined-append (take (suc b) shortened) (drop c shortened)
      ∙ (λ k. (ap joined (front_kept (suc b) (omega (arith, apart))) ∙ cut_before blocks b i) k ++ (ap joined back_kept ∙ cut_rest blocks c j) k)

  -- nothing of the first is kept
  pub cut_all : i ≡ 0 → joined (take b shortened ++ drop c shortened) ≡ before blocks b i ++ rest blocks c j
  cut_all none =
      joined-append (take b shortened) (drop c shortened)
      ∙ (λ k. (ap joined (front_kept b (omega (arith, apart)) ∙ take-set-le b blocks b (take i (block_of blocks b)) (omega arith)) ∙ cut_whole blocks b ∙ ap (before blocks b) (sym none)) k
      ++ (ap joined back_kept ∙ cut_rest blocks c j) k)

-- ---- counts and bytes

pub bytes_in-append : (a b : Map) → bytes_in (a ++ b) ≡ bytes_in a + bytes_in b
bytes_in-append [] b = omega arith
bytes_in-append (e ∷ a) b = let tail = bytes_in-append a b in omega (arith, tail)

-- a number that a list has, which adds up over its parts
module _ (f : Map → ℕ) (adds : (a b : Map) → f (a ++ b) ≡ f a + f b) where
  pub weighed_set : (blocks : List Map) (b : ℕ) (y : Map) → b < length blocks → f (joined (set blocks b y)) + f (block_of blocks b) ≡ f (joined blocks) + f y
  weighed_set [] b y in_list = absurd (omega (arith, in_list))
  weighed_set (x ∷ xs) zero y in_list = omega (arith, adds y (joined xs), adds x (joined xs))
  weighed_set (x ∷ xs) (suc b) y in_list =
      let tail = weighed_set xs b y (omega (arith, in_list)) in omega (arith, tail, adds x (joined (set xs b y)), adds x (joined xs))

  pub weighed_parts : (x : Map) (i : ℕ) → f (take i x) + f (drop i x) ≡ f x
  weighed_parts x i = sym (adds (take i x) (drop i x)) ∙ ap f (take-append-drop i x)

  -- what is left, and what was between
  pub weighed_cut : (x : Map) (i j : ℕ) → i ≤ j → f (take i x ++ drop j x) + f (take (j - i) (drop i x)) ≡ f x
  weighed_cut x i j order =
      let two = weighed_parts x i in
      let behind = weighed_parts (drop i x) (j - i) in
      let to_end : i + (j - i) ≡ j = omega (arith, order) in
      let last = ap f (drop-drop (j - i) i x ∙ ap (λ (n : ℕ). drop n x) to_end) in
      omega (arith, two, behind, last, adds (take i x) (drop j x))

  pub weighed_block : (blocks : List Map) (b : ℕ) → b < length blocks → f (block_of blocks b) ≤ f (joined blocks)
  weighed_block [] b in_list = absurd (omega (arith, in_list))
  weighed_block (x ∷ xs) zero in_list = omega (arith, adds x (joined xs))
  weighed_block (x ∷ xs) (suc b) in_list = let tail = weighed_block xs b (omega (arith, in_list)) in omega (arith, tail, adds x (joined xs))

  -- what is left of blocks, and what was between
  pub weighed_blocks : (blocks : List Map) (a b : ℕ) → a ≤ b → f (joined (take a blocks ++ drop b blocks)) + f (joined (take (b - a) (drop a blocks))) ≡ f (joined blocks)
  weighed_blocks blocks a b order =
      let to_end : a + (b - a) ≡ b = omega (arith, order) in
      let two = ap (λ (s : List Map). f (joined s)) (take-append-drop a blocks) in
      let front = ap f (joined-append (take a blocks) (drop a blocks)) ∙ adds (joined (take a blocks)) (joined (drop a blocks)) in
      let behind = ap (λ (s : List Map). f (joined s)) (take-append-drop (b - a) (drop a blocks)) in
      let back = ap f (joined-append (take (b - a) (drop a blocks)) (drop (b - a) (drop a blocks))) ∙ adds (joined (take (b - a) (drop a blocks))) (joined (drop (b - a) (drop a blocks))) in
      let last = ap (λ (s : List Map). f (joined s)) (drop-drop (b - a) a blocks ∙ ap (λ (n : ℕ). drop n blocks) to_end) in
      let left = ap f (joined-append (take a blocks) (drop b blocks)) ∙ adds (joined (take a blocks)) (joined (drop b blocks)) in
      omega (arith, two, front, behind, back, last, left)

  -- the block at an index, and those behind it
  pub weighed_next : (blocks : List Map) (b : ℕ) (x : Map) → b < length blocks → x ≡ get_or blocks b x → f (joined (drop b blocks)) ≡ f x + f (joined (drop (b + 1) blocks))
  weighed_next blocks b x in_list read =
      ap (λ (s : List Map). f (joined s)) (drop_more blocks b x in_list ∙ ap (λ (y : Map). y ∷ drop (b + 1) blocks) (sym read)) ∙ adds x (joined (drop (b + 1) blocks))
