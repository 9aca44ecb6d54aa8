-- The bytes of pages, as they are written one after another.
use Rattle.std.specs.Prelude.{◌≡◌, ◌≤◌, ◌<◌, ◌+◌, ◌*◌, ◌-◌, ℕ, zero, suc, min, List, [], ◌∷◌, ◌++◌, length, take, drop, get_or, Option, Some, Result, Ok, Err, IfOk}
use Rattle.std.proofs.Common.{sym, ◌∙◌, ap, subst, inl, inr, arith, length-drop, length-append}
use Rattle.std.proofs.lemmas.Bool.{cases_lt}
use Rattle.std.proofs.lemmas.List.{get_or-take, get_or-drop, drop-drop, take-take, take_all, length-take-le, get_or_append_left}
use Rattle.std.proofs.Math.ListN.{drop_of_length-le}
use Rattle.std.specs.FinMap.{find}
use Rattle.vdisk.specs.Ranges.{part}
use Rattle.cluster_space.specs.declared.run.Run.{Run}
use Rattle.cluster_space.specs.declared.state.State.{State}
use Rattle.cluster_space.specs.declared.state.State.TheVariants.{Free, Used}
use Rattle.cluster_space.specs.States.{IsIn}
use Rattle.table_records.specs.Keys.{pair_cmp}
use Rattle.volume_inside.specs.ChunkTables.{PageKey}
use Rattle.volume_inside.specs.Inside.{Inside, inside_at, cluster_bytes}
use Rattle.volume_inside.specs.Layout.{first_data_cluster}
use Rattle.volume_inside.specs.Typed.{Typed, FileBlock}
use Rattle.volume_tables.specs.Clusters.{HasState}
use Rattle.volume_tables.specs.Frames.{NamesNoFree}
use Rattle.chunk_container.specs.Pages.{AreAhead, HasFront, HavePages, without_first}

-- ---- clusters that were written ahead

pub get_or-part : (at n : ℕ) (image : List ℕ) (k : ℕ) → k < n → get_or (part at n image) k 0 ≡ get_or image (at + k) 0
get_or-part at n image k low = get_or-take n (drop at image) k 0 low ∙ get_or-drop at image k 0

module _ (bytes : List ℕ) (run : Run) (image : List ℕ) where
  -- the first of them has the bytes in front
  pub front_ahead : 0 < run.count → AreAhead bytes run image → HasFront bytes run.first image
  front_ahead some ahead o low within =
      let here : run.first + 0 ≡ run.first = omega arith in
      ap (λ (c : ℕ). get_or (cluster_bytes c image) o 0) (sym here)
      ∙ ap (λ (xs : List ℕ). get_or xs o 0) (ahead 0 some)
      ∙ get_or-part (4096 * 0) 4096 bytes o low
      ∙ ap (λ (k : ℕ). get_or bytes k 0) (let same : 4096 * 0 + o ≡ o = omega arith in same)

  -- the others have those behind
  pub rest_ahead : AreAhead bytes run image → AreAhead (drop 4096 bytes) (without_first run) image
  rest_ahead ahead k low =
      let place : run.first + 1 + k ≡ run.first + (k + 1) = omega arith in
      let at : 4096 * (k + 1) ≡ 4096 + 4096 * k = omega arith in
      ap (λ (c : ℕ). cluster_bytes c image) place
      ∙ ahead (k + 1) (omega (arith, low))
      ∙ ap (λ (j : ℕ). take 4096 (drop j bytes)) at
      ∙ sym (ap (λ (xs : List ℕ). take 4096 xs) (drop-drop (4096 * k) 4096 bytes))

-- a page that begins with the bytes, and was written
pub front_padded : (bytes more page : List ℕ) (run : Run) (image : List ℕ) → 0 < run.count → AreAhead page run image
    → page ≡ bytes ++ more → HasFront bytes run.first image
front_padded bytes more page run image some ahead is o low within =
    let long : length page ≡ length bytes + length more = ap length is ∙ length-append bytes more in
    front_ahead page run image some ahead o low (omega (arith, within, long))
    ∙ ap (λ (xs : List ℕ). get_or xs o 0) is
    ∙ get_or_append_left bytes more 0 o within

pub if_two : {A E : Type 0} (r : Result A E) (P Q S : A → Type 0) → ((a : A) → P a → Q a → S a) → IfOk r P → IfOk r Q
    → IfOk r S
if_two (Ok a) P Q S both p q = both a p q
if_two (Err e) P Q S both p q = tt

-- ---- bytes behind a page

pub behind_is : (bytes : List ℕ) (m : ℕ) → m ≡ min (length bytes) 4096
    → take (length bytes - m) (drop m bytes) ≡ drop 4096 bytes
behind_is bytes m is =
    take_all (length bytes - m) (drop m bytes) (omega (arith, length-drop m bytes))
    ∙ (elim (cases_lt (length bytes) 4096) as (λ w. drop m bytes ≡ drop 4096 bytes) [
      | inl few ↦
          let all : m ≡ length bytes = omega (arith, few, is) in
          ap (λ (n : ℕ). drop n bytes) all ∙ drop_of_length-le bytes {i = length bytes} (omega arith)
          ∙ sym (drop_of_length-le bytes {i = 4096} (omega (arith, few)))
      | inr many ↦
          let whole : m ≡ 4096 = omega (arith, many, is) in
          ap (λ (n : ℕ). drop n bytes) whole
    ])

pub behind_long : (bytes : List ℕ) (m : ℕ) → m ≡ min (length bytes) 4096
    → length (take (length bytes - m) (drop m bytes)) ≡ length bytes - 4096
behind_long bytes m is = ap length (behind_is bytes m is) ∙ length-drop 4096 bytes

-- ---- pages one after another

pub found_same : (o : Option ℕ) (x y : ℕ) → o ≡ Some x → o ≡ Some y → x ≡ y
found_same o x y one two = let both : Some x ≡ Some y = sym one ∙ two in cc

-- a page has the bytes in front, and those behind it have the rest
pub have_then : (key : PageKey) (bytes : List ℕ) (clusters : List (PageKey × ℕ)) (image : List ℕ) (cluster : ℕ)
    → find pair_cmp key clusters ≡ Some cluster → HasFront bytes cluster image
    → HavePages (key.0, key.1 + 1) (drop 4096 bytes) clusters image → HavePages key bytes clusters image
have_then key bytes clusters image cluster at front rest zero o other found low within =
    let here : key.1 + 0 ≡ key.1 = omega arith in
    let is : find pair_cmp key clusters ≡ Some other =
    ap (λ (x : ℕ). find pair_cmp (key.0, x) clusters) (sym here) ∙ found in
    let place : o ≡ 4096 * 0 + o = omega arith in
    ap (λ (c : ℕ). get_or (cluster_bytes c image) o 0) (found_same (find pair_cmp key clusters) other cluster is at)
    ∙ front o low (omega (arith, within)) ∙ ap (λ (k : ℕ). get_or bytes k 0) place
have_then key bytes clusters image cluster at front rest (suc k) o other found low within =
    let here : key.1 + suc k ≡ key.1 + 1 + k = omega arith in
    let is : find pair_cmp (key.0, key.1 + 1 + k) clusters ≡ Some other =
    ap (λ (x : ℕ). find pair_cmp (key.0, x) clusters) (sym here) ∙ found in
    let long = length-drop 4096 bytes in
    let place : 4096 + (4096 * k + o) ≡ 4096 * suc k + o = omega arith in
    rest k o other is low (omega (arith, within, long))
    ∙ get_or-drop 4096 bytes (4096 * k + o) 0
    ∙ ap (λ (j : ℕ). get_or bytes j 0) place

-- bytes that were written into a page that had some
pub head_written : (at cluster other n o : ℕ) (bytes image : List ℕ) → other ≡ cluster → n ≤ length bytes
    → part (4096 * cluster + at) (length (take n bytes)) image ≡ take n bytes → o < n
    → get_or image (4096 * other + at + o) 0 ≡ get_or bytes o 0
head_written at cluster other n o bytes image same few written low =
    let long = length-take-le n bytes few in
    ap (λ (c : ℕ). get_or image (4096 * c + at + o) 0) same
    ∙ sym (get_or-part (4096 * cluster + at) (length (take n bytes)) image o (omega (arith, long, low)))
    ∙ ap (λ (xs : List ℕ). get_or xs o 0) written
    ∙ get_or-take n bytes o 0 low

-- ---- a cluster that is not free

-- tables that name one cluster alone, as a block
abbrev one_block : ℕ → Typed
one_block c = record {
  volume = [];
  names = [];
  files = [];
  extents = ((0, 0), record { cluster = c; valid = 4096 }) ∷ [];
  chunks = record { rows = []; places = []; containers = []; clusters = [] };
  settings = [];
  results = [];
}

first_block : Inside → List ℕ
first_block i = of i.blocks
  where
    of : List (FileBlock × List ℕ) → List ℕ
    of [] = []
    of (b ∷ bs) = b.1

module _ (n : ℕ) (states : List State) (old new : List ℕ)
    (frame : (t : Typed) → NamesNoFree n states t → inside_at t new ≡ inside_at t old) where
  -- WHAT IS NOT FREE STAYS, as tables that named it would tell
  pub cluster_stays : (c : ℕ) → HasState n states Used c → cluster_bytes c new ≡ cluster_bytes c old
  unfolding first_block
  cluster_stays c used =
      let block : take 4096 (cluster_bytes c new) ≡ take 4096 (cluster_bytes c old) =
      ap first_block (frame (one_block c) names) in
      sym (take_whole (4096 * c) new) ∙ block ∙ take_whole (4096 * c) old
    where
      names : NamesNoFree n states (one_block c)
      names k free = (λ same. differ k free (omega (arith, same, used.from_first)), tt)
        where
          differ : (j : ℕ) → IsIn states j Free → c - first_data_cluster n ≡ j → ⊥
          differ j at same =
              let clash : Used ≡ Free = sym used.is.state ∙ (subst (λ (x : ℕ). IsIn states x Free) (sym same) at).state in
              cc

      take_whole : (at : ℕ) (image : List ℕ) → take 4096 (part at 4096 image) ≡ part at 4096 image
      take_whole at image =
          take-take 4096 4096 (drop at image) (omega arith)
