-- A checkpoint spells its map, changed by what stands behind it.
use Rattle.std.proofs.Common.{◌≡◌, ℕ, suc, Bool, true, false, ◌+◌, ◌*◌, ◌^◌, ◌≤◌, ◌<◌, List, [], ◌∷◌, ◌++◌, length, get_or, take, drop, nat_eq, nat_lt, refl, sym, ◌∙◌, ap, arith, append_assoc, length-append, take-append-drop}
use Rattle.std.specs.Prelude.{if◌then◌else◌, T, Some, None, Option, option_map}
use Rattle.std.specs.List.{AllByRecursion}
use Rattle.std.specs.Cmp.Lexicographic.{pointwise}
use Rattle.std.specs.FinMap.Entries.{is_sorted}
use Rattle.std.proofs.lemmas.Bool.{le-ltb, lt-ltb, and_from}
use Rattle.std.proofs.lemmas.List.{take_at, drop_at, drop-drop, drop-take, drop_more}
use Rattle.byteorder.specs.Endian.{big_bytes, big_number}
use Rattle.byteorder.specs.Numbers.{big_number-reads_back, length-bytes_high_first}
use Rattle.vdisk.specs.Ranges.{part}
use Rattle.byte_map.specs.Words.{Map, bytes_cmp, bytes_in}
use Rattle.meta_log.specs.Records.{Record, Put, pairs_of, ascending}
use Rattle.meta_log.specs.Spelled.{Fits, bytes_of, records_back, length_text}
use Rattle.meta_log.specs.Short.{are_short, short_parts}
use Rattle.meta_log.specs.Meta.{digest_of, and_then, where_digest, groups_from, groups_length, groups_end, is_epoch, epoch_of, body_length, body_of, checkpoint_map, checkpoint_at, map_of_half}
use Rattle.meta_log.specs.Ready.{GoesOn}
use Rattle.meta_log.proofs.Groups.{length_digest, same_bytes}
use Rattle.meta_log.specs.Checkpoint.{puts, body_text, checkpoint_text, IsCheckpoint}

-- ---- the body

pub length_body : (m : Map) → length (body_text m) ≡ 5 * length m + bytes_in m
length_body [] = refl
length_body (e ∷ m) = omega (arith, length_body m, length-append (bytes_of (Put e.0 e.1)) (body_text m), length_text 1 e.0 e.1)

fits_puts : (m : Map) → are_short m ≡ true → AllByRecursion Fits (puts m)
fits_puts [] short = tt
fits_puts (e ∷ m) short = let parts = short_parts e m short in ((parts.0, parts.1), fits_puts m parts.2)

pairs_back : (m : Map) → pairs_of (puts m) ≡ Some m
pairs_back [] = refl
pairs_back (e ∷ m) = ap (λ (o : Option Map). option_map (λ q. e ∷ q) o) (pairs_back m)

true_from : (b : Bool) → T b → b ≡ true
true_from true t = refl
true_from false t = absurd t

pub map_back : (m : Map) → T (is_sorted bytes_cmp m) → are_short m ≡ true → checkpoint_map (body_text m) ≡ Some m
map_back m sorted short =
    ap (λ (o : Option (List Record)). and_then o (λ rs. and_then (pairs_of rs) (λ q. ascending q))) (records_back (puts m) (fits_puts m short))
    ∙ ap (λ (o : Option Map). and_then o (λ q. ascending q)) (pairs_back m)
    ∙ ap (λ (b : Bool). if b then Some m else None) (true_from (is_sorted bytes_cmp m) sorted)

-- ---- a half that begins with a checkpoint

module _ (epoch : ℕ) (m : Map) (begun : 0 < epoch) (early : epoch < 2 ^ 63) (few : length (body_text m) < 2 ^ 32) (sorted : T (is_sorted bytes_cmp m)) (short : are_short m ≡ true) where
  abbrev e : List ℕ
  e = big_bytes 8 epoch

  abbrev q : List ℕ
  q = big_bytes 4 (length (body_text m))

  abbrev dig : List ℕ
  dig = digest_of ((e ++ q) ++ body_text m)

  abbrev text : List ℕ → List ℕ
  text rest = e ++ (q ++ (dig ++ (body_text m ++ rest)))

  eight : length e ≡ 8
  eight = length-bytes_high_first 8 epoch

  four : length q ≡ 4
  four = length-bytes_high_first 4 (length (body_text m))

  size : length dig ≡ 32
  size = length_digest ((e ++ q) ++ body_text m)

  from_length : (rest : List ℕ) → drop 8 (text rest) ≡ q ++ (dig ++ (body_text m ++ rest))
  from_length rest = drop_at e (q ++ (dig ++ (body_text m ++ rest))) 8 eight

  from_digest : (rest : List ℕ) → drop 12 (text rest) ≡ dig ++ (body_text m ++ rest)
  from_digest rest = sym (drop-drop 4 8 (text rest)) ∙ ap (λ (l : List ℕ). drop 4 l) (from_length rest) ∙ drop_at q (dig ++ (body_text m ++ rest)) 4 four

  from_body : (rest : List ℕ) → drop 44 (text rest) ≡ body_text m ++ rest
  from_body rest = sym (drop-drop 32 12 (text rest)) ∙ ap (λ (l : List ℕ). drop 32 l) (from_digest rest) ∙ drop_at dig (body_text m ++ rest) 32 size

  pub epoch_is : (g : ℕ) (rest : List ℕ) → epoch_of (g ∷ text rest) ≡ epoch
  epoch_is g rest = big_number-reads_back 8 epoch (q ++ (dig ++ (body_text m ++ rest))) (omega (arith, early))

  length_is : (g : ℕ) (rest : List ℕ) → body_length (g ∷ text rest) ≡ length (body_text m)
  length_is g rest = ap (λ (l : List ℕ). big_number 4 l) (from_length rest) ∙ big_number-reads_back 4 (length (body_text m)) (dig ++ (body_text m ++ rest)) (omega (arith, few))

  front_is : (g : ℕ) (rest : List ℕ) → part 1 12 (g ∷ text rest) ≡ e ++ q
  front_is g rest = ap (λ (l : List ℕ). take 12 l) (sym (append_assoc e q (dig ++ (body_text m ++ rest)))) ∙ take_at (e ++ q) (dig ++ (body_text m ++ rest)) 12 (omega (arith, length-append e q, eight, four))

  body_is : (g : ℕ) (rest : List ℕ) → body_of (g ∷ text rest) ≡ body_text m
  body_is g rest = ap (λ (k : ℕ). take k (drop 44 (text rest))) (length_is g rest) ∙ ap (λ (l : List ℕ). take (length (body_text m)) l) (from_body rest) ∙ take_at (body_text m) rest (length (body_text m)) refl

  rest_is : (g : ℕ) (rest : List ℕ) → drop (45 + body_length (g ∷ text rest)) (g ∷ text rest) ≡ rest
  rest_is g rest =
      let more : 45 + body_length (g ∷ text rest) ≡ suc (44 + length (body_text m)) = omega (arith, length_is g rest) in
      ap (λ (k : ℕ). drop k (g ∷ text rest)) more ∙ sym (drop-drop (length (body_text m)) 44 (text rest)) ∙ ap (λ (l : List ℕ). drop (length (body_text m)) l) (from_body rest) ∙ drop_at (body_text m) rest (length (body_text m)) refl

  checkpoint_is : (g : ℕ) (rest : List ℕ) → checkpoint_at (g ∷ text rest) ≡ Some m
  checkpoint_is g rest =
      let h = g ∷ text rest in
      let long : nat_lt (length h) (45 + body_length h) ≡ false = le-ltb (length h) (45 + body_length h)
      (omega (arith, length_is g rest, length-append e (q ++ (dig ++ (body_text m ++ rest))), length-append q (dig ++ (body_text m ++ rest)), length-append dig (body_text m ++ rest), length-append (body_text m) rest, eight, four, size)) in
      let there : part 13 32 h ≡ dig = ap (λ (l : List ℕ). take 32 l) (from_digest rest) ∙ take_at dig (body_text m ++ rest) 32 size in
      let same : pointwise nat_eq (part 13 32 h) (digest_of (part 1 12 h ++ body_of h)) ≡ true =
      ap (λ (l : List ℕ). pointwise nat_eq l (digest_of (part 1 12 h ++ body_of h))) there
      ∙ ap (λ (l : List ℕ). pointwise nat_eq dig (digest_of (l ++ body_of h))) (front_is g rest)
      ∙ ap (λ (l : List ℕ). pointwise nat_eq dig (digest_of ((e ++ q) ++ l))) (body_is g rest)
      ∙ same_bytes dig in
      ap (λ (b : Bool). if b then None else where_digest (part 13 32 h) (part 1 12 h ++ body_of h) (checkpoint_map (body_of h))) long
      ∙ ap (λ (b : Bool). if b then checkpoint_map (body_of h) else None) same
      ∙ ap (λ (l : List ℕ). checkpoint_map l) (body_is g rest) ∙ map_back m sorted short

  pub half_spells : (g : ℕ) (rest : List ℕ) → map_of_half (g ∷ text rest) ≡ groups_from 0 m rest
  half_spells g rest =
      let h = g ∷ text rest in
      let counts : is_epoch (epoch_of h) ≡ true = ap (λ (k : ℕ). is_epoch k) (epoch_is g rest) ∙ and_from (nat_lt 0 epoch) (nat_lt epoch (2 ^ 63)) (lt-ltb _ _ begun) (lt-ltb _ _ early) in
      ap (λ (b : Bool). if b then and_then (checkpoint_at h) (λ n. groups_from 0 n (drop (45 + body_length h) h)) else None) counts
      ∙ ap (λ (o : Option Map). and_then o (λ n. groups_from 0 n (drop (45 + body_length h) h))) (checkpoint_is g rest)
      ∙ ap (λ (l : List ℕ). groups_from 0 m l) (rest_is g rest)

  pub half_ends : (g : ℕ) (rest : List ℕ) → groups_end (g ∷ text rest) ≡ 45 + length (body_text m) + groups_length 0 rest
  half_ends g rest =
      let h = g ∷ text rest in
      let long = length_is g rest in
      let behind = ap (λ (l : List ℕ). groups_length 0 l) (rest_is g rest) in
      omega (arith, long, behind)

  -- a half of that text, and what stands behind it
  pub laid : (half : List ℕ) → part 1 (44 + length (body_text m)) half ≡ checkpoint_text epoch m → 45 + length (body_text m) ≤ length half
      → half ≡ get_or half 0 0 ∷ text (drop (45 + length (body_text m)) half)
  laid half there within =
      let n = 44 + length (body_text m) in
      let rest = drop (45 + length (body_text m)) half in
      let behind : drop n (drop 1 half) ≡ rest = drop-drop n 1 half ∙ (let same : 1 + n ≡ 45 + length (body_text m) = omega arith in ap (λ (k : ℕ). drop k half) same) in
      drop_more half 0 0 (omega (arith, within))
      ∙ ap (λ (l : List ℕ). get_or half 0 0 ∷ l) (
      sym (take-append-drop n (drop 1 half))
      ∙ ap (λ (l : List ℕ). l ++ drop n (drop 1 half)) there
      ∙ ap (λ (l : List ℕ). checkpoint_text epoch m ++ l) behind
      ∙ append_assoc (e ++ q) (dig ++ body_text m) rest
      ∙ ap (λ (l : List ℕ). (e ++ q) ++ l) (append_assoc dig (body_text m) rest)
      ∙ append_assoc e q (dig ++ (body_text m ++ rest)))

  pub epoch_there : (half : List ℕ) → IsCheckpoint epoch m half → epoch_of half ≡ epoch
  epoch_there half is =
      ap (λ (l : List ℕ). epoch_of l) (laid half is.text is.within) ∙ epoch_is (get_or half 0 0) (drop (45 + length (body_text m)) half)

  -- whatever stands behind the checkpoint, its map goes on there
  pub checkpoint_goes_on : (half : List ℕ) → IsCheckpoint epoch m half → GoesOn (45 + length (body_text m)) half m
  checkpoint_goes_on half is =
      let n = 44 + length (body_text m) in
      let whole : 1 + n ≡ 45 + length (body_text m) = omega arith in
      let laid_there : (s : List ℕ) → length s ≡ length half → take (45 + length (body_text m)) s ≡ take (45 + length (body_text m)) half
      → s ≡ get_or s 0 0 ∷ text (drop (45 + length (body_text m)) s) = λ s same_size head.
      let front : (l : List ℕ) → part 1 n l ≡ drop 1 (take (45 + length (body_text m)) l) = λ l. sym (drop-take 1 n l) ∙ ap (λ (k : ℕ). drop 1 (take k l)) whole in
      let there : part 1 n s ≡ checkpoint_text epoch m = front s ∙ ap (λ (l : List ℕ). drop 1 l) head ∙ sym (front half) ∙ is.text in
      laid s there (omega (arith, is.within, same_size)) in
      record {
        spells = λ s same_size head.
            ap (λ (l : List ℕ). map_of_half l) (laid_there s same_size head) ∙ half_spells (get_or s 0 0) (drop (45 + length (body_text m)) s);
        ends = λ s same_size head.
            ap (λ (l : List ℕ). groups_end l) (laid_there s same_size head) ∙ half_ends (get_or s 0 0) (drop (45 + length (body_text m)) s);
        closed = is.closed;
        within = is.within;
        behind = omega arith;
      }
