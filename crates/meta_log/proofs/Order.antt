-- Maps that grow at their end, and the bytes of their records.
use Rattle.std.proofs.Common.{◌≡◌, ℕ, Bool, true, false, ◌+◌, ◌≤◌, T, List, [], ◌∷◌, ◌++◌, length, refl, ◌∙◌, ap, arith}
use Rattle.std.specs.Prelude.{◌&&◌, Option, Some, None}
use Rattle.std.specs.declared.cmp.Ordering.{Ordering}
use Rattle.std.specs.declared.cmp.Ordering.TheVariants.{Less, Equal, Greater}
use Rattle.std.specs.Ordering.{is_lt, ordering_reverse}
use Rattle.std.specs.Cmp.Lexicographic.{nat_list_cmp_total}
use Rattle.std.specs.FinMap.Entries.{by_order, put, find, below_all, is_sorted}
use Rattle.groundwork.proofs.Bools.{first_true, second_true}
use Rattle.groundwork.proofs.Orders.{is_less}
use Rattle.byte_map.specs.Words.{Map, bytes_cmp}
use Rattle.byte_map.specs.Laws.{is_sorted_put, is_sorted_without, length_put_new, length_put_present, length_without, bytes_in_put_new, bytes_in_put_present, bytes_in_without}
use Rattle.meta_log.specs.Records.{Record, Put, DropRange, change}
use Rattle.meta_log.specs.Spelled.{Fits}
use Rattle.meta_log.specs.Short.{short_put, short_without}
use Rattle.meta_log.specs.Reading.{IsSpellable, records_bytes, strings_bytes}

-- the last of some pairs, and one more, stand in order
last_below : (x : List ℕ) (front : Map) (e : List ℕ × List ℕ) (rest : Map) → T (below_all bytes_cmp x (front ++ e ∷ rest)) → bytes_cmp x e.0 ≡ Less
last_below x [] e rest low = is_less _ (first_true _ _ low)
last_below x (f ∷ front) e rest low = last_below x front e rest (second_true (is_lt (bytes_cmp x f.0)) _ low)

pub two_rise : (front : Map) (e f : List ℕ × List ℕ) (rest : Map) → T (is_sorted bytes_cmp (front ++ e ∷ f ∷ rest)) → bytes_cmp e.0 f.0 ≡ Less
two_rise [] e f rest sorted = is_less _ (first_true _ _ (first_true (below_all bytes_cmp e.0 (f ∷ rest)) _ sorted))
two_rise (x ∷ front) e f rest sorted = two_rise front e f rest (second_true (below_all bytes_cmp x.0 (front ++ e ∷ f ∷ rest)) _ sorted)

-- a put above the last key goes to the end
pub put_at_end : (front : Map) (e : List ℕ × List ℕ) (k v : List ℕ) → T (is_sorted bytes_cmp (front ++ e ∷ [])) → bytes_cmp e.0 k ≡ Less
    → put bytes_cmp k v (front ++ e ∷ []) ≡ (front ++ e ∷ []) ++ (k, v) ∷ []
put_at_end [] e k v sorted less =
    let more : bytes_cmp k e.0 ≡ Greater = nat_list_cmp_total.antisymm k e.0 ∙ ap ordering_reverse less in
    ap (λ (r : Ordering). by_order r ((k, v) ∷ e ∷ []) ((e.0, v) ∷ []) (e ∷ (k, v) ∷ [])) more
put_at_end (f ∷ front) e k v sorted less =
    let low = last_below f.0 front e [] (first_true (below_all bytes_cmp f.0 (front ++ e ∷ [])) _ sorted) in
    let under : bytes_cmp f.0 k ≡ Less = nat_list_cmp_total.trans f.0 e.0 k low less in
    let more : bytes_cmp k f.0 ≡ Greater = nat_list_cmp_total.antisymm k f.0 ∙ ap ordering_reverse under in
    ap (λ (r : Ordering). by_order r ((k, v) ∷ f ∷ (front ++ e ∷ [])) ((f.0, v) ∷ (front ++ e ∷ [])) (f ∷ put bytes_cmp k v (front ++ e ∷ []))) more
    ∙ ap (λ (m : Map). f ∷ m) (put_at_end front e k v (second_true (below_all bytes_cmp f.0 (front ++ e ∷ [])) _ sorted) less)

-- ---- the bytes of a map's records

pub put_bytes : (k v : List ℕ) (m : Map) → T (is_sorted bytes_cmp m) → records_bytes (put bytes_cmp k v m) ≤ records_bytes m + (5 + (length k + length v))
put_bytes k v m sorted = by (find bytes_cmp k m) refl
  where
    by : (o : Option (List ℕ)) → find bytes_cmp k m ≡ o → records_bytes (put bytes_cmp k v m) ≤ records_bytes m + (5 + (length k + length v))
    by None new = omega (arith, length_put_new k v m sorted new, bytes_in_put_new k v m new)
    by (Some w) present = omega (arith, length_put_present k v w m sorted present, bytes_in_put_present k v w m sorted present)

pub change_bytes : (r : Record) (m : Map) → T (is_sorted bytes_cmp m) → records_bytes (change r m) ≤ records_bytes m + (5 + strings_bytes r)
change_bytes (Put k v) m sorted = put_bytes k v m sorted
change_bytes (DropRange from to) m sorted = omega (arith, length_without from to m, bytes_in_without from to m)

pub change_spellable : (r : Record) (m : Map) → Fits r → IsSpellable m → IsSpellable (change r m)
change_spellable (Put k v) m fits is = record { sorted = is_sorted_put k v m is.sorted; short = short_put k v m fits.0 fits.1 is.short }
change_spellable (DropRange from to) m fits is = record { sorted = is_sorted_without from to m is.sorted; short = short_without from to m is.short }
