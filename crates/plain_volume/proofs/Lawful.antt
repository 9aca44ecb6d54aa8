-- Each call keeps a volume lawful.
use Rattle.std.proofs.Common.{◌≡◌, ℕ, ◌+◌, ◌<◌, ◌≤◌, Bool, true, false, cond, not, is_some, nat_le, nat_lt, List, [], ◌∷◌, length, take, drop, All, Option, Some, None, Ok, Err, refl, sym, ap, subst, arith, length-append, length-drop}
use Rattle.std.proofs.lemmas.List.{length-take, length-replicate, length-map}
use Rattle.std.proofs.lemmas.List.Elements.{All-filter, All-head, All-tail, All-cons}
use Rattle.std.proofs.lemmas.Map.Lookups.{exact_bytes}
use Rattle.std.proofs.lemmas.Bool.Decides.{nat_tests}
use Rattle.std.specs.declared.cmp.Ordering.TheVariants.{Less, Equal, Greater}
use Rattle.std.specs.Ordering.{eq_by_cmp}
use Rattle.std.specs.Cmp.Lexicographic.{nat_list_cmp_total}
use Rattle.std.specs.FinMap.Entries.{find, put, by_order, is_sorted-put, is_sorted-where_key, find-where_key, length-put, length_without}
use Rattle.plain_volume.specs.declared.limits.TheConstants.{MOST_FILES, MOST_BYTES_OF_A_CALL, MOST_BYTES_OF_A_FILE}
use Rattle.plain_volume.specs.Volume.{Cell, Volume, name_cmp, cells_of, with_file, without_file, is_lawful, resized, overwritten, lost_where, is_within, bytes_of, IsLawfulVolume}
use Rattle.plain_volume.specs.Step.{Outcome, refuse_if, at_file, unless_lost, named, plain, left_by, after, create, write, write_within, write_whole, set_length, rename, delete, read, read_whole, digest, stat, next_name, lost_beside}
use Rattle.plain_volume.specs.Replies.{IsOwnOrMemory}
use Rattle.plain_volume.specs.Laws.{answers}
use Rattle.sha2.specs.Sha256.{sha256}
use Rattle.plain_volume.specs.declared.call.Call.{Call}
use Rattle.plain_volume.specs.declared.call.Call.TheVariants.{Create, Write, SetLength, Rename, Delete, Read, Digest, Stat, Next, Flush}
use Rattle.plain_volume.specs.declared.call.Reply.{Reply}
use Rattle.plain_volume.specs.declared.call.Reply.TheVariants as reply
use Rattle.plain_volume.specs.declared.call.Fault.{Fault}
use Rattle.plain_volume.specs.declared.call.Fault.TheVariants.{BadName, Exists, TooLarge, OutsideFile}

-- ---- files under names

module _ (P : List ℕ × List Cell → Type 0) where
  all_put : (name : List ℕ) (cells : List Cell) (v : Volume) → P (name, cells) → ((other : List ℕ) (old : List Cell) → P (other, old) → P (other, cells)) → All P v → All P (put name_cmp name cells v)
  all_put name cells [] here again h = All-cons P (name, cells) [] here h
  all_put name cells (f ∷ v) here again h =
      elim (name_cmp name f.0) as (λ o. All P (by_order o ((name, cells) ∷ f ∷ v) ((f.0, cells) ∷ v) (f ∷ put name_cmp name cells v))) [
        | Less ↦ All-cons P (name, cells) (f ∷ v) here h
        | Equal ↦ All-cons P (f.0, cells) v (again f.0 f.1 (All-head P f v h)) (All-tail P f v h)
        | Greater ↦ All-cons P f (put name_cmp name cells v) (All-head P f v h) (all_put name cells v here again (All-tail P f v h))
      ]

  found : (name : List ℕ) (cells : List Cell) (v : Volume) → All P v → find name_cmp name v ≡ Some cells → (other : List ℕ) × P (other, cells)
  found name cells [] h is = absurd (cc)
  found name cells (f ∷ v) h is =
      elim (eq_by_cmp name_cmp name f.0) as (λ b. cond b (Some f.1) (find name_cmp name v) ≡ Some cells → (other : List ℕ) × P (other, cells)) [
        | true ↦ λ same. let e : f.1 ≡ cells = cc in (f.0, subst (λ x. P (f.0, x)) e (All-head P f v h))
        | false ↦ λ same. found name cells v (All-tail P f v h) same
      ] is

-- the volume with a file in the place of an old one
replaced : (v : Volume) (name : List ℕ) (old cells : List Cell) → IsLawfulVolume v → cells_of name v ≡ Some old → is_lawful name ≡ true → length cells ≤ MOST_BYTES_OF_A_FILE → IsLawfulVolume (with_file name cells v)
replaced v name old cells h there lawful short = record {
  rising = is_sorted-put name_cmp nat_list_cmp_total name cells v h.rising;
  lawful = all_put (λ file. is_lawful file.0 ≡ true) name cells v lawful (λ other before ok. ok) h.lawful;
  short = all_put (λ file. length file.1 ≤ MOST_BYTES_OF_A_FILE) name cells v short (λ other before ok. short) h.short;
  few = let e = length-put name_cmp nat_list_cmp_total name cells v h.rising in
      subst (λ n. n ≤ MOST_FILES) (sym (subst (λ (o : Option (List Cell)). length (put name_cmp name cells v) ≡ cond (is_some o) (length v) (length v + 1)) there e)) h.few;
}

-- the volume with one more file
added : (v : Volume) (name : List ℕ) (cells : List Cell) → IsLawfulVolume v → is_some (cells_of name v) ≡ false → length v < MOST_FILES → is_lawful name ≡ true → length cells ≤ MOST_BYTES_OF_A_FILE → IsLawfulVolume (with_file name cells v)
added v name cells h absent room lawful short = record {
  rising = is_sorted-put name_cmp nat_list_cmp_total name cells v h.rising;
  lawful = all_put (λ file. is_lawful file.0 ≡ true) name cells v lawful (λ other before ok. ok) h.lawful;
  short = all_put (λ file. length file.1 ≤ MOST_BYTES_OF_A_FILE) name cells v short (λ other before ok. short) h.short;
  few = let e = length-put name_cmp nat_list_cmp_total name cells v h.rising in
      let n : length (put name_cmp name cells v) ≡ length v + 1 = subst (λ b. length (put name_cmp name cells v) ≡ cond b (length v) (length v + 1)) absent e in
      omega arith;
}

removed : (v : Volume) (name : List ℕ) → IsLawfulVolume v → IsLawfulVolume (without_file name v)
removed v name h = record {
  rising = is_sorted-where_key name_cmp _ v h.rising;
  lawful = All-filter (λ file. not (eq_by_cmp name_cmp name file.0)) (λ file. is_lawful file.0 ≡ true) v h.lawful;
  short = All-filter (λ file. not (eq_by_cmp name_cmp name file.0)) (λ file. length file.1 ≤ MOST_BYTES_OF_A_FILE) v h.short;
  few = let e = length_without name_cmp nat_list_cmp_total name v h.rising in let f = h.few in omega arith;
}

-- without an old file there is room for a new one
fewer : (v : Volume) (name : List ℕ) (cells : List Cell) → IsLawfulVolume v → cells_of name v ≡ Some cells → length (without_file name v) < MOST_FILES
fewer v name cells h there =
    let e = length_without name_cmp nat_list_cmp_total name v h.rising in
    let n : 1 + length (without_file name v) ≡ length v = subst (λ (o : Option (List Cell)). cond (is_some o) 1 0 + length (without_file name v) ≡ length v) there e in
    let f = h.few in omega arith

-- a name that has no file has none either once another is gone
absent_without : (v : Volume) (from to : List ℕ) → is_some (cells_of to v) ≡ false → is_some (cells_of to (without_file from v)) ≡ false
absent_without v from to absent =
    let alike : (x : List ℕ) → name_cmp to x ≡ Equal → not (eq_by_cmp name_cmp from x) ≡ not (eq_by_cmp name_cmp from to) = λ x same. ap (λ n. not (eq_by_cmp name_cmp from n)) (sym (exact_bytes to x same)) in
    let e = find-where_key name_cmp (λ other. not (eq_by_cmp name_cmp from other)) to alike v in
    subst (λ (o : Option (List Cell)). is_some o ≡ false) (sym e)
    (elim (not (eq_by_cmp name_cmp from to)) as (λ b. is_some (cond b (find name_cmp to v) None) ≡ false) [ true ↦ absent | false ↦ refl ])

-- ---- lengths

length-resized : (n : ℕ) (cells : List Cell) → length (resized n cells) ≡ n
length-resized n cells = simp (length-append, length-take, length-replicate) (omega arith)

overwritten_fits : (at : ℕ) (bytes : List ℕ) (cells : List Cell) (most : ℕ) → at + length bytes ≤ most → length cells ≤ most → length (overwritten at bytes cells) ≤ most
overwritten_fits at [] cells most fits short = short
overwritten_fits at (b ∷ bytes) cells most fits short =
    simp (length-append, length-take, length-replicate, length-map, length-drop) (omega arith)

-- ---- what an answer shows

ok_is : (Q : Reply × Volume → Type 0) (y x : Reply × Volume) → (let r : Outcome = Ok y in r) ≡ Ok x → Q y → Q x
ok_is Q y x is q = let e : y ≡ x = cc in subst Q e q

not_refused : (b : Bool) (fault : Fault) (rest : Outcome) (x : Reply × Volume) → refuse_if b fault rest ≡ Ok x → (b ≡ false) × (rest ≡ Ok x)
not_refused true fault rest x is = absurd (cc)
not_refused false fault rest x is = (refl, is)

has_file : (o : Option (List Cell)) (rest : List Cell → Outcome) (x : Reply × Volume) → at_file o rest ≡ Ok x → (cells : List Cell) × (o ≡ Some cells) × (rest cells ≡ Ok x)
has_file None rest x is = absurd (cc)
has_file (Some cells) rest x is = (cells, refl, is)

not_lost : (o : Option ℕ) (rest : Outcome) (x : Reply × Volume) → unless_lost o rest ≡ Ok x → rest ≡ Ok x
not_lost None rest x is = is
not_lost (Some place) rest x is = absurd (cc)

is_named : (name : List ℕ) (rest : Outcome) (x : Reply × Volume) → named name rest ≡ Ok x → (is_lawful name ≡ true) × (rest ≡ Ok x)
is_named name rest x is = by (is_lawful name) (λ b. b) is
  where
    by : (b : Bool) → (is_lawful name ≡ b → is_lawful name ≡ b) → refuse_if (not b) BadName rest ≡ Ok x → (b ≡ true) × (rest ≡ Ok x)
    by true same h = (refl, h)
    by false same h = absurd (cc)

-- an answer is of the call's own kind, and leaves a lawful volume lawful
pub record IsAnswer (v : Volume) (call : Call) (x : Reply × Volume) : Type 0 where
  pub kind : answers call x.0 ≡ true
  pub lawful : IsLawfulVolume v → IsLawfulVolume x.1

below : (m n : ℕ) → nat_le m n ≡ false → n < m
below m n e = grind (arith, nat_tests)

at_most : (m n : ℕ) → nat_lt m n ≡ false → n ≤ m
at_most m n e = grind (arith, nat_tests)

short_file : (v : Volume) (name : List ℕ) (cells : List Cell) → IsLawfulVolume v → cells_of name v ≡ Some cells → length cells ≤ MOST_BYTES_OF_A_FILE
short_file v name cells h there = (found (λ file. length file.1 ≤ MOST_BYTES_OF_A_FILE) name cells v h.short there).1

pub answer_of : (v : Volume) (call : Call) (x : Reply × Volume) → plain v call ≡ Ok x → IsAnswer v call x
answer_of v (Create name) x is =
    let a = is_named name (refuse_if (is_some (cells_of name v)) Exists (create name v)) x is in
    let b = not_refused (is_some (cells_of name v)) Exists (create name v) x a.1 in
    let c = not_refused (nat_le MOST_FILES (length v)) (TooLarge MOST_FILES) (Ok (reply.Done, with_file name [] v)) x b.1 in
    ok_is (IsAnswer v (Create name)) (reply.Done, with_file name [] v) x c.1
    (record { kind = refl; lawful = λ h. added v name [] h b.0 (below MOST_FILES (length v) c.0) a.0 (omega arith) })
answer_of v (Write name at bytes) x is =
    let a = is_named name (at_file (cells_of name v) (write name at bytes v)) x is in
    let (cells, there, b) = has_file (cells_of name v) (write name at bytes v) x a.1 in
    let c = not_refused (nat_lt MOST_BYTES_OF_A_CALL (length bytes)) (TooLarge MOST_BYTES_OF_A_CALL) (write_within name at bytes v cells) x b in
    let d = not_refused (nat_lt MOST_BYTES_OF_A_FILE (at + length bytes)) (TooLarge MOST_BYTES_OF_A_FILE) (write_whole name at bytes v cells) x c.1 in
    let e = not_lost (lost_beside at bytes cells) (Ok (reply.Done, with_file name (overwritten at bytes cells) v)) x d.1 in
    ok_is (IsAnswer v (Write name at bytes)) (reply.Done, with_file name (overwritten at bytes cells) v) x e
    (record {
      kind = refl;
      lawful = λ h. replaced v name cells (overwritten at bytes cells) h there a.0
          (overwritten_fits at bytes cells MOST_BYTES_OF_A_FILE (at_most MOST_BYTES_OF_A_FILE (at + length bytes) d.0) (short_file v name cells h there));
    })
answer_of v (SetLength name len) x is =
    let a = is_named name (at_file (cells_of name v) (set_length name len v)) x is in
    let (cells, there, b) = has_file (cells_of name v) (set_length name len v) x a.1 in
    let c = not_refused (nat_lt MOST_BYTES_OF_A_FILE len) (TooLarge MOST_BYTES_OF_A_FILE) (Ok (reply.Done, with_file name (resized len cells) v)) x b in
    ok_is (IsAnswer v (SetLength name len)) (reply.Done, with_file name (resized len cells) v) x c.1
    (record {
      kind = refl;
      lawful = λ h. replaced v name cells (resized len cells) h there a.0
          (subst (λ n. n ≤ MOST_BYTES_OF_A_FILE) (sym (length-resized len cells)) (at_most MOST_BYTES_OF_A_FILE len c.0));
    })
answer_of v (Rename from to) x is =
    let a = is_named from (named to (at_file (cells_of from v) (rename from to v))) x is in
    let b = is_named to (at_file (cells_of from v) (rename from to v)) x a.1 in
    let (cells, there, c) = has_file (cells_of from v) (rename from to v) x b.1 in
    let d = not_refused (is_some (cells_of to v)) Exists (Ok (reply.Done, with_file to cells (without_file from v))) x c in
    ok_is (IsAnswer v (Rename from to)) (reply.Done, with_file to cells (without_file from v)) x d.1
    (record { kind = refl; lawful = λ h. added (without_file from v) to cells (removed v from h) (absent_without v from to d.0) (fewer v from cells h there) b.0 (short_file v from cells h there) })
answer_of v (Delete name) x is =
    let a = is_named name (at_file (cells_of name v) (delete name v)) x is in
    let (cells, there, b) = has_file (cells_of name v) (delete name v) x a.1 in
    ok_is (IsAnswer v (Delete name)) (reply.Done, without_file name v) x b (record { kind = refl; lawful = λ h. removed v name h })
answer_of v (Read name at count) x is =
    let a = is_named name (at_file (cells_of name v) (read at count v)) x is in
    let (cells, there, b) = has_file (cells_of name v) (read at count v) x a.1 in
    let c = not_refused (nat_lt (length cells) (at + count)) (OutsideFile (length cells)) (read_whole at count v cells) x b in
    let d = not_lost (lost_where (is_within at count) 0 cells) (Ok (reply.Bytes (bytes_of (take count (drop at cells))), v)) x c.1 in
    ok_is (IsAnswer v (Read name at count)) (reply.Bytes (bytes_of (take count (drop at cells))), v) x d (record { kind = refl; lawful = λ h. h })
answer_of v (Digest name) x is =
    let a = is_named name (at_file (cells_of name v) (digest v)) x is in
    let (cells, there, b) = has_file (cells_of name v) (digest v) x a.1 in
    let c = not_lost (lost_where (λ p. true) 0 cells) (Ok (reply.Digest (sha256 (bytes_of cells)), v)) x b in
    ok_is (IsAnswer v (Digest name)) (reply.Digest (sha256 (bytes_of cells)), v) x c (record { kind = refl; lawful = λ h. h })
answer_of v (Stat name) x is =
    let a = is_named name (at_file (cells_of name v) (stat v)) x is in
    let (cells, there, b) = has_file (cells_of name v) (stat v) x a.1 in
    ok_is (IsAnswer v (Stat name)) (reply.Length (length cells), v) x b (record { kind = refl; lawful = λ h. h })
answer_of v (Next above) x is = ok_is (IsAnswer v (Next above)) (reply.Name (next_name above v), v) x is (record { kind = refl; lawful = λ h. h })
answer_of v Flush x is = ok_is (IsAnswer v Flush) (reply.Done, v) x is (record { kind = refl; lawful = λ h. h })

pub stays_lawful : (v : Volume) (call : Call) (given : Reply) → IsLawfulVolume v → IsLawfulVolume (after v call given)
stays_lawful v call given h = by given (plain v call) (λ x is. (answer_of v call x is).lawful h)
  where
    by : (r : Reply) (outcome : Outcome) → ((x : Reply × Volume) → outcome ≡ Ok x → IsLawfulVolume x.1) → IsLawfulVolume (left_by outcome v r)
    by (reply.Refused fault) outcome ok = h
    by r (Ok x) ok = ok x refl
    by r (Err fault) ok = h

-- what is left after the machine's own reply, or after a refusal for want of memory
pub lawful_then : (v w : Volume) (call : Call) (given : Reply) → IsOwnOrMemory v call given w → IsLawfulVolume v → IsLawfulVolume w
lawful_then v w call given step h = subst IsLawfulVolume (sym step.left) (stays_lawful v call given h)
