-- Clusters that were written ahead, in the steps of a write.
use Rattle.std.specs.Prelude.{◌≡◌, ◌≤◌, ◌<◌, ◌+◌, ◌*◌, ◌-◌, ℕ, Bool, List, length, get_or, drop, Result, Ok, Err, IfOk, if◌then◌else◌}
use Rattle.std.proofs.Common.{sym, ◌∙◌, ap, subst, arith}
use Rattle.std.proofs.lemmas.List.{get_or-take, get_or-drop}
use Rattle.vdisk.specs.Ranges.{part, length-part, part_part}
use Rattle.vdisk.specs.declared.disk.Disk.{Ghosts}
use Rattle.cluster_space.specs.declared.run.Run.{Run}
use Rattle.cluster_space.specs.declared.state.State.{State}
use Rattle.cluster_space.specs.declared.state.State.TheVariants.{Free}
use Rattle.volume_inside.specs.Inside.{cluster_bytes}
use Rattle.volume_tables.specs.Clusters.{HasState}
use Rattle.volume_tables.specs.Frames.{AreFree}
use Rattle.volume_tables.specs.Tables.{disk_of, states_of}
use Rattle.volume_tables.specs.declared.tables.Tables.{Tables}
use Rattle.volume_files.specs.Writing.{laid, without_first, AreAhead, AreFilled, HasLaid}
use Rattle.volume_files.proofs.Overwritten.{within}

laid_filled : (start at : ℕ) (bytes : List ℕ) (old o : ℕ) → at ≤ start → start + 4096 ≤ at + length bytes → o < 4096
    → get_or (part (start - at) 4096 bytes) o 0 ≡ laid at bytes (start + o) old
laid_filled start at bytes old o low high under =
    let place : start - at + o ≡ start + o - at = omega (arith, low) in
    get_or-take 4096 (drop (start - at) bytes) o 0 under
    ∙ get_or-drop (start - at) bytes o 0
    ∙ ap (λ (k : ℕ). get_or bytes k 0) place
    ∙ sym (ap (λ (b : Bool). if b then get_or bytes (start + o - at) 0 else old)
    (within at (length bytes) (start + o) (omega (arith, low)) (omega (arith, high, under))))

module _ (start at : ℕ) (bytes : List ℕ) (run : Run) (image : List ℕ) where
  -- the first of them has its block
  pub first_laid : (stood : ℕ → ℕ) → 0 < run.count → AreFilled start at (length bytes) run.count
      → AreAhead start at bytes run image → HasLaid start at bytes stood image run.first
  first_laid stood some filled ahead o under =
      let low = (filled 0 some).0 in
      let high = (filled 0 some).1 in
      let one : run.first ≡ run.first + 0 = omega arith in
      let place : start + 4096 * 0 - at ≡ start - at = omega arith in
      let here = ap (λ (c : ℕ). cluster_bytes c image) one ∙ ahead 0 some
      ∙ ap (λ (p : ℕ). part p 4096 bytes) place in
      ap (λ (xs : List ℕ). get_or xs o 0) here
      ∙ laid_filled start at bytes (stood (start + o)) o (omega (arith, low)) (omega (arith, high)) under

  -- and the others are those of the blocks behind
  pub rest_ahead : AreAhead start at bytes run image → AreAhead (start + 4096) at bytes (without_first run) image
  rest_ahead ahead k low =
      let one : run.first + 1 + k ≡ run.first + (k + 1) = omega arith in
      let place : start + 4096 * (k + 1) - at ≡ start + 4096 + 4096 * k - at = omega arith in
      ap (λ (c : ℕ). cluster_bytes c image) one ∙ ahead (k + 1) (omega (arith, low))
      ∙ ap (λ (p : ℕ). part p 4096 bytes) place

  -- clusters that were written from a place in the bytes on
  pub written_ahead : at ≤ start → start ≤ at + length bytes
      → 4096 * run.count ≤ length (part (start - at) (length bytes - (start - at)) bytes)
      → ((k : ℕ) → k < run.count → cluster_bytes (run.first + k) image
      ≡ part (4096 * k) 4096 (part (start - at) (length bytes - (start - at)) bytes))
      → AreAhead start at bytes run image
  written_ahead low high fits written k within =
      let place : start - at + 4096 * k ≡ start + 4096 * k - at = omega (arith, low) in
      let size = length-part (start - at) (length bytes - (start - at)) bytes (omega (arith, low, high)) in
      written k within
      ∙ part_part (start - at) (length bytes - (start - at)) (4096 * k) 4096 bytes (omega (arith, fits, size, within))
      ∙ ap (λ (p : ℕ). part p 4096 bytes) place

-- a cluster that was written alone
pub alone_laid : (run : Run) (image block : List ℕ) → 0 < run.count
    → ((k : ℕ) → k < run.count → cluster_bytes (run.first + k) image ≡ part (4096 * k) 4096 block)
    → (o : ℕ) → o < 4096 → get_or (cluster_bytes run.first image) o 0 ≡ get_or block o 0
alone_laid run image block some written o under =
    let one : run.first ≡ run.first + 0 = omega arith in
    let place : 4096 * 0 + o ≡ o = omega arith in
    ap (λ (c : ℕ). get_or (cluster_bytes c image) o 0) one
    ∙ ap (λ (xs : List ℕ). get_or xs o 0) (written 0 some)
    ∙ get_or-take 4096 (drop (4096 * 0) block) o 0 under
    ∙ get_or-drop (4096 * 0) block o 0
    ∙ ap (λ (k : ℕ). get_or block k 0) place

-- ---- what answers of one call have together

pub if_two : {A E : Type 0} (r : Result A E) (P Q S : A → Type 0) → ((a : A) → P a → Q a → S a) → IfOk r P → IfOk r Q
    → IfOk r S
if_two (Ok a) P Q S both p q = both a p q
if_two (Err e) P Q S both p q = tt

pub if_three : {A E : Type 0} (r : Result A E) (P Q R S : A → Type 0) → ((a : A) → P a → Q a → R a → S a) → IfOk r P
    → IfOk r Q → IfOk r R → IfOk r S
if_three (Ok a) P Q R S all p q x = all a p q x
if_three (Err e) P Q R S all p q x = tt

-- ---- their states

module _ {D : Type 0} {d : Ghosts D} (t h : Tables D d) (run : Run) where
  -- the clusters are free in other tables with these states
  pub free_still : h.clusters ≡ t.clusters → states_of h ≡ states_of t → AreFree t.clusters (states_of t) run
      → AreFree h.clusters (states_of h) run
  free_still clusters states free = subst (λ (p : ℕ × List State). AreFree p.0 p.1 run)
      (λ i. (sym clusters i, sym states i)) free

  pub first_free : 0 < run.count → AreFree t.clusters (states_of t) run → HasState t.clusters (states_of t) Free run.first
  first_free some free =
      let one : run.first + 0 ≡ run.first = omega arith in
      subst (λ (c : ℕ). HasState t.clusters (states_of t) Free c) one (free 0 some)

  -- once the first of them was taken, the others are free
  pub rest_free : ((c : ℕ) → (c ≡ run.first → ⊥) → HasState t.clusters (states_of t) Free c
      → HasState h.clusters (states_of h) Free c)
      → AreFree t.clusters (states_of t) run → AreFree h.clusters (states_of h) (without_first run)
  rest_free others free k low =
      let one : run.first + (k + 1) ≡ run.first + 1 + k = omega arith in
      others (run.first + 1 + k) (λ same. omega (arith, same))
      (subst (λ (c : ℕ). HasState t.clusters (states_of t) Free c) one (free (k + 1) (omega (arith, low))))

  -- the first of them has 4096 bytes, and a number that is far from the greatest
  pub first_low : 0 < run.count → AreFree t.clusters (states_of t) run → run.first < 1048576
  first_low some free =
      let has = first_free some free in
      let from = has.from_first in
      let within = has.is.within in
      omega (arith, from, within, t.spaces, t.most)

  pub first_whole : 0 < run.count → AreFree t.clusters (states_of t) run
      → length (cluster_bytes run.first (disk_of t).image) ≡ 4096
  first_whole some free =
      let has = first_free some free in
      let from = has.from_first in
      let within = has.is.within in
      length-part (4096 * run.first) 4096 (disk_of t).image (omega (arith, from, within, t.spaces, t.size))
