-- What a crash leaves while a volume is made.
use Rattle.std.specs.Prelude.{◌≡◌, ◌⊎◌, ◌+◌, ◌*◌, ℕ, List, [], length, Result, Ok, Err, refl}
use Rattle.std.proofs.Common.{sym, ◌∙◌, ap, subst, inl, inr, arith}
use Rattle.byte_map.specs.Words.{Map}
use Rattle.meta_log.specs.Format.{IsFormatImage}
use Rattle.meta_log.specs.Log.{IsLog, layout_of, state_of}
use Rattle.meta_log.specs.Meta.{meta_of}
use Rattle.meta_log.specs.Ready.{IsCommitImage}
use Rattle.meta_log.specs.declared.log.MetaLog.{MetaLog}
use Rattle.meta_log.proofs.Lives.{stands_spells}
use Rattle.vdisk.specs.Disk.{DiskState, ChangedWithin, GrownTo, Elapses, Follows}
use Rattle.vdisk.specs.Steps.{Keeps, TornWithin, keeps_start, keeps_then, keeps_as, keeps_call, keeps_torn}
use Rattle.vdisk.specs.declared.disk.Disk.{Ghosts}
use Rattle.volume_inside.specs.Fresh.{fresh_map}
use Rattle.volume_inside.specs.Inside.{Inside, inside_at}
use Rattle.volume_inside.specs.InsideOf.{area_of}
use Rattle.volume_inside.specs.Layout.{journal_at, half_bytes}
use Rattle.volume_inside.specs.Rules.{IsVolume}
use Rattle.volume_inside.specs.Shows.{HasInside}
use Rattle.volume_inside.specs.Typed.{Typed, typed_of}
use Rattle.volume_inside.specs.View.{view}
use Rattle.volume_inside.proofs.Freshness.{fresh_typed, fresh_view}
use Rattle.volume_tables.specs.Formats.{IsBegun, SpellsNoFile, HasNoFile, IsMakeImage}
use Rattle.volume_tables.specs.Mount.{read_meta}

unchanged : (at n : ℕ) (c : List ℕ) → ChangedWithin at n c c
unchanged at n c = record { before = refl; after = refl; size = refl }

-- ---- the disk grows, and its first cluster is written

pub begun_grown : (n : ℕ) (old new : DiskState) → Elapses old new
    → Follows (GrownTo (4096 * n)) old.may_leave new.may_leave → Keeps old new (IsBegun n old)
begun_grown n old new time crash =
    keeps_call old new (IsBegun n old) time (λ c left. let from =
    crash c left in (from.0, c, from.1, from.2, unchanged 0 4096 c))

pub begun_written : (n : ℕ) (old middle new : DiskState) → Elapses old middle
    → Follows (GrownTo (4096 * n)) old.may_leave middle.may_leave
    → TornWithin 0 4096 middle new → Keeps old new (IsBegun n old)
begun_written n old middle new time crash torn =
    keeps_then old middle new (IsBegun n old) (begun_grown n old middle time crash)
    (keeps_torn middle new 0 4096 (λ c. (d : List ℕ) × old.may_leave d × GrownTo (4096 * n) d c) (IsBegun n old) torn
    (λ c left. crash c left) (λ d c change from. (from.0, d, from.1, from.2, change)))

-- ---- an image whose journal spells no file has none

no_volume : (n : ℕ) (m : Map) → m ≡ [] → IsVolume n m → ⊥
no_volume n m is volume =
    let empty : IsVolume n [] = subst (λ (q : Map). IsVolume n q) is volume in
    empty.rules.records.volume

same_map : (a b : Map) (r : Result Map ℕ) → r ≡ Ok a → r ≡ Ok b → b ≡ a
same_map a b r is also = let both = sym is ∙ also in cc

here : (n : ℕ) (c : List ℕ) (i : Inside) → (spells : (meta_of journal_at (half_bytes n) c ≡ Err 2)
    ⊎ ((meta_of journal_at (half_bytes n) c ≡ Ok []) ⊎ (meta_of journal_at (half_bytes n) c ≡ Ok fresh_map)))
    → HasInside (area_of read_meta n) i c → view i ≡ []
here n c i (inl damaged) has = absurd (let clash = sym damaged ∙ has.spells in cc)
here n c i (inr (inl none)) has = absurd (no_volume n has.stored (same_map [] has.stored _ none has.spells) has.volume)
here n c i (inr (inr fresh)) has =
    let stored : has.stored ≡ fresh_map = same_map fresh_map has.stored _ fresh has.spells in
    ap view (sym has.is) ∙ ap (λ (t : Typed). view (inside_at t c)) (ap typed_of stored ∙ fresh_typed) ∙ fresh_view c

pub no_file : (n : ℕ) (c : List ℕ) → SpellsNoFile journal_at (half_bytes n) (4096 * n) c → HasNoFile c
no_file n c is i inside =
    let same : inside.0 ≡ n = let size = inside.1.size in omega (arith, size, is.size) in
    here n c i is.spells (subst (λ (k : ℕ). HasInside (area_of read_meta k) i c) same inside.1)

-- ---- the journal is made

pub make_start : (n : ℕ) (s : DiskState) → Keeps s s (IsMakeImage n s)
make_start n s = keeps_start s (IsMakeImage n s) (λ c left. inl left)

pub make_begun : (n : ℕ) (old new : DiskState) → Keeps old new (IsBegun n old) → Keeps old new (IsMakeImage n old)
make_begun n old new run =
    keeps_as old new (IsBegun n old) (IsMakeImage n old)
    (λ c begun. inr (inl (c, c, begun, unchanged (journal_at + half_bytes n) 1 c, unchanged journal_at 1 c))) run

pub make_journal : (n : ℕ) (old middle new : DiskState) → Keeps old middle (IsBegun n old)
    → length middle.image ≡ 4096 * n
    → Keeps middle new (IsFormatImage journal_at (half_bytes n) middle) → Keeps old new (IsMakeImage n old)
make_journal n old middle new first size second =
    keeps_then old middle new (IsMakeImage n old) (make_begun n old middle first)
    (keeps_as middle new (IsFormatImage journal_at (half_bytes n) middle) (IsMakeImage n old) by second)
  where
    by : (c : List ℕ) → IsFormatImage journal_at (half_bytes n) middle c → IsMakeImage n old c
    by c (inl (d, e, left, behind, front)) = inr (inl (d, e, first.now d left, behind, front))
    by c (inr (change, inl damaged)) = inr (inr (no_file n c
        (record { size = change.size ∙ size; spells = inl damaged })))
    by c (inr (change, inr empty)) = inr (inr (no_file n c
        (record { size = change.size ∙ size; spells = inr (inl empty) })))

-- ---- its first records are committed

module _ {D : Type 0} {d : Ghosts D} (l : MetaLog D d) (log : IsLog l []) where
  spells_none : (c : List ℕ) → (state_of l).may_leave c → SpellsNoFile l.at l.half (length (state_of l).image) c
  spells_none c left = record {
    size = (log.stands.same c left).1;
    spells = inr (inl (stands_spells (layout_of l) (state_of l) [] log.stands c left));
  }

  pub first_start : Keeps (state_of l) (state_of l) (SpellsNoFile l.at l.half (length (state_of l).image))
  first_start = keeps_start (state_of l) (SpellsNoFile l.at l.half (length (state_of l).image)) spells_none

  pub first_committed : (new : DiskState) (m : Map) → m ≡ fresh_map
      → Keeps (state_of l) new (IsCommitImage l.at l.half (state_of l) m)
      → Keeps (state_of l) new (SpellsNoFile l.at l.half (length (state_of l).image))
  first_committed new m is run =
      keeps_as (state_of l) new (IsCommitImage l.at l.half (state_of l) m)
      (SpellsNoFile l.at l.half (length (state_of l).image)) by run
    where
      by : (c : List ℕ) → IsCommitImage l.at l.half (state_of l) m c
          → SpellsNoFile l.at l.half (length (state_of l).image) c
      by c (inl (d, left, change, same)) =
          let was = spells_none d left in
          record {
            size = change.size ∙ was.size;
            spells = inr (inl (same ∙ stands_spells (layout_of l) (state_of l) [] log.stands d left));
          }
      by c (inr (change, spells)) = record {
        size = change.size;
        spells = inr
            (inr (spells ∙ ap (λ (q : Map). Ok q) is));
      }

-- the same of a journal in which records were staged
pub first_staged : {D : Type 0} {d : Ghosts D} (l s : MetaLog D d) (new : DiskState) → s.disk ≡ l.disk → s.at ≡ l.at
    → s.half ≡ l.half
    → Keeps (state_of s) new (SpellsNoFile s.at s.half (length (state_of s).image))
    → Keeps (state_of l) new (SpellsNoFile l.at l.half (length (state_of l).image))
first_staged {D} {d} l s new disk at half run =
    subst (λ (p : D × ℕ × ℕ). Keeps (d.state p.0) new (SpellsNoFile p.1 p.2 (length (d.state p.0).image)))
    (λ i. (disk i, at i, half i)) run

pub make_records : (n : ℕ) (old middle new : DiskState) (at half size : ℕ) → at ≡ journal_at → half ≡ half_bytes n
    → size ≡ 4096 * n
    → Keeps old middle (IsMakeImage n old) → Keeps middle new (SpellsNoFile at half size)
    → Keeps old new (IsMakeImage n old)
make_records n old middle new at half size place halves whole first second =
    keeps_then old middle new (IsMakeImage n old) first
    (keeps_as middle new (SpellsNoFile at half size) (IsMakeImage n old)
    (λ c none. inr (inr (no_file n c (subst (λ (p : ℕ × ℕ × ℕ). SpellsNoFile p.0 p.1 p.2 c)
    (λ i. (place i, halves i, whole i)) none)))) second)
