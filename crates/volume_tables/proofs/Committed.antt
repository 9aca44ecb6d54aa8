-- What a commit of the first records leaves.
use Rattle.std.specs.Prelude.{◌≡◌, ◌⊎◌, ◌≤◌, ◌*◌, ℕ, T, List, [], ◌++◌, ◌+◌, length, replicate, take, drop, Ok}
use Rattle.std.proofs.Common.{sym, ◌∙◌, ap, subst, inl, inr, arith}
use Rattle.std.proofs.lemmas.List.{length-replicate, get_or-replicate, take_all, take_at}
use Rattle.std.specs.FinMap.Entries.{is_sorted}
use Rattle.vdisk.specs.Causes.{Rose}
use Rattle.vdisk.specs.Ranges.{part, part_apart}
use Rattle.vdisk.specs.declared.disk.Disk.{Ghosts}
use Rattle.byte_map.specs.Words.{bytes_cmp}
use Rattle.cluster_space.specs.declared.state.State.{State}
use Rattle.cluster_space.specs.declared.state.State.TheVariants.{Free, Used}
use Rattle.meta_log.specs.Log.{IsLog}
use Rattle.table_rules.specs.Found.{AreRecordsOf}
use Rattle.table_rules.specs.Marks.{IsFilled}
use Rattle.table_rules.specs.declared.records.Records.{Records}
use Rattle.volume_inside.specs.Fresh.{fresh_tables}
use Rattle.volume_inside.specs.Layout.{journal_at, half_bytes, data_clusters}
use Rattle.volume_inside.specs.Named.{clusters_of}
use Rattle.volume_inside.specs.Rules.{IsVolume}
use Rattle.volume_inside.specs.Shows.{Shows, Kept}
use Rattle.volume_inside.specs.Superblock.{IsSuperblock, HasSuperblock}
use Rattle.volume_inside.specs.Tails.{AreTailsFree}
use Rattle.volume_inside.specs.Typed.{Typed, typed_of}
use Rattle.volume_inside.specs.declared.mount_fault.MountFault.{MountFault}
use Rattle.volume_inside.specs.declared.mount_fault.MountFault.TheVariants.{Failed, Memory}
use Rattle.volume_inside.proofs.Freshness.{fresh_typed, fresh_volume, fresh_shows}
use Rattle.volume_inside.proofs.Journals.{journal_apart}
use Rattle.volume_tables.specs.Log.{log_now}
use Rattle.volume_tables.specs.Tables.{area_of, disk_of, IsTables}
use Rattle.volume_tables.specs.declared.tables.Tables.{Tables}
use Rattle.vdisk.specs.Disk.{DiskState, ChangedWithin}
use Rattle.byte_map.specs.Words.{Map}
use Rattle.meta_log.specs.Meta.{meta_of}
use Rattle.meta_log.specs.Ready.{IsSettledImage}
use Rattle.volume_inside.specs.Fresh.{fresh_map}
use Rattle.volume_tables.specs.Formats.{SpellsFresh, IsFormatFault}

some_pairs : [] ≡ fresh_map → ⊥
some_pairs is = cc

pub committed : (at half at₁ half₁ : ℕ) (s : DiskState) (image : List ℕ) (n : Map) (c : List ℕ) → at₁ ≡ at
    → half₁ ≡ half → n ≡ fresh_map → s.image ≡ image
    → IsSettledImage at₁ half₁ s [] n c → SpellsFresh at half image c
committed at half at₁ half₁ s image n c same_at same_half is same settled = record {
  spells = (λ i. meta_of (sym same_at i) (sym same_half i) c) ∙ settled.0 ∙ ap (λ (m : Map). Ok m) is;
  change = by settled.1;
}
  where
    by : ChangedWithin at₁ (2 * half₁) s.image c ⊎ (s.may_leave c × ([] ≡ n)) → ChangedWithin at (2 * half) image c
    by (inl change) =
        subst (λ (q : List ℕ). ChangedWithin at (2 * half) q c) same
        (subst (λ (k : ℕ). ChangedWithin at (2 * k) s.image c) same_half
        (subst (λ (k : ℕ). ChangedWithin k (2 * half₁) s.image c) same_at change))
    by (inr old) = absurd (some_pairs (old.1 ∙ is))

-- ---- the tables of the map

pub fresh_volume_at : (n : ℕ) (m : Map) → m ≡ fresh_map → IsVolume n m
fresh_volume_at n m is = subst (λ (q : Map). IsVolume n q) (sym is) (fresh_volume n)

pub fresh_sorted_at : (m : Map) → m ≡ fresh_map → T (is_sorted bytes_cmp m)
fresh_sorted_at m is = subst (λ (q : Map). T (is_sorted bytes_cmp q)) (sym is) tt

pub fresh_tables_at : (m : Map) → m ≡ fresh_map → typed_of m ≡ fresh_tables
fresh_tables_at m is = ap typed_of is ∙ fresh_typed

pub fresh_records_at : (m : Map) (r : Records) → m ≡ fresh_map → AreRecordsOf fresh_tables r
    → AreRecordsOf (typed_of m) r
fresh_records_at m r is are = subst (λ (t : Typed). AreRecordsOf t r) (sym (fresh_tables_at m is)) are

pub fresh_space_at : (n : ℕ) (m : Map) (states : List State) → m ≡ fresh_map → IsFilled n [] states
    → IsFilled n (clusters_of (typed_of m)) states
fresh_space_at n m states is filled = subst (λ (t : Typed). IsFilled n (clusters_of t) states)
    (sym (fresh_tables_at m is)) filled

pub empty_space : (n : ℕ) (states : List State) → states ≡ replicate (data_clusters n) Free → IsFilled n [] states
empty_space n states is = subst (λ (q : List State). IsFilled n [] q) (sym is) (record {
  size = length-replicate (data_clusters n) Free;
  used = tt;
  free = λ k low out. record {
    within = omega (arith, low, length-replicate (data_clusters n) Free);
    state =
        get_or-replicate (data_clusters n) k Free Used low;
  };
})

-- ---- what it shows

pub superblock_on : (n at size : ℕ) (old c : List ℕ) → 4096 ≤ at → ChangedWithin at size old c → HasSuperblock n old
    → HasSuperblock n c
superblock_on n at size old c behind change has = record {
  whole = omega (arith, has.whole, change.size);
  is =
      let front : part 0 4096 c ≡ part 0 4096 old = part_apart at size 0 4096 old c
      (inl (omega (arith, behind))) change in
      subst (λ (q : List ℕ). IsSuperblock n q) (sym front) has.is;
}

pub committed_shows : (n : ℕ) (image c : List ℕ) → HasSuperblock n image → length image ≡ 4096 * n
    → SpellsFresh journal_at (half_bytes n) image c
    → Shows (record { clusters = n; meta = meta_of journal_at (half_bytes n) }) [] c
committed_shows n image c has size made =
    fresh_shows (record { clusters = n; meta = meta_of journal_at (half_bytes n) }) c fresh_map
    (superblock_on n journal_at (2 * half_bytes n) image c (omega arith) made.change has)
    (made.change.size ∙ size) made.spells (let v = fresh_volume n in v.spelled) fresh_typed

module _ {D : Type 0} {d : Ghosts D} (t : Tables D d) (n : ℕ) (is : t.clusters ≡ n) where
  pub formatted_tables : typed_of (log_now t.log) ≡ fresh_tables → IsLog t.log fresh_map → IsTables t fresh_tables
  formatted_tables now log = record {
    map = fresh_map;
    log = log;
    is = fresh_typed;
    stored_apart = journal_apart t.clusters fresh_tables tt;
    free = λ k free. tt;
    tails = subst (λ (q : Typed). AreTailsFree fresh_tables q.chunks) (sym now)
        (record { tail = λ k cluster found. absurd (cc) });
  }

  pub formatted_kept : (image : List ℕ) → HasSuperblock n image → length image ≡ 4096 * n
      → ((c : List ℕ) → (disk_of t).may_leave c → SpellsFresh journal_at (half_bytes n) image c)
      → Kept (area_of t) (disk_of t) []
  formatted_kept image has size settled = λ c left.
      subst (λ (k : ℕ). Shows (record { clusters = k; meta = meta_of journal_at (half_bytes k) }) [] c) (sym is)
      (committed_shows n image c has size (settled c left))

pub made_fault : (n : ℕ) (old middle new : DiskState) (fault : MountFault) → length old.image ≤ 4096 * n
    → old.faults ≤ middle.faults
    → ((fault ≡ Failed) × Rose middle.faults new.faults) ⊎ (fault ≡ Memory) → IsFormatFault n old new fault
made_fault n old middle new fault fits later (inl failed) =
    subst (λ (f : MountFault). IsFormatFault n old new f) (sym failed.0) (fits, omega (arith, failed.1, later))
made_fault n old middle new fault fits later (inr memory) = subst (λ (f : MountFault). IsFormatFault n old new f)
    (sym memory) fits

-- ---- the superblock is written

pub cluster_is : (n k : ℕ) (spelled text all : List ℕ) → ((rest : List ℕ) → IsSuperblock n (spelled ++ rest))
    → text ≡ spelled → length text ≤ 4096
    → all ≡ take 4096 text ++ replicate k 0 → IsSuperblock n all
cluster_is n k spelled text all is same short made =
    let whole : all ≡ spelled ++ replicate k 0 = made
    ∙ ap (λ (q : List ℕ). q ++ replicate k 0) (take_all 4096 text short ∙ same) in
    subst (λ (q : List ℕ). IsSuperblock n q) (sym whole) (is (replicate k 0))

pub superblock_put : (n : ℕ) (superblock old new : List ℕ) → length superblock ≡ 4096 → IsSuperblock n superblock
    → new ≡ take 0 old ++ (superblock ++ drop (0 + length superblock) old) → 4096 ≤ length new → HasSuperblock n new
superblock_put n superblock old new size is written whole = record {
  whole = whole;
  is =
      let rest = drop (0 + length superblock) old in
      let front : part 0 4096 new ≡ superblock = ap (λ (q : List ℕ). take 4096 q) written
      ∙ take_at superblock rest 4096 size in
      subst (λ (q : List ℕ). IsSuperblock n q) (sym front) is;
}
