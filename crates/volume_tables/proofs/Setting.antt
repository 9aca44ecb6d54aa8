-- What setters do and leave.
use Rattle.std.specs.Prelude.{◌≡◌, ◌≢◌, ◌≤◌, ◌+◌, ℕ, List, length, T, Option, Some, None, IsSome, IsOk, Result}
use Rattle.std.specs.Prelude.{OnOk, OnErr, is_some, true, refl}
use Rattle.std.proofs.Common.{sym, ◌∙◌, ap, subst, inl, inr, arith}
use Rattle.std.specs.Option.{option_map}
use Rattle.std.proofs.lemmas.Result.{on_ok_weaker, on_err_weaker}
use Rattle.std.specs.FinMap.Entries.{find, put, is_sorted}
use Rattle.byte_map.specs.Words.{Map, bytes_cmp}
use Rattle.plain_volume.specs.declared.call.Fault.{Fault}
use Rattle.table_records.specs.Codecs.{Codec, typed}
use Rattle.table_records.specs.Changes.{IsPut}
use Rattle.table_records.specs.Laws.{find_typed}
use Rattle.volume_inside.specs.Typed.{Typed, typed_of}
use Rattle.meta_log.specs.Log.{checkpoint_length}
use Rattle.volume_tables.specs.Spelled.{is_pair_of, is_well_formed}
use Rattle.volume_tables.specs.Contents.{HasContents}
use Rattle.volume_tables.specs.Clusters.{AreHeld}
use Rattle.byte_map.specs.Laws.{is_sorted_put}
use Rattle.table_records.specs.Keys.{single_cmp}
use Rattle.table_records.specs.Tables.{volume_codec}
use Rattle.table_records.specs.declared.records.VolumeRecord.{VolumeRecord}
use Rattle.volume_inside.specs.Changes.{with_volume}
use Rattle.volume_tables.proofs.Answers.{ok_or_err, on_ok, as_true, true_as}
use Rattle.volume_tables.proofs.Puts.{volume_put}
use Rattle.volume_tables.proofs.Tailed.{pages_of_tables}
use Rattle.volume_tables.proofs.Sizes.{volume_key}
use Rattle.volume_tables.proofs.Kept.{put_contents, dropped_contents, put_spelled}
use Rattle.volume_tables.specs.Log.{log_now, log_staged}
use Rattle.volume_tables.specs.Staging.{IsQuiet, IsStagedPut, IsStagedDrop}
use Rattle.volume_tables.specs.Tables.{disk_of, tables_now, with_ends, IsLogSet, new_bytes}
use Rattle.vdisk.specs.declared.disk.Disk.{Ghosts}
use Rattle.meta_log.specs.declared.log.MetaLog.{MetaLog}
use Rattle.volume_tables.specs.declared.tables.Tables.{Tables}
use Rattle.volume_tables.proofs.WellFormed.{IsEntryTable, volume_table, checkpoint_put, checkpoint_without, found_size}

module _ {D : Type 0} {d : Ghosts D} where
  pub as_put : {K V : Type 0} (c : Codec K V) (k : K) (v : V) (old new : MetaLog D d) (result : Result (Unit {0}) Fault)
      → IsStagedPut c k v old new result
      → OnOk result (IsPut c k v (log_now old) (log_now new))
  as_put c k v old new result p =
      on_ok_weaker result (λ is. record {
        key = p.key;
        value = p.value;
        spells = p.spells;
        whole = p.whole;
        means =
            p.means;
        is = is;
      }) p.ok

  -- the numbers of a setter whose entry has keys of so many bytes
  module _ {K V : Type 0} (c : Codec K V) (size : ℕ) (table : IsEntryTable c size) (t : Tables D d) (log : MetaLog D d)
      (k : K) (v : V) (result : Result (Unit {0}) Fault)
      (sorted : T (is_sorted bytes_cmp (log_now t.log))) (p : IsStagedPut c k v t.log log result) (long : ℕ)
      (key : length p.key ≡ long) where
    was : Option V
    was = find c.cmp k (typed c (log_now t.log))

    grown : checkpoint_length (put bytes_cmp p.key p.value (log_now t.log)) ≡ checkpoint_length
        (log_now t.log) + new_bytes (find c.cmp k (typed c (log_now t.log))) (5 + (long + size))
    grown = checkpoint_put c size table p.key p.value k (log_now t.log) p.spells p.whole sorted t.contents.spelled
        ∙ ap (λ (n : ℕ). checkpoint_length (log_now t.log) + new_bytes (find c.cmp k (typed c (log_now t.log)))
        (5 + (n + size))) key

    in_its_place : IsSome (find c.cmp k (typed c (log_now t.log))) → IsOk result
    in_its_place some = by (find bytes_cmp p.key (log_now t.log)) refl
        (subst (λ (o : Option V). IsSome o) (find_typed c p.key k p.spells (log_now t.log)) some)
      where
        by : (o : Option (List ℕ)) → find bytes_cmp p.key (log_now t.log) ≡ o
            → IsSome (option_map c.read_value (find bytes_cmp p.key (log_now t.log))) → IsOk result
        by None none is = absurd (let no_value : IsSome (option_map c.read_value None) = subst
            (λ (o : Option (List ℕ)). IsSome (option_map c.read_value o)) none is in cc)
        by (Some w) found is =
            p.in_place w found (found_size c size table p.key w k (log_now t.log) p.spells t.contents.spelled found
            ∙ sym (table.sized p.value p.whole))

    of_parts : IsLogSet (find c.cmp k (typed c (log_now t.log))) (5 + (long + size)) t.clusters t.log log result
    of_parts =
        let half = t.half in
        let value = table.sized p.value p.whole in
        record {
          full = (
            λ e. let past = p.full.0 e in omega (arith, past, grown, half),
            λ past. p.full.1
                (omega (arith, past, grown, half)),
          );
          in_place = in_its_place;
          refused = p.refused;
          checkpoint = on_ok_weaker result (λ is. ap checkpoint_length is ∙ grown) p.ok;
          no_checkpoint = on_err_weaker result (λ is. ap checkpoint_length is) p.err;
          staged = on_ok_weaker result (λ is. omega (arith, is, key, value)) p.taken;
          none_staged = p.left;
          running = p.quiet.running;
          image = ap (λ (x : D). (d.state x).image) p.quiet.disk;
        }

    pub entry_set : (sum : ℕ) → 5 + (long + size) ≡ sum
        → IsLogSet (find c.cmp k (typed c (log_now t.log))) sum t.clusters t.log log result
    entry_set sum is = subst (λ (n : ℕ). IsLogSet
        (find c.cmp k (typed c (log_now t.log))) n t.clusters t.log log result) is of_parts

  -- what holds of the journal after a setter
  module _ {K V : Type 0} (c : Codec K V) (t : Tables D d) (log : MetaLog D d) (k : K) (v : V)
      (result : Result (Unit {0}) Fault) (p : IsStagedPut c k v t.log log result) where
    pub entry_contents : c.number ≢ 1 → c.number ≢ 9 → c.number ≢ 10
        → ((key value : List ℕ) → is_pair_of c key value ≡ true → is_well_formed key value ≡ true)
        → HasContents (log_now log) t.next_id t.settings t.ends
    entry_contents no_volume no_settings no_result joins =
        elim (ok_or_err result (as_put c k v t.log log result p) p.err) [
          | inl put ↦ put_contents c no_volume no_settings no_result (log_now t.log)
              (log_now log) t.next_id t.settings t.ends t.contents joins k v put
          | inr same ↦ subst (λ (m : Map). HasContents m t.next_id t.settings t.ends) (sym same) t.contents
        ]

    -- tables that name the same clusters
    pub entry_held : (q : Typed) → AreHeld t.clusters t.space q
        → (IsPut c k v (log_now t.log) (log_now log) → typed_of (log_now log) ≡ q)
        → AreHeld t.clusters t.space (typed_of (log_now log))
    entry_held q held means = elim (ok_or_err result (as_put c k v t.log log result p) p.err) [
      | inl put ↦ subst (λ (x : Typed). AreHeld t.clusters t.space x) (sym (means put)) held
      | inr same ↦ subst (λ (m : Map). AreHeld t.clusters t.space (typed_of m)) (sym same) t.held
    ]

    pub entry_few : (n : ℕ) → 5 + (length p.key + length p.value) ≤ n → log_staged t.log + n ≤ 65472
        → log_staged log ≤ 65472
    entry_few n small room = elim (ok_or_err result p.taken p.left) [
      | inl taken ↦ omega (arith, taken, small, room)
      | inr left ↦ omega (arith, left, room)
    ]

    pub entry_now : (f : Typed → Typed) → ((x : Typed) → with_ends t.ends (f x) ≡ f (with_ends t.ends x))
        → (IsPut c k v (log_now t.log) (log_now log) → typed_of (log_now log) ≡ f (typed_of (log_now t.log)))
        → OnOk result (with_ends t.ends (typed_of (log_now log)) ≡ f (tables_now t))
    entry_now f through means =
        on_ok_weaker result (λ put. ap (λ (x : Typed). with_ends t.ends x) (means put)
        ∙ through (typed_of (log_now t.log))) (as_put c k v t.log log result p)

    -- a setter of another table leaves the containers and their pages
    pub entry_pages : (f : Typed → Typed) → ((x : Typed) → pages_of_tables (f x) ≡ pages_of_tables x)
        → (IsPut c k v (log_now t.log) (log_now log) → typed_of (log_now log) ≡ f (typed_of (log_now t.log)))
        → pages_of_tables (typed_of (log_now log)) ≡ pages_of_tables (typed_of (log_now t.log))
    entry_pages f others means = elim (ok_or_err result (as_put c k v t.log log result p) p.err) [
      | inl put ↦ ap pages_of_tables (means put) ∙ others (typed_of (log_now t.log))
      | inr same ↦ ap (λ (m : Map). pages_of_tables (typed_of m)) same
    ]

    pub entry_kept : OnErr result (with_ends t.ends (typed_of (log_now log)) ≡ tables_now t)
    entry_kept = on_err_weaker result (λ same. ap (λ (m : Map). with_ends t.ends (typed_of m)) same) p.err

  -- what holds of the journal after entries were dropped
  module _ {K V : Type 0} (c : Codec K V) (t : Tables D d) (log : MetaLog D d) (from : K) (to : Option K)
      (p : IsStagedDrop c from to t.log log) where
    pub drop_contents : c.number ≢ 1 → c.number ≢ 9 → c.number ≢ 10
        → HasContents (log_now log) t.next_id t.settings t.ends
    drop_contents no_volume no_settings no_result =
        dropped_contents c no_volume no_settings no_result (log_now t.log)
        (log_now log) t.next_id t.settings t.ends t.contents from to p.dropped

    pub drop_checkpoint : checkpoint_length (log_now log) ≤ checkpoint_length (log_now t.log)
    drop_checkpoint =
        let fewer = checkpoint_without p.dropped.low p.dropped.high (log_now t.log) in
        let same = ap checkpoint_length p.dropped.is in
        omega (arith, fewer, same)

    pub drop_now : (f : Typed → Typed) → ((x : Typed) → with_ends t.ends (f x) ≡ f (with_ends t.ends x))
        → typed_of (log_now log) ≡ f (typed_of (log_now t.log))
        → with_ends t.ends (typed_of (log_now log)) ≡ f (tables_now t)
    drop_now f through means = ap (λ (x : Typed). with_ends t.ends x) means ∙ through (typed_of (log_now t.log))

  pub drop_image : (t : Tables D d) (log : MetaLog D d) → IsQuiet t.log log → (d.state log.disk).image ≡ (disk_of t).image
  drop_image t log quiet = ap (λ (x : D). (d.state x).image) quiet.disk

  -- the volume's record is put in its place
  module _ (t : Tables D d) (log : MetaLog D d) (n : ℕ) (result : Result (Unit {0}) Fault)
      (p : IsStagedPut volume_codec tt (record { version = 1; next_id = n }) t.log log result) where
    volume_key_size : length p.key ≡ 1
    volume_key_size = volume_key p.key p.spells

    pub volume_set : IsLogSet (find single_cmp tt (typed volume_codec (log_now t.log))) 18 t.clusters t.log log result
    volume_set = entry_set volume_codec 12 volume_table t log tt (record { version = 1; next_id = n }) result
        (as_true t.contents.sorted) p 1 volume_key_size 18 refl

    pub volume_is_ok : IsOk result
    volume_is_ok = volume_set.in_place (ap (λ (es : List (Unit {0} × VolumeRecord)). is_some (find single_cmp tt es))
        t.contents.volume)

    volume_is_put : IsPut volume_codec tt (record { version = 1; next_id = n }) (log_now t.log) (log_now log)
    volume_is_put = on_ok result volume_is_ok (as_put volume_codec tt
        (record { version = 1; next_id = n }) t.log log result p)

    pub volume_all : typed_of (log_now log) ≡ with_volume (record { version = 1; next_id = n })
        (typed_of (log_now t.log))
    volume_all = volume_put (log_now t.log) (log_now log) (as_true t.contents.sorted)
        (record { version = 1; next_id = n }) volume_is_put

    pub volume_staged : log_staged log ≡ log_staged t.log + 18
    volume_staged = on_ok result volume_is_ok volume_set.staged

    pub volume_checkpoint : checkpoint_length (log_now log) ≡ checkpoint_length (log_now t.log)
    volume_checkpoint =
        let grown = on_ok result volume_is_ok volume_set.checkpoint in
        let none : new_bytes (find single_cmp tt (typed volume_codec (log_now t.log))) 18 ≡ 0 = ap
        (λ (es : List (Unit {0} × VolumeRecord)). new_bytes (find single_cmp tt es) 18) t.contents.volume in
        omega (arith, grown, none)

    pub volume_contents : HasContents (log_now log) n t.settings t.ends
    volume_contents = record {
      sorted = ap (is_sorted bytes_cmp) volume_is_put.is
          ∙ true_as (is_sorted_put volume_is_put.key volume_is_put.value (log_now t.log) (as_true t.contents.sorted));
      spelled = put_spelled volume_codec volume_table.joins tt (record { version = 1; next_id = n }) (log_now t.log)
          (log_now log) volume_is_put t.contents.spelled;
      volume = ap (λ (q : Typed). q.volume) volume_all
          ∙ ap (λ (es : List (Unit {0} × VolumeRecord)). put single_cmp tt (record { version = 1; next_id = n }) es)
          t.contents.volume;
      settings_there = ap (λ (q : Typed). q.settings) volume_all ∙ t.contents.settings_there;
      ends_there = ap (λ (q : Typed). q.results) volume_all ∙ t.contents.ends_there;
    }
