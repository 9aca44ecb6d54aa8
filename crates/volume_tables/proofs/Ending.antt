-- The ends of jobs, as they are set and staged.
use Rattle.std.specs.Prelude.{◌≡◌, ◌≤◌, ◌+◌, ℕ, Bool, true, false, List, length, Option, Some, None, IsSome, IsOk}
use Rattle.std.specs.Prelude.{Result, refl}
use Rattle.std.proofs.Common.{sym, ◌∙◌, ap, subst, arith, eqb-true}
use Rattle.std.specs.Option.{option_map}
use Rattle.std.specs.FinMap.Entries.{find, put, is_sorted}
use Rattle.byte_map.specs.Words.{Map, bytes_cmp}
use Rattle.byte_map.specs.Laws.{is_sorted_put}
use Rattle.meta_log.specs.Log.{checkpoint_length}
use Rattle.meta_log.specs.declared.log.MetaLog.{MetaLog}
use Rattle.plain_volume.specs.declared.call.Fault.{Fault}
use Rattle.table_records.specs.Codecs.{typed}
use Rattle.table_records.specs.Changes.{IsPut}
use Rattle.table_records.specs.Keys.{kind_cmp}
use Rattle.table_records.specs.Laws.{find_typed}
use Rattle.table_records.specs.Tables.{result_codec}
use Rattle.table_records.specs.declared.jobs.JobKind.{JobKind}
use Rattle.table_records.specs.declared.jobs.JobKind.TheVariants.{Optimization, GarbageCollection, Scrubbing}
use Rattle.table_records.specs.declared.jobs.JobKind.TheVariants.{Unoptimization}
use Rattle.table_records.specs.declared.records.ResultRecord.{ResultRecord}
use Rattle.table_records.specs.declared.settings.Settings.{Settings}
use Rattle.vdisk.specs.declared.disk.Disk.{Ghosts}
use Rattle.table_rules.specs.Found.{result_of}
use Rattle.volume_inside.specs.Changes.{with_result}
use Rattle.volume_inside.specs.Typed.{Typed, typed_of}
use Rattle.volume_tables.specs.Contents.{HasContents, HasEnds}
use Rattle.volume_tables.specs.Ends.{with_last, with_staged, all_staged, results_now}
use Rattle.volume_tables.specs.Ends.{staged_results, same_result, one_unless}
use Rattle.volume_tables.specs.Log.{log_now, log_staged}
use Rattle.volume_tables.specs.Spelled.{are_well_formed}
use Rattle.volume_tables.specs.Staging.{IsQuiet, IsStagedPut}
use Rattle.volume_tables.specs.Tables.{with_ends, new_bytes}
use Rattle.volume_tables.specs.declared.ends.JobEnds.{JobEnds}
use Rattle.volume_tables.proofs.Answers.{on_ok, as_true, true_as}
use Rattle.volume_tables.proofs.Keyed.{first_is, second_is}
use Rattle.volume_tables.proofs.Kept.{put_spelled}
use Rattle.volume_tables.proofs.Puts.{result_put}
use Rattle.volume_tables.proofs.Setting.{as_put}
use Rattle.volume_tables.proofs.Sizes.{result_key}
use Rattle.volume_tables.proofs.WellFormed.{results_table, checkpoint_put, found_size}

-- ---- tables of results

pub results_set : (kind : JobKind) (r : ResultRecord) (ends : JobEnds)
    → results_now (with_last kind r ends) ≡ put kind_cmp kind r (results_now ends)
results_set Optimization r ends = refl
results_set GarbageCollection r ends = refl
results_set Scrubbing r ends = refl
results_set Unoptimization r ends = refl

pub staged_stay : (kind : JobKind) (r : ResultRecord) (ends : JobEnds)
    → staged_results (with_last kind r ends) ≡ staged_results ends
staged_stay Optimization r ends = refl
staged_stay GarbageCollection r ends = refl
staged_stay Scrubbing r ends = refl
staged_stay Unoptimization r ends = refl

pub end_put : (kind : JobKind) (ends : JobEnds)
    → put kind_cmp kind (result_of kind ends.last) (staged_results ends) ≡ staged_results (with_staged kind ends)
end_put Optimization ends = refl
end_put GarbageCollection ends = refl
end_put Scrubbing ends = refl
end_put Unoptimization ends = refl

pub end_there : (kind : JobKind) (ends : JobEnds) → IsSome (find kind_cmp kind (staged_results ends))
end_there Optimization ends = refl
end_there GarbageCollection ends = refl
end_there Scrubbing ends = refl
end_there Unoptimization ends = refl

-- ---- ends that are staged already

pub same_records : (a b : ResultRecord) → same_result a b ≡ true → a ≡ b
same_records a b same = λ i. record {
  second = eqb-true a.second b.second (first_is _ _ same) i;
  result = eqb-true a.result b.result (second_is _ _ same) i;
}

settled_end : (kind : JobKind) (ends : JobEnds) → result_of kind ends.last ≡ result_of kind ends.staged
    → with_staged kind ends ≡ ends
settled_end Optimization ends same = λ i. record ends { staged = record ends.staged { optimization = same i } }
settled_end GarbageCollection ends same =
    λ i. record ends { staged = record ends.staged { garbage_collection = same i } }
settled_end Scrubbing ends same = λ i. record ends { staged = record ends.staged { scrubbing = same i } }
settled_end Unoptimization ends same = λ i. record ends { staged = record ends.staged { unoptimization = same i } }

pub settled_same : (kind : JobKind) (ends : JobEnds) (last staged : ResultRecord) → last ≡ result_of kind ends.last
    → staged ≡ result_of kind ends.staged → last ≡ staged
    → with_staged kind ends ≡ ends
settled_same kind ends last staged now was same = settled_end kind ends (sym now ∙ same ∙ was)

-- the table of results where the end of a kind is staged
pub settled_put : (m : Map) (kind : JobKind) (ends : JobEnds) → HasEnds m ends → with_staged kind ends ≡ ends
    → typed_of m ≡ with_result kind (result_of kind ends.last) (typed_of m)
settled_put m kind ends has same =
    let there : typed result_codec m ≡ put kind_cmp kind (result_of kind ends.last) (typed result_codec m) =
    has.ends_there ∙ ap staged_results (sym same) ∙ sym (end_put kind ends)
    ∙ ap (λ es. put kind_cmp kind (result_of kind ends.last) es) (sym has.ends_there) in
    λ i. record (typed_of m) { results = there i }

-- ---- an end is staged

no_new : (o : Option ResultRecord) (n : ℕ) → IsSome o → new_bytes o n ≡ 0
no_new None n some = absurd (cc)
no_new (Some r) n some = refl

module _ {D : Type 0} {d : Ghosts D} (old new : MetaLog D d) (kind : JobKind) (r : ResultRecord)
    (result : Result (Unit {0}) Fault)
    (p : IsStagedPut result_codec kind r old new result) (sorted : is_sorted bytes_cmp (log_now old) ≡ true)
    (spelled : are_well_formed (log_now old) ≡ true)
    (there : IsSome (find kind_cmp kind (typed result_codec (log_now old)))) where
  pub end_is_ok : IsOk result
  end_is_ok = by (find bytes_cmp p.key (log_now old)) refl
      (subst (λ (o : Option ResultRecord). IsSome o) (find_typed result_codec p.key kind p.spells (log_now old)) there)
    where
      by : (o : Option (List ℕ)) → find bytes_cmp p.key (log_now old) ≡ o
          → IsSome (option_map result_codec.read_value (find bytes_cmp p.key (log_now old))) → IsOk result
      by None none is = absurd (let no_value : IsSome (option_map result_codec.read_value None) = subst
          (λ (o : Option (List ℕ)). IsSome (option_map result_codec.read_value o)) none is in cc)
      by (Some w) found is =
          p.in_place w found (found_size result_codec 9 results_table p.key w kind (log_now old) p.spells spelled found
          ∙ sym (results_table.sized p.value p.whole))

  end_is_put : IsPut result_codec kind r (log_now old) (log_now new)
  end_is_put = on_ok result end_is_ok (as_put result_codec kind r old new result p)

  pub end_all : typed_of (log_now new) ≡ with_result kind r (typed_of (log_now old))
  end_all = result_put (log_now old) (log_now new) (as_true sorted) kind r end_is_put

  pub end_sorted : is_sorted bytes_cmp (log_now new) ≡ true
  end_sorted = ap (is_sorted bytes_cmp) end_is_put.is
      ∙ true_as (is_sorted_put end_is_put.key end_is_put.value (log_now old) (as_true sorted))

  pub end_spelled : are_well_formed (log_now new) ≡ true
  end_spelled = put_spelled result_codec results_table.joins kind r (log_now old) (log_now new) end_is_put spelled

  pub end_staged : log_staged new ≡ log_staged old + 16
  end_staged =
      let taken = on_ok result end_is_ok p.taken in
      let key = result_key p.key kind p.spells in
      let value = results_table.sized p.value p.whole in
      omega (arith, taken, key, value)

  pub end_checkpoint : checkpoint_length (log_now new) ≡ checkpoint_length (log_now old)
  end_checkpoint =
      let same = ap checkpoint_length (on_ok result end_is_ok p.ok) in
      let grown = checkpoint_put result_codec 9 results_table p.key p.value kind (log_now old) p.spells p.whole
      (as_true sorted) spelled in
      let none = no_new (find kind_cmp kind (typed result_codec (log_now old))) (5 + (length p.key + 9)) there in
      omega (arith, same, grown, none)

-- ---- one end after the other

module _ {D : Type 0} {d : Ghosts D} where
  pub quiet_self : (a : MetaLog D d) → IsQuiet a a
  quiet_self a = record {
    log = λ m is. is;
    disk = refl;
    place = record { at = refl; half = refl; next = refl; epoch = refl };
    running = refl;
  }

  pub quiet_then : (a b c : MetaLog D d) → IsQuiet a b → IsQuiet b c → IsQuiet a c
  quiet_then a b c one two = record {
    log = λ m is. two.log m (one.log m is);
    disk = two.disk ∙ one.disk;
    place = record {
      at = two.place.at ∙ one.place.at;
      half = two.place.half ∙ one.place.half;
      next = two.place.next ∙ one.place.next;
      epoch = two.place.epoch ∙ one.place.epoch;
    };
    running = two.running ∙ one.running;
  }

pub unstaged_most : (b : Bool) → one_unless b ≤ 1
unstaged_most true = omega arith
unstaged_most false = omega arith

-- the four puts make the results of the map those now
pub four_put : (m : Map) (a b c q : Typed) (ends : JobEnds) → typed result_codec m ≡ staged_results ends
    → a ≡ with_result Optimization (result_of Optimization ends.last) (typed_of m)
    → b ≡ with_result GarbageCollection (result_of GarbageCollection ends.last) a
    → c ≡ with_result Scrubbing (result_of Scrubbing ends.last) b
    → q ≡ with_result Unoptimization (result_of Unoptimization ends.last) c
    → q ≡ with_ends ends (typed_of m)
four_put m a b c q ends there one two three four =
    four ∙ ap (λ (x : Typed). with_result Unoptimization (result_of Unoptimization ends.last) x)
    (three ∙ ap (λ (x : Typed). with_result Scrubbing (result_of Scrubbing ends.last) x)
    (two ∙ ap (λ (x : Typed). with_result GarbageCollection (result_of GarbageCollection ends.last) x) one))
    ∙ (λ i. record (typed_of m) {
      results = put kind_cmp Unoptimization (result_of Unoptimization ends.last)
          (put kind_cmp Scrubbing (result_of Scrubbing ends.last)
          (put kind_cmp GarbageCollection (result_of GarbageCollection ends.last)
          (put kind_cmp Optimization (result_of Optimization ends.last) (there i))));
    })

-- the contents of a map whose ends are all staged now
pub ended_contents : (m n : Map) (id : ℕ) (settings : Settings) (ends : JobEnds) → HasContents m id settings ends
    → HasEnds n (all_staged ends)
    → typed_of n ≡ with_ends ends (typed_of m) → HasContents n id settings (all_staged ends)
ended_contents m n id settings ends has there all = record {
  sorted = there.sorted;
  spelled = there.spelled;
  volume = ap (λ (q : Typed). q.volume) all ∙ has.volume;
  settings_there = ap (λ (q : Typed). q.settings) all ∙ has.settings_there;
  ends_there = there.ends_there;
}
