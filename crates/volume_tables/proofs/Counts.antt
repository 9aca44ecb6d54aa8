-- The kept count of names, as the journal's map changes.
use Rattle.std.specs.Prelude.{◌≡◌, ◌≢◌, ◌≤◌, ◌+◌, ◌-◌, ℕ, true, List, length, Option, Result}
use Rattle.std.proofs.Common.{sym, ◌∙◌, ap, inl, inr, arith}
use Rattle.byte_map.specs.Words.{Map}
use Rattle.vdisk.specs.declared.disk.Disk.{Ghosts}
use Rattle.meta_log.specs.declared.log.MetaLog.{MetaLog}
use Rattle.plain_volume.specs.declared.call.Fault.{Fault}
use Rattle.table_records.specs.Changes.{put_there, dropped_there}
use Rattle.table_records.specs.Codecs.{Codec, typed}
use Rattle.table_records.specs.Tables.{name_codec}
use Rattle.volume_inside.specs.Typed.{typed_of}
use Rattle.volume_tables.specs.Log.{log_now}
use Rattle.volume_tables.specs.Sizes.{others_in}
use Rattle.volume_tables.specs.Spelled.{are_well_formed}
use Rattle.volume_tables.specs.Staging.{IsStagedPut, IsStagedDrop}
use Rattle.volume_tables.specs.declared.tables.Tables.{Tables}
use Rattle.volume_tables.proofs.Answers.{as_true, ok_or_err}
use Rattle.volume_tables.proofs.Measured.{measured}
use Rattle.volume_tables.proofs.Puts.{name_put, names_dropped}
use Rattle.volume_tables.proofs.Setting.{as_put}

module _ {D : Type 0} {d : Ghosts D} (t : Tables D d) (log : MetaLog D d) where
  -- an entry of another table leaves the names
  pub entry_named : {K V : Type 0} (c : Codec K V) → c.number ≢ 2 → (k : K) (v : V) (result : Result (Unit {0}) Fault)
      → IsStagedPut c k v t.log log result
      → t.names ≡ length (typed name_codec (log_now log))
  entry_named c differ k v result p = elim (ok_or_err result (as_put c k v t.log log result p) p.err) [
    | inl put ↦ t.named ∙ sym (ap (λ (es : List (List ℕ × ℕ)). length es)
        (put_there c name_codec differ k v (log_now t.log) (log_now log) put))
    | inr same ↦ t.named ∙ sym (ap (λ (m : Map). length (typed name_codec m)) same)
  ]

  -- and so do those that are dropped
  pub drop_named : {K V : Type 0} (c : Codec K V) → c.number ≢ 2 → (from : K) (to : Option K)
      → IsStagedDrop c from to t.log log
      → t.names ≡ length (typed name_codec (log_now log))
  drop_named c differ from to p =
      t.named ∙ sym (ap (λ (es : List (List ℕ × ℕ)). length es)
      (dropped_there c name_codec differ from to (log_now t.log) (log_now log) p.dropped))

  -- a name leaves the others
  pub name_others : (k : List ℕ) (v : ℕ) (result : Result (Unit {0}) Fault)
      → IsStagedPut name_codec k v t.log log result
      → others_in (typed_of (log_now log)) ≡ others_in (typed_of (log_now t.log))
  name_others k v result p = elim (ok_or_err result (as_put name_codec k v t.log log result p) p.err) [
    | inl put ↦ ap others_in (name_put (log_now t.log) (log_now log) (as_true t.contents.sorted) k v put)
    | inr same ↦ ap (λ (m : Map). others_in (typed_of m)) same
  ]

  pub names_others : (from : List ℕ) (to : Option (List ℕ)) → IsStagedDrop name_codec from to t.log log
      → others_in (typed_of (log_now log)) ≡ others_in (typed_of (log_now t.log))
  names_others from to p = ap others_in (names_dropped (log_now t.log) (log_now log) from to p.dropped)

  -- where the others stay as many, the pairs tell the names
  pub told_names : (others count : ℕ) → are_well_formed (log_now log) ≡ true
      → others_in (typed_of (log_now log)) ≡ others_in (typed_of (log_now t.log))
      → others + t.names ≡ length (log_now t.log) → count ≡ length (log_now log)
      → (others ≤ count) × (count - others ≡ length (typed name_codec (log_now log)))
  told_names others count all same before now =
      let old = (measured (log_now t.log) t.contents.spelled).0 in
      let new = (measured (log_now log) all).0 in
      (omega (arith, old, new, same, before, now, t.named), omega (arith, old, new, same, before, now, t.named))
