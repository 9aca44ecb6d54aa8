-- A put that the journal answered, as one of a table.
use Rattle.std.specs.Prelude.{◌≡◌, ◌⊎◌, ◌↔◌, ◌≤◌, ◌<◌, ◌+◌, ℕ, List, length, Some, IsTrue, Result, IsOk, IsErrOf, OnOk}
use Rattle.std.specs.Prelude.{OnErr}
use Rattle.std.proofs.Common.{sym, subst}
use Rattle.std.proofs.lemmas.Result.{on_err_weaker}
use Rattle.std.specs.FinMap.Entries.{find, put}
use Rattle.vdisk.specs.declared.disk.Disk.{Ghosts}
use Rattle.byte_map.specs.Words.{bytes_cmp}
use Rattle.meta_log.specs.Log.{checkpoint_length}
use Rattle.meta_log.specs.declared.fault.MetaFault.{MetaFault}
use Rattle.meta_log.specs.declared.fault.MetaFault.TheVariants.{GroupFull, TableFull, Memory}
use Rattle.meta_log.specs.declared.log.MetaLog.{MetaLog}
use Rattle.plain_volume.specs.declared.call.Fault.{Fault}
use Rattle.table_records.specs.Codecs.{Codec}
use Rattle.volume_tables.specs.Faults.{answer_of}
use Rattle.volume_tables.specs.Log.{log_now, log_staged}
use Rattle.volume_tables.specs.Staging.{IsQuiet, IsStagedPut}
use Rattle.volume_tables.proofs.Staged.{answer_ok, answer_err, answer_is_ok, answer_full, put_refused}

module _ {D : Type 0} {d : Ghosts D} {K V : Type 0} (c : Codec K V) (k : K) (v : V) (old new : MetaLog D d)
    (key value : List ℕ) (r : Result (Unit {0}) MetaFault) where
  pub staged_put : c.read_key key ≡ Some k → IsTrue (c.is_value value) → c.read_value value ≡ v
      → log_staged old + (5 + (length key + length value)) ≤ 65536
      → (IsErrOf r GroupFull ↔ (65536 < log_staged old + (5 + (length key + length value))))
      → (IsErrOf r TableFull ↔ ((log_staged old + (5 + (length key + length value)) ≤ 65536)
      × (old.half < checkpoint_length (put bytes_cmp key value (log_now old)))))
      → ((was : List ℕ) → find bytes_cmp key (log_now old) ≡ Some was → length value ≡ length was
      → log_staged old + (5 + (length key + length value)) ≤ 65536 → IsOk r)
      → OnErr r (IsErrOf r GroupFull ⊎ (IsErrOf r TableFull ⊎ IsErrOf r Memory))
      → OnOk r (log_now new ≡ put bytes_cmp key value (log_now old))
      → OnOk r (log_staged new ≡ log_staged old + (5 + (length key + length value)))
      → OnErr r ((log_now new ≡ log_now old) × (log_staged new ≡ log_staged old))
      → IsQuiet old new → (result : Result (Unit {0}) Fault) → result ≡ answer_of r → IsStagedPut c k v old new result
  staged_put spells whole means fits full table in_place refused now staged unspent quiet result is =
      subst (λ (a : Result (Unit {0}) Fault). IsStagedPut c k v old new a) (sym is) (record {
        key = key;
        value = value;
        spells = spells;
        whole = whole;
        means = means;
        ok = answer_ok _ r now;
        err = answer_err _ r (on_err_weaker r (λ same. same.0) unspent);
        taken = answer_ok _ r staged;
        left = answer_err _ r (on_err_weaker r (λ same. same.1) unspent);
        full = answer_full r (λ e. let past = table.0 e in past.1, λ past. table.1 (fits, past));
        in_place = λ w found same. answer_is_ok r (in_place w found (sym same) fits);
        refused = put_refused r full fits refused;
        quiet = quiet;
      })
