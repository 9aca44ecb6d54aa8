use Rattle.std.proofs.Common.{◌≡◌, ◌++◌, take}
use Rattle.table_records.specs.Settings.{texts_bytes}
use Rattle.table_records.proofs.lists.put_texts.Given as goal

abbrev pub invariant-loop-place : goal.invariant-loop-place
invariant-loop-place l = l.out.items ≡ l.fn.out.items ++ texts_bytes (take l.place l.texts)
