use Rattle.std.proofs.Common.{◌≡◌, ◌≤◌, ◌-◌, length, drop}
use Rattle.table_records.specs.Settings.{texts_in, rest_of}
use Rattle.table_records.proofs.lists.skip_texts.Given as goal

abbrev pub invariant-loop : goal.invariant-loop
invariant-loop l =
    (l.place ≤ length l.bytes) × (rest_of (texts_in l.count 8192 l.bytes) ≡ rest_of (texts_in (l.count - l.counter) l.room (drop l.place l.bytes)))
