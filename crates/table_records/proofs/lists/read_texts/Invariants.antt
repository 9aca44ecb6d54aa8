use Rattle.std.proofs.Common.{◌≡◌, ◌≤◌, ◌-◌, length, drop}
use Rattle.table_records.specs.Texts.{list_bytes}
use Rattle.table_records.specs.Settings.{texts_in, prepend}
use Rattle.table_records.proofs.lists.read_texts.Given as goal

abbrev pub invariant-loop : goal.invariant-loop
invariant-loop l =
    (l.place ≤ length l.bytes)
    × (texts_in l.count 8192 l.bytes ≡ prepend l.texts (texts_in (l.count - l.counter) (8192 - list_bytes l.texts) (drop l.place l.bytes)))
