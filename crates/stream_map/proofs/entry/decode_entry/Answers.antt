use Rattle.std.proofs.Common.{◌≡◌, ◌<◌, ℕ, length, get_or, ◌∙◌, ap, rules}
use Rattle.stream_map.specs.declared.entry.Entry.{Entry}
use Rattle.stream_map.specs.Entries.{bytes_of}
use Rattle.stream_map.proofs.Bytes.{spelled_pair}
use Rattle.stream_map.proofs.entry.decode_entry.Goals as goal

pub returns-clause-spelled_again : goal.returns-clause-spelled_again
returns-clause-spelled_again c =
    let size : length c.args.bytes.now ≡ 12 = search rules in
    let bytes : (i : ℕ) → get_or c.args.bytes.now i 0 < 256 = λ i. search rules in
    ap (λ (e : Entry). bytes_of e) c.read_entry.ensures ∙ spelled_pair 8 4 c.args.bytes.now size bytes
