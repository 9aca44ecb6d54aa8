use Rattle.std.proofs.Common.{◌≡◌, ◌<◌, ℕ, bit_xor, length, get_or}
use Rattle.regression_chunker.specs.Fingerprint.{times_x_to}
use Rattle.regression_chunker.proofs.tables.turn_table.Given as goal

abbrev pub invariant-loop-byte : goal.invariant-loop-byte
invariant-loop-byte l = record {
  whole : length l.entries ≡ 256;
  rule : (k : ℕ) → k < l.byte → get_or l.entries k 0 ≡ bit_xor (times_x_to 64 (bit_xor k 0xff)) (bit_xor k 0xff);
}
