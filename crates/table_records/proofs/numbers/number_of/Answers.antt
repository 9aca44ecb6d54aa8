use Rattle.std.proofs.Common.{◌≡◌, ℕ, drop, sym, ◌∙◌, ap, arith, rules}
use Rattle.std.specs.Prelude.{Some}
use Rattle.byteorder.specs.Endian.{big_number}
use Rattle.table_records.proofs.Spelled.{number_key_known, number_key_none}
use Rattle.table_records.proofs.numbers.number_of.Goals.{then-bytes-ne9-via-then-bytes-ne9, then-bytes-ne9-via-else-bytes-ne9+then-bytes-table}
use Rattle.table_records.proofs.numbers.number_of.Goals as goal

pub returns-then-bytes-ne9 : goal.returns-then-bytes-ne9
returns-then-bytes-ne9 c = sym (number_key_none c.args.table 8 c.args.bytes.now (λ size first.
    elim c.then-bytes-ne9.branch [
      | then-bytes-ne9-via-then-bytes-ne9 w ↦ w.if-bytes-ne9.true size
      | then-bytes-ne9-via-else-bytes-ne9+then-bytes-table w ↦ w.if-bytes-table.true first
    ]))

pub returns : goal.returns
returns c =
    let read : c.read_u64.result ≡ big_number 8 (drop 1 c.args.bytes.now) = search rules in
    ap (λ (x : ℕ). Some x) read
    ∙ sym (number_key_known c.args.table 8 c.args.bytes.now c.if-bytes-ne9.false c.if-bytes-table.false (λ i. omega (arith, c.type_inv.bytes i)))
