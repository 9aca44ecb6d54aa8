use Rattle.std.proofs.Common.{◌≡◌, drop, sym, ◌∙◌, arith, rules}
use Rattle.std.specs.Prelude.{Some}
use Rattle.byteorder.specs.Endian.{big_number}
use Rattle.table_records.proofs.Spelled.{pair_key_known, pair_key_none}
use Rattle.table_records.proofs.numbers.pair_of.Goals.{then-bytes-ne13-via-then-bytes-ne13, then-bytes-ne13-via-else-bytes-ne13+then-bytes-table}
use Rattle.table_records.proofs.numbers.pair_of.Goals as goal

pub returns-then-bytes-ne13 : goal.returns-then-bytes-ne13
returns-then-bytes-ne13 c = sym (pair_key_none c.args.table 8 4 c.args.bytes.now (λ size first.
    elim c.then-bytes-ne13.branch [
      | then-bytes-ne13-via-then-bytes-ne13 w ↦ w.if-bytes-ne13.true size
      | then-bytes-ne13-via-else-bytes-ne13+then-bytes-table w ↦ w.if-bytes-table.true first
    ]))

pub returns : goal.returns
returns c =
    let id : c.read_u64.result ≡ big_number 8 (drop 1 c.args.bytes.now) = search rules in
    let index : c.read_u32.result ≡ big_number 4 (drop 9 c.args.bytes.now) = search rules in
    (λ i. Some (id i, index i))
    ∙ sym (pair_key_known c.args.table 8 4 c.args.bytes.now c.if-bytes-ne13.false c.if-bytes-table.false (λ i. omega (arith, c.type_inv.bytes i)))
