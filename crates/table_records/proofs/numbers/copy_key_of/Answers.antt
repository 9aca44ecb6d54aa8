use Rattle.std.proofs.Common.{◌≡◌, drop, sym, ◌∙◌, arith, rules}
use Rattle.std.specs.Prelude.{Some, get_or}
use Rattle.byteorder.specs.Endian.{big_number}
use Rattle.table_records.proofs.Spelled.{pair_key_known, pair_key_none}
use Rattle.table_records.proofs.ChunkBytes.{one_byte}
use Rattle.table_records.proofs.numbers.copy_key_of.Goals.{then-bytes-ne10-via-then-bytes-ne10, then-bytes-ne10-via-else-bytes-ne10+then-bytes-table}
use Rattle.table_records.proofs.numbers.copy_key_of.Goals as goal

pub returns-then-bytes-ne10 : goal.returns-then-bytes-ne10
returns-then-bytes-ne10 c = sym (pair_key_none c.args.table 8 1 c.args.bytes.now (λ size first.
    elim c.then-bytes-ne10.branch [
      | then-bytes-ne10-via-then-bytes-ne10 w ↦ w.if-bytes-ne10.true size
      | then-bytes-ne10-via-else-bytes-ne10+then-bytes-table w ↦ w.if-bytes-table.true first
    ]))

pub returns : goal.returns
returns c =
    let id : c.read_u64.result ≡ big_number 8 (drop 1 c.args.bytes.now) = search rules in
    let copy : get_or c.args.bytes.now 9 0 ≡ big_number 1 (drop 9 c.args.bytes.now) =
    one_byte 9 c.args.bytes.now (omega (arith, c.if-bytes-ne10.false)) in
    (λ i. Some (id i, copy i))
    ∙ sym (pair_key_known c.args.table 8 1 c.args.bytes.now c.if-bytes-ne10.false c.if-bytes-table.false (λ i. omega (arith, c.type_inv.bytes i)))
