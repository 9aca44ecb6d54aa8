use Rattle.std.proofs.Common.{◌≡◌, ◌++◌, ℕ, List, take, drop, ◌∙◌, ap, arith, rules}
use Rattle.std.specs.Prelude.{slice_set}
use Rattle.byteorder.specs.Endian.{big_bytes}
use Rattle.table_records.specs.Values.{result_in}
use Rattle.table_records.proofs.Front.{result_back}
use Rattle.table_records.proofs.tables.put_result.Goals as goal

pub returns : goal.returns
returns c =
    let written : c.write_u64.new.buf ≡ big_bytes 8 c.args.second ++ drop 8 c.args.out.now = search rules in
    ap (λ (b : List ℕ). result_in (take 9 (slice_set b 8 c.args.number))) written
    ∙ result_back c.args.second c.args.number c.args.out.now (omega (arith, c.ranges.second)) (omega (arith, c.requires))
