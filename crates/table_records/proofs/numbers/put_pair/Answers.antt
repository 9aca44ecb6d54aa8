use Rattle.std.proofs.Common.{◌≡◌, ◌∷◌, ◌++◌, ℕ, List, length, take, drop, ◌∙◌, ap, arith, length-append}
use Rattle.std.proofs.lemmas.List.{take_at}
use Rattle.byteorder.specs.Endian.{big_bytes}
use Rattle.byteorder.specs.Numbers.{length-bytes_high_first}
use Rattle.table_records.specs.Keys.{pair_key}
use Rattle.table_records.proofs.Spelled.{pair_key_spelled}
use Rattle.table_records.proofs.numbers.put_pair.Goals as goal

pub returns : goal.returns
returns c =
    let table = c.args.table in
    let id : List ℕ = big_bytes 8 c.args.id in
    let index : List ℕ = big_bytes 4 c.args.index in
    let spelled : List ℕ = table ∷ (big_bytes 8 c.args.id ++ big_bytes 4 c.args.index) in
    let size : length spelled ≡ 13 =
    omega (arith, length-append (big_bytes 8 c.args.id) (big_bytes 4 c.args.index), length-bytes_high_first 8 c.args.id, length-bytes_high_first 4 c.args.index) in
    ap (λ (b : List ℕ). pair_key table 8 4 b) (ap (λ (b : List ℕ). take 13 b) c.put_pair_bytes.ensures ∙ take_at spelled (drop 13 c.args.out.now) 13 size)
    ∙ pair_key_spelled table 8 4 c.args.id c.args.index (omega (arith, c.ranges.id)) (omega (arith, c.ranges.index))
