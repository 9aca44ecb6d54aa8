use Rattle.std.proofs.Common.{◌≡◌, ◌∷◌, ℕ, List, length, take, drop, ◌∙◌, ap, arith}
use Rattle.std.proofs.lemmas.List.{take_at}
use Rattle.byteorder.specs.Endian.{big_bytes}
use Rattle.byteorder.specs.Numbers.{length-bytes_high_first}
use Rattle.table_records.specs.Keys.{number_key}
use Rattle.table_records.proofs.Spelled.{number_key_spelled}
use Rattle.table_records.proofs.numbers.put_number.Goals as goal

pub returns : goal.returns
returns c =
    let table = c.args.table in
    let spelled : List ℕ = table ∷ big_bytes 8 c.args.id in
    let size : length spelled ≡ 9 = omega (arith, length-bytes_high_first 8 c.args.id) in
    ap (λ (b : List ℕ). number_key table 8 b) (ap (λ (b : List ℕ). take 9 b) c.put_number_bytes.ensures ∙ take_at spelled (drop 9 c.args.out.now) 9 size)
    ∙ number_key_spelled table 8 c.args.id (omega (arith, c.ranges.id))
