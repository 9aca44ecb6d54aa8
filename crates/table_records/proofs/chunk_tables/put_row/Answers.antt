use Rattle.std.specs.Prelude.{◌≡◌, ◌∷◌, ◌++◌, ℕ, List, length, drop}
use Rattle.std.proofs.Common.{sym, ◌∙◌, ap, arith, length-append}
use Rattle.std.proofs.lemmas.List.{append_assoc}
use Rattle.byteorder.specs.Endian.{big_bytes}
use Rattle.byteorder.specs.Numbers.{length-bytes_high_first}
use Rattle.table_records.proofs.ChunkBytes.{put_behind, drop_further, row_size, row_back}
use Rattle.table_records.proofs.chunk_tables.put_row.Goals as goal

pub returns-clause-spelled : goal.returns-clause-spelled
returns-clause-spelled c =
    let out = c.args.out.now in
    let row = c.args.row in
    let long : List ℕ = big_bytes 4 row.length in
    let front : List ℕ = row.kind ∷ (row.digest ++ long) in
    let back : List ℕ = row.partition ∷ (big_bytes 4 row.seen ++ big_bytes 8 row.redirect) in
    let size : length front ≡ 37 =
    omega (arith, c.put_content.ensures.whole, length-append row.digest long, length-bytes_high_first 4 row.length) in
    put_behind c.put_content.new.out front (drop 37 out) back c.put_use.new.out 37 13 c.put_content.ensures.spelled size
    c.put_use.ensures.spelled
    ∙ ap (λ (l : List ℕ). front ++ (back ++ l)) (drop_further 37 13 out)
    ∙ ap (λ (l : List ℕ). row.kind ∷ l) (append_assoc row.digest long (back ++ drop 50 out)
    ∙ again row.digest long back (drop 50 out))
  where
    again : (a b c d : List ℕ) → a ++ (b ++ (c ++ d)) ≡ (a ++ (b ++ c)) ++ d
    again a b c d =
        ap (λ (l : List ℕ). a ++ l) (sym (append_assoc b c d)) ∙ sym (append_assoc a (b ++ c) d)

pub returns-clause-size : goal.returns-clause-size
returns-clause-size c = row_size c.args.row c.put_content.ensures.whole

pub returns-clause-back : goal.returns-clause-back
returns-clause-back c =
    row_back c.args.row c.put_content.ensures.whole c.put_content.ensures.size c.put_use.ensures.seen c.put_use.ensures.redirect
