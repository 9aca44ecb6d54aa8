use Rattle.std.specs.Prelude.{◌≡◌, ◌∷◌, ◌++◌, ℕ, List, length, drop, slice_set}
use Rattle.std.proofs.Common.{sym, ◌∙◌, ap, arith}
use Rattle.std.proofs.lemmas.List.{append_assoc}
use Rattle.byteorder.specs.Endian.{big_bytes}
use borrow.Rule.Slice.PartMut.{put_mid}
use Rattle.table_records.proofs.ChunkBytes.{put_behind, digest_put, drop_further}
use Rattle.table_records.proofs.chunk_tables.put_content.Goals as goal

pub returns-clause-spelled : goal.returns-clause-spelled
returns-clause-spelled c =
    let out = c.args.out.now in
    let digest : List ℕ = c.args.digest.now in
    let size : length digest ≡ 32 = c.told-digest in
    let y : List ℕ = put_mid 1 32 (slice_set out 0 c.args.kind) c.copy_from_slice.new.self in
    let is : y ≡ (c.args.kind ∷ digest) ++ drop 33 out =
    ap (λ (d : List ℕ). put_mid 1 32 (slice_set out 0 c.args.kind) d) c.copy_from_slice.ensures.after
    ∙ digest_put out digest c.args.kind c.requires size in
    put_behind y (c.args.kind ∷ digest) (drop 33 out) (big_bytes 4 c.args.size) c.write_u32.new.buf 33 4 is
    (omega (arith, size)) c.write_u32.ensures
    ∙ ap (λ (l : List ℕ). (c.args.kind ∷ digest) ++ (big_bytes 4 c.args.size ++ l)) (drop_further 33 4 out)
    ∙ ap (λ (l : List ℕ). c.args.kind ∷ l) (sym (append_assoc digest (big_bytes 4 c.args.size) (drop 37 out)))

pub returns-clause-whole : goal.returns-clause-whole
returns-clause-whole c = c.told-digest

pub returns-clause-size : goal.returns-clause-size
returns-clause-size c = omega (arith, c.ranges.size)
