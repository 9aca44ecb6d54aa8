use Rattle.std.proofs.Common.{refl, inl}
use Rattle.sha2.specs.Sha256.{sha256, first_words, schedule, rounds, compress, hash_after, digest_bytes}
use Rattle.plain_volume.proofs.rows.hello_is_read_back.Goals as goal

pub returns : goal.returns
unfolding sha256 first_words schedule rounds compress hash_after digest_bytes
returns c = (refl, (refl, (refl, (refl, ((refl, inl refl), tt)))))
