use Rattle.volume_inside.proofs.BaseSound.{chunk_digest, chunk_first, chunk_second, chunk_redirect}
use Rattle.volume_inside.proofs.base_laws.chunks_are_sound_copies.Goals as goal

pub returns-clause-digest : goal.returns-clause-digest
returns-clause-digest c = λ b id row bytes there. chunk_digest b id row there bytes

pub returns-clause-first : goal.returns-clause-first
returns-clause-first c = λ b id row bytes there. chunk_first b id row there bytes

pub returns-clause-second : goal.returns-clause-second
returns-clause-second c = λ b id row bytes there. chunk_second b id row there bytes

pub returns-clause-redirect : goal.returns-clause-redirect
returns-clause-redirect c = chunk_redirect
