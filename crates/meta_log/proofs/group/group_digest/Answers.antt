use Rattle.std.proofs.Common.{List, ℕ, ◌++◌, take, ◌∙◌, ap}
use Rattle.std.proofs.lemmas.List.{take_rest}
use Rattle.meta_log.specs.Meta.{digest_of}
use Rattle.meta_log.proofs.group.group_digest.Goals as goal

pub returns-clause-digest : goal.returns-clause-digest
returns-clause-digest c =
    c.digest_of_parts.ensures.digest ∙ ap (λ (q : List ℕ). digest_of (take 4 c.args.group.now ++ q)) (take_rest c.args.group.now 36)
