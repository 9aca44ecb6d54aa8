-- A body goes on pair by pair.
use Rattle.std.proofs.Common.{◌≡◌, ℕ, true, ◌+◌, ◌*◌, ◌^◌, ◌≤◌, ◌<◌, List, [], ◌∷◌, ◌++◌, length, sym, ◌∙◌, ap, arith, append_assoc, length-append}
use Rattle.std.proofs.lemmas.List.{append-nil}
use Rattle.byte_map.specs.Words.{Map, bytes_in}
use Rattle.meta_log.specs.Records.{Put}
use Rattle.meta_log.specs.Spelled.{bytes_of, length_text}
use Rattle.meta_log.specs.Short.{are_short, short_parts}
use Rattle.meta_log.specs.Checkpoint.{body_text}
use Rattle.meta_log.proofs.Checkpoints.{length_body}

-- what went before the pairs that are left
module _ (m : Map) (seen : List ℕ) (left : Map) (whole : body_text m ≡ seen ++ body_text left) where
  pub whole_end : left ≡ [] → body_text m ≡ seen
  whole_end none = whole ∙ ap (λ (q : Map). seen ++ body_text q) none ∙ append-nil seen

  module _ (k v : List ℕ) (rest : Map) (is : left ≡ (k, v) ∷ rest) where
    pub whole_next : body_text m ≡ (seen ++ bytes_of (Put k v)) ++ body_text rest
    whole_next = whole ∙ ap (λ (q : Map). seen ++ body_text q) is ∙ sym (append_assoc seen (bytes_of (Put k v)) (body_text rest))

    -- there is room for one more
    pub room_for : length seen + (5 + (length k + length v)) ≤ 5 * length m + bytes_in m
    room_for = omega (
      arith,
      length_body m,
      ap length whole_next,
      length-append (seen ++ bytes_of (Put k v)) (body_text rest),
      length-append seen (bytes_of (Put k v)),
      length_text 1 k v,
    )

    pub short_next : are_short left ≡ true → (length k < 2 ^ 16) × (length v < 2 ^ 16) × (are_short rest ≡ true)
    short_next short = short_parts (k, v) rest (sym (ap (λ (q : Map). are_short q) is) ∙ short)
