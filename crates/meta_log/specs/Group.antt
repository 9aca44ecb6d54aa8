-- The bytes of a group.
use Rattle.std.specs.Prelude.{ℕ, ◌<◌, ◌≡◌, Bool, true, false, List, [], ◌∷◌, ◌++◌, length}
use Rattle.byteorder.specs.Endian.{big_bytes}
use Rattle.meta_log.specs.Meta.{digest_of}

-- a group behind its gate: the length of its body, the digest of length and body, and the body
unfoldable pub group_text : List ℕ → List ℕ
group_text body = big_bytes 4 (length body) ++ (digest_of (big_bytes 4 (length body) ++ body) ++ body)

-- the closed gate behind a group, where there is a byte for it
abbrev pub gate_behind : Bool → List ℕ
gate_behind true = 0 ∷ []
gate_behind false = []

-- so it is for a group that ends there
abbrev pub IsRoom : Bool → ℕ → ℕ → Type 0
IsRoom true next half = next < half
IsRoom false next half = next ≡ half
