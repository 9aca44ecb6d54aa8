-- How many entries a pair is.
use Rattle.std.specs.Prelude.{ℕ, Option, Some, None}

-- 1 where a key is one of the table
abbrev pub one_if_key : {K : Type 0} → Option K → ℕ
one_if_key None = 0
one_if_key (Some k) = 1
