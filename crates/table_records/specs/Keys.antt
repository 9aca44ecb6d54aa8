-- Keys: the number of the table, and behind it nothing, a number, two numbers, any bytes, or a kind of job.
use Rattle.std.specs.Prelude.{◌&&◌, ◌^◌, ℕ, List, [], ◌∷◌, Option, Some, None, nat_eq, nat_lt, take, drop, if◌then◌else◌}
use Rattle.std.specs.declared.cmp.Ordering.{Ordering}
use Rattle.std.specs.declared.cmp.Ordering.TheVariants.{Equal}
use Rattle.std.specs.Ordering.{nat_cmp, ordering_then}
use Rattle.std.specs.Cmp.Lexicographic.{pointwise}
use Rattle.byteorder.specs.Endian.{big_bytes, big_number}
use Rattle.table_records.specs.declared.jobs.JobKind.{JobKind}
use Rattle.table_records.specs.declared.jobs.JobKind.TheVariants.{Optimization, GarbageCollection, Scrubbing, Unoptimization}

-- x, where it has n bytes and these spell it
abbrev pub spelled_by : ℕ → List ℕ → ℕ → Option ℕ
spelled_by n b x = if nat_lt x (256 ^ n) && pointwise nat_eq (big_bytes n x) b then Some x else None

-- the number that exactly n bytes spell
abbrev pub number_in : ℕ → List ℕ → Option ℕ
number_in n b = spelled_by n b (big_number n b)

abbrev pub both : Option ℕ → Option ℕ → Option (ℕ × ℕ)
both None o = None
both (Some x) None = None
both (Some x) (Some y) = Some (x, y)

-- a number of n bytes, and behind it one of k bytes
abbrev pub pair_in : ℕ → ℕ → List ℕ → Option (ℕ × ℕ)
pair_in n k b = both (number_in n (take n b)) (number_in k (drop n b))

abbrev pub nothing_in : List ℕ → Option (Unit {0})
nothing_in [] = Some tt
nothing_in (b ∷ bytes) = None

abbrev pub all_in : List ℕ → Option (List ℕ)
all_in bytes = Some bytes

abbrev pub kind_number : JobKind → ℕ
kind_number Optimization = 1
kind_number GarbageCollection = 2
kind_number Scrubbing = 3
kind_number Unoptimization = 4

abbrev pub kind_of : ℕ → Option JobKind
kind_of n =
    if nat_eq n 1 then Some Optimization
    else if nat_eq n 2 then Some GarbageCollection
    else if nat_eq n 3 then Some Scrubbing
    else if nat_eq n 4 then Some Unoptimization
    else None

abbrev pub kind_in : List ℕ → Option JobKind
kind_in [] = None
kind_in (b ∷ []) = kind_of b
kind_in (b ∷ c ∷ bytes) = None

-- what is read behind the number of a table
abbrev pub behind : {K : Type 0} → ℕ → (List ℕ → Option K) → List ℕ → Option K
behind number read [] = None
behind number read (b ∷ bytes) = if nat_eq b number then read bytes else None

abbrev pub single_key : ℕ → List ℕ → Option (Unit {0})
single_key number = behind number nothing_in

abbrev pub number_key : ℕ → ℕ → List ℕ → Option ℕ
number_key number n = behind number (number_in n)

abbrev pub pair_key : ℕ → ℕ → ℕ → List ℕ → Option (ℕ × ℕ)
pair_key number n k = behind number (pair_in n k)

abbrev pub bytes_key : ℕ → List ℕ → Option (List ℕ)
bytes_key number = behind number all_in

abbrev pub kind_key : ℕ → List ℕ → Option JobKind
kind_key number = behind number kind_in

-- there is one key
abbrev pub single_cmp : Unit {0} → Unit {0} → Ordering
single_cmp a b = Equal

abbrev pub pair_cmp : ℕ × ℕ → ℕ × ℕ → Ordering
pair_cmp a b = ordering_then (nat_cmp a.0 b.0) (nat_cmp a.1 b.1)

abbrev pub kind_cmp : JobKind → JobKind → Ordering
kind_cmp a b = nat_cmp (kind_number a) (kind_number b)
