-- Lists of calls of an index, and what they answer.
use Rattle.std.specs.Prelude.{◌≡◌, ◌<◌, ◌^◌, ℕ, List, [], ◌∷◌, ◌++◌, Option, None, Bool, true, false, Contains, map}
use Rattle.hash_index.specs.Pairs.{Pair, Agrees, Finds, IsFree, Keeps}
use Rattle.hash_index.specs.declared.calls.Request.{Request}
use Rattle.hash_index.specs.declared.calls.Request.TheVariants.{Find, Insert, Clear}
use Rattle.hash_index.specs.declared.calls.Answer.{Answer}
use Rattle.hash_index.specs.declared.calls.Answer.TheVariants.{Found, Inserted, Refused, Cleared}

-- a call, with what is told of ids at that time
abbrev pub Call : Type 0
Call = (ℕ → Option (List ℕ)) × Request

-- an id to insert is in range
abbrev pub FitsRequest : Request → Type 0
FitsRequest (Find digest after) = Unit {0}
FitsRequest (Insert digest id) = (0 < id) × (id < 2 ^ 48)
FitsRequest Clear = Unit {0}

-- the condition of a call of an index that stands for the pairs
abbrev pub CanAsk : List Pair → (ℕ → Option (List ℕ)) → Request → Type 0
CanAsk pairs tells (Find digest after) = Agrees tells pairs
CanAsk pairs tells (Insert digest id) = Agrees tells pairs × IsFree pairs id
CanAsk pairs tells Clear = Unit {0}

-- what an index that stands for the pairs may answer, and the pairs that it then stands for
abbrev pub Gives : List Pair → (ℕ → Option (List ℕ)) → Request → Answer → List Pair → Type 0
Gives pairs tells (Find digest after) (Found result) next = Finds tells pairs digest after result × (next ≡ pairs)
Gives pairs tells (Insert digest id) Inserted next =
    (kept : List Pair) × Keeps tells pairs kept × (next ≡ kept ++ (digest, id) ∷ [])
Gives pairs tells (Insert digest id) Refused next = next ≡ pairs
Gives pairs tells Clear Cleared next = next ≡ []
Gives pairs tells request answer next = ⊥

-- what an index that stands for the pairs may answer to a list of calls
abbrev pub Answers : List Pair → List Call → List Answer → Type 0
Answers pairs [] [] = Unit {0}
Answers pairs (call ∷ calls) (answer ∷ answers) =
    (next : List Pair) × Gives pairs call.0 call.1 answer next × Answers next calls answers
Answers pairs calls answers = ⊥

-- the pairs after a call, with none left out
abbrev pub pairs_after : List Pair → Request → Answer → List Pair
pairs_after pairs (Find digest after) answer = pairs
pairs_after pairs (Insert digest id) Inserted = pairs ++ (digest, id) ∷ []
pairs_after pairs (Insert digest id) answer = pairs
pairs_after pairs Clear answer = []

-- the id is not known at any of the calls, up to the first clear
abbrev pub IsForgotten : ℕ → List Call → Type 0
IsForgotten id [] = Unit {0}
IsForgotten id ((tells, Clear) ∷ calls) = Unit {0}
IsForgotten id ((tells, request) ∷ calls) = (tells id ≡ None) × IsForgotten id calls

-- each held id that is not known at the call stays so
abbrev pub Fades : List Pair → (ℕ → Option (List ℕ)) → Request → List Call → Type 0
Fades pairs tells Clear calls = Unit {0}
Fades pairs tells request calls = (p : Pair) → Contains pairs p → tells p.1 ≡ None → IsForgotten p.1 calls

-- each call's condition is met, with none of the pairs left out, and a held id that was not known at one call is not
-- known at a later one
abbrev pub AreProper : List Pair → List Call → List Answer → Type 0
AreProper pairs (call ∷ calls) (answer ∷ answers) =
    CanAsk pairs call.0 call.1 × Fades pairs call.0 call.1 calls
    × AreProper (pairs_after pairs call.1 answer) calls answers
AreProper pairs calls answers = Unit {0}

-- whether an insert had no memory
abbrev pub is_refused : Answer → Bool
is_refused Refused = true
is_refused answer = false

-- any two indexes that hold nothing answer a list of calls alike, but for want of memory
abbrev pub AnswersAreAlike : Type 0
AnswersAreAlike = (calls : List Call) (xs ys : List Answer) → Answers [] calls xs → Answers [] calls ys
    → AreProper [] calls xs → map is_refused xs ≡ map is_refused ys → xs ≡ ys
