-- The words of the command.
use Rattle.std.proofs.Common.{◌≡◌, ℕ, List, [], ◌∷◌, Result, Ok, Err, refl, sym, ap, ◌∙◌, arith}
use Rattle.std.specs.Str.Parse.{ParsesUnsigned}
use Rattle.std.proofs.lemmas.Fmt.{parse-decimal, decimal_injective}
use Rattle.ddpsh.specs.Commands.{IsClusters, Asks}
use Rattle.ddpsh.specs.declared.commands.Command.{Command}
use Rattle.ddpsh.specs.declared.commands.Command.TheVariants.{Mount, Format}

-- a number of clusters is parsed as it
pub parsed : {E : Type 0} (word : List ℕ) (n : ℕ) (r : Result ℕ E) → ParsesUnsigned 32 10 word r → (is : IsClusters word n) → r ≡ Ok n
parsed word n r h is = parse-decimal 32 n word r (omega (arith, is.most)) (omega (arith, is.most)) is.spelled h

pub parsed_as : {E : Type 0} (word : List ℕ) (n : ℕ) (r : Result ℕ E) (m : ℕ) → ParsesUnsigned 32 10 word r → r ≡ Ok m → IsClusters word n → n ≡ m
parsed_as word n r m h e is = let same : r ≡ Ok n = parsed word n r h is in cc

pub parsed_not : {E : Type 0} (word : List ℕ) (n : ℕ) (r : Result ℕ E) (e : E) → ParsesUnsigned 32 10 word r → r ≡ Err e → IsClusters word n → ⊥
parsed_not word n r e h failed is = let same : r ≡ Ok n = parsed word n r h is in cc

clusters_one : (word : List ℕ) (m n : ℕ) → IsClusters word m → IsClusters word n → m ≡ n
clusters_one word m n a b = decimal_injective m n (omega (arith, a.most)) (omega (arith, b.most)) (sym a.spelled ∙ b.spelled)

-- words ask one command at most
pub asks_one : (words : List (List ℕ)) (a b : Command) → Asks words a → Asks words b → a ≡ b
asks_one [] a b x y = absurd x
asks_one (image ∷ []) Mount Mount x y = refl
asks_one (image ∷ []) Mount (Format n) x y = absurd y
asks_one (image ∷ []) (Format m) b x y = absurd x
asks_one (image ∷ option ∷ []) a b x y = absurd x
asks_one (image ∷ option ∷ word ∷ []) Mount b x y = absurd x
asks_one (image ∷ option ∷ word ∷ []) (Format m) Mount x y = absurd y
asks_one (image ∷ option ∷ word ∷ []) (Format m) (Format n) x y = ap Format (clusters_one word m n x.1 y.1)
asks_one (image ∷ option ∷ word ∷ more ∷ rest) a b x y = absurd x
