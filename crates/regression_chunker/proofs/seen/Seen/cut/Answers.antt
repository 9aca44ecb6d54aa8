use Rattle.std.proofs.Common.{◌≡◌, ◌≤◌, ◌<◌, ℕ, List, length, min, subst, arith, rules}
use Rattle.regression_chunker.specs.Cuts.{NoMatch}
use Rattle.regression_chunker.specs.Sees.{Sees, FirstIn}
use Rattle.regression_chunker.proofs.Decided.{full_match_decides, regression_decides, regression_is}
use Rattle.regression_chunker.proofs.seen.Seen.cut.Goals as goal
use Rattle.regression_chunker.proofs.seen.Seen.cut.Goals.{else-given-lt-MOST-via-then-given-lt-MOST+else-given-rest_len, else-given-lt-MOST-via-else-given-lt-MOST}

pub returns-in-Some-clause-at : goal.returns-in-Some-clause-at
returns-in-Some-clause-at c =
    let rest : List ℕ = c.args.rest.now in
    full_match_decides rest c.args.rest_len c.in-Some.place
    (subst (FirstIn 16 rest 32768 (min (length rest) 131072)) c.in-Some.is c.requires.full)

pub returns-else-rest_len-clause-at : goal.returns-else-rest_len-clause-at
returns-else-rest_len-clause-at c =
    let rest : List ℕ = c.args.rest.now in
    let many : 131072 < c.args.rest_len = omega (arith, c.if-rest_len.false) in
    let enough : 131072 ≤ length rest = elim c.else-given-lt-MOST.branch [
      | else-given-lt-MOST-via-then-given-lt-MOST+else-given-rest_len w ↦ omega (arith, w.if-given-rest_len.false, many)
      | else-given-lt-MOST-via-else-given-lt-MOST w ↦ omega (arith, w.if-given-lt-MOST.false)
    ] in
    let most : min (length rest) 131072 ≡ 131072 = omega (arith, enough) in
    let seen : Sees rest 32767 (min (length rest) 131072) c.args.self = c.requires.all (search rules) in
    let here : Sees rest 32767 131072 c.args.self = subst (λ e. Sees rest 32767 e c.args.self) most seen in
    let none : NoMatch 16 rest 32768 (min (length rest) 131072) =
    subst (FirstIn 16 rest 32768 (min (length rest) 131072)) c.in_default.is c.requires.full in
    regression_decides rest c.args.rest_len c.regression.result enough many none
    (regression_is rest c.args.self.fifteen c.args.self.fourteen c.args.self.thirteen c.args.self.twelve c.regression.result
    here.fifteen here.fourteen here.thirteen here.twelve c.regression.ensures)
