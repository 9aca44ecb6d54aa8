use Rattle.std.proofs.Common.{◌≡◌, arith, ◌∙◌, sym, ap, decimal}
use Rattle.std.proofs.Common.{true}
use Rattle.std.proofs.lemmas.Bool.{false≢true}
use Rattle.ddpsh.proofs.CommandLaws.{parsed_as, parsed_not}
use Rattle.ddpsh.proofs.commands.clusters_of.Goals as goal

pub returns-in_default-clause-none : goal.returns-in_default-clause-none
returns-in_default-clause-none c n is = parsed_not c.args.word.now n c.parse.result c.in_default.field-0 c.parse.ensures.value.0 c.in_default.is is

pub returns-then-clusters-lt-LEAST_CLUSTERS-clause-none : goal.returns-then-clusters-lt-LEAST_CLUSTERS-clause-none
returns-then-clusters-lt-LEAST_CLUSTERS-clause-none c n is =
    let same : n ≡ c.in-Ok.clusters = parsed_as c.args.word.now n c.parse.result c.in-Ok.clusters c.parse.ensures.value.0 c.in-Ok.is is in omega (arith, is.least)

pub returns-then-clusters-gt-MOST_CLUSTERS-clause-none : goal.returns-then-clusters-gt-MOST_CLUSTERS-clause-none
returns-then-clusters-gt-MOST_CLUSTERS-clause-none c n is =
    let same : n ≡ c.in-Ok.clusters = parsed_as c.args.word.now n c.parse.result c.in-Ok.clusters c.parse.ensures.value.0 c.in-Ok.is is in omega (arith, is.most)

pub returns-then-not-is_decimal-clause-none : goal.returns-then-not-is_decimal-clause-none
returns-then-not-is_decimal-clause-none c n is =
    let same : n ≡ c.in-Ok.clusters = parsed_as c.args.word.now n c.parse.result c.in-Ok.clusters c.parse.ensures.value.0 c.in-Ok.is is in
    let spells : c.is_decimal.result ≡ true = c.is_decimal.ensures.1 (is.spelled ∙ ap decimal same) in
    false≢true (sym c.if-not-is_decimal.true ∙ spells)
