use Rattle.std.proofs.Common.{◌≡◌, drop}
use Rattle.cmdlet_line.specs.Words.{behind}
use Rattle.cmdlet_line.specs.declared.quotes.Place.TheVariants as place
use Rattle.cmdlet_line.proofs.quotes.has_bad_quote.Given as goal

abbrev pub invariant-loop-byte : goal.invariant-loop-byte
invariant-loop-byte l = behind l.place (drop l.byte-index l.line) ≡ behind place.Between l.line
