-- What a line asks is in range.
use Rattle.std.proofs.Common.{◌≡◌, ◌<◌, ◌≤◌, ◌^◌, ℕ, Bool, true, false, cond, nat_lt, List, [], ◌∷◌, length, refl, subst, arith, Option, Some, None, Result, Ok, Err}
use Rattle.cmdlet_line.specs.declared.limits.TheConstants.{MOST_LINE}
use Rattle.cmdlet_line.specs.Words.{behind_spaces, has_bad_quote, number_in, words_of}
use Rattle.cmdlet_line.specs.Lines.{◌>>=◌, Ask, BadQuote, Form, InOrder, Kind, Later, LineTooLong, Makes, Meaning, Number, Parameter, Refusal, Row, Silent, Text, asked, asked_by, command_of, commands, in_order, is_silent, job_cmdlets, line_of, meaning_of, spells, split, valued, volume_cmdlets, volume_commands}
use Rattle.cmdlet_line.specs.Spelled.{AreInRange}
use Rattle.cmdlet_line.proofs.NumberLaws.{is_number}

-- what is asked is in range, and a refusal asks nothing
abbrev IsInRange : Result Ask Refusal → Type 0
IsInRange (Ok ask) = AreInRange ask
IsInRange (Err refusal) = Unit {0}

-- what a word of a kind may mean
abbrev May : (k : Kind) → Meaning k → Type 0
May Text x = Unit {0}
May (Number least most) n = n ≤ most

may_mean : (k : Kind) (word : List ℕ) (x : Meaning k) → meaning_of k word ≡ Some x → May k x
may_mean Text word x is = tt
may_mean (Number least most) word n is = (is_number least most n word is).below

-- whatever the words of these parameters mean, what is made of them is in range
abbrev MakesInRange : (ps : List Parameter) → Makes ps → Type 0
MakesInRange [] ask = AreInRange ask
MakesInRange (p ∷ ps) makes = (x : Meaning p.kind) → May p.kind x → MakesInRange ps (makes x)

in_order_ranged : (ps : List Parameter) (makes : Makes ps) (words : List (List ℕ)) → MakesInRange ps makes → IsInRange (in_order ps makes words)
in_order_ranged [] ask [] ranged = ranged
in_order_ranged [] ask (word ∷ words) ranged = tt
in_order_ranged (p ∷ ps) makes [] ranged = tt
in_order_ranged (p ∷ ps) makes (word ∷ words) ranged =
    by (meaning_of p.kind word) refl (λ x may. in_order_ranged ps (makes x) words (ranged x may))
  where
    by : (o : Option (Meaning p.kind)) → meaning_of p.kind word ≡ o
        → ((x : Meaning p.kind) → May p.kind x → IsInRange (in_order ps (makes x) words))
        → IsInRange (valued p.title words o >>= (λ x. in_order ps (makes x.0) x.1))
    by None is behind = tt
    by (Some x) is behind = behind x (may_mean p.kind word x is)

abbrev FormInRange : Form → Type 0
FormInRange (InOrder ps makes) = MakesInRange ps makes
FormInRange Later = Unit {0}

form_ranged : (form : Form) (word : List ℕ) (words : List (List ℕ)) → FormInRange form → IsInRange (asked form word words)
form_ranged (InOrder ps makes) word words ranged = in_order_ranged ps makes words ranged
form_ranged Later word words ranged = tt

abbrev RowsInRange : List Row → Type 0
RowsInRange [] = Unit {0}
RowsInRange (row ∷ rows) = FormInRange row.form × RowsInRange rows

command_ranged : (rows : List Row) (word : List ℕ) (words : List (List ℕ)) → RowsInRange rows → IsInRange (command_of rows word words)
command_ranged [] word words ranged = tt
command_ranged (row ∷ rows) word words ranged =
    by (spells row.spelling row.word word) (form_ranged row.form word words ranged.0) (command_ranged rows word words ranged.1)
  where
    by : (t : Bool) → IsInRange (asked row.form word words) → IsInRange (command_of rows word words)
        → IsInRange (cond t (asked row.form word words) (command_of rows word words))
    by true here below = here
    by false here below = below

later_ranged : RowsInRange volume_cmdlets
unfolding volume_cmdlets job_cmdlets
later_ranged = (tt, (tt, (tt, (tt, (tt, (tt, (tt, (tt, (tt, (tt, (tt, (tt, (tt, (tt, (tt, (tt, tt))))))))))))))))

commands_ranged : RowsInRange commands
unfolding commands volume_commands
commands_ranged = (
  (λ name any. tt),
  (
    (λ name any at low count few. (omega (arith, low), few)),
    (
      (λ name any at low count few. (omega (arith, low), few)),
      (
        (λ name any at low count few byte small. (omega (arith, low), few, omega (arith, small))),
        (
          (λ name any size low. omega (arith, low)),
          (
            (λ source any target more. tt),
            (
              (λ name any. tt),
              (
                (λ name any. tt),
                (
                  (λ name any. tt),
                  (tt, (tt, (tt, (tt, (tt, later_ranged))))),
                ),
              ),
            ),
          ),
        ),
      ),
    ),
  ),
)

words_ranged : (words : List (List ℕ)) → IsInRange (asked_by words)
words_ranged [] = tt
words_ranged (word ∷ words) = command_ranged commands word words commands_ranged

line_ranged : (volume line : List ℕ) → IsInRange (line_of volume line)
line_ranged volume line = by (nat_lt MOST_LINE (length line)) (is_silent (behind_spaces line)) (has_bad_quote line)
  where
    by : (long silent bad : Bool) → IsInRange (cond long (Err LineTooLong)
        (cond silent (Ok Silent) (cond bad (Err BadQuote) (Ok (words_of line)) >>= asked_by)))
    by true silent bad = tt
    by false true bad = tt
    by false false true = tt
    by false false false = words_ranged (words_of line)

pub what_is_asked : (volume line : List ℕ) (ask : Ask) → line_of volume line ≡ Ok ask → AreInRange ask
what_is_asked volume line ask is = subst IsInRange is (line_ranged volume line)
