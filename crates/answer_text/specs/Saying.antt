-- An answer with its kind.
use Rattle.std.specs.Prelude.{◌≡◌, ℕ, Bool, true, false, List}
use Rattle.answer_text.specs.Answers.{Answer, Nothing, Accepted, Refused, text_of}
use Rattle.answer_text.specs.declared.answers.Answered.{Answered}
use Rattle.answer_text.specs.declared.answers.Answered.TheVariants as answered

-- the kind of an answer, but for that of an `exit`
abbrev pub plain_kind : Answer → Answered
plain_kind Nothing = answered.Silent
plain_kind (Accepted more) = answered.Ok
plain_kind (Refused more) = answered.Refused

-- that of an `exit`, or of another line
abbrev pub exit_kind : Bool → Answer → Answered
exit_kind true (Accepted more) = answered.Exit
exit_kind exits answer = plain_kind answer

-- this text and kind are the answer's
pub record IsSaid (kind : Answered) (text : List ℕ) (answer : Answer) : Type 0 where
  pub text_is : text ≡ text_of answer
  pub kind_is : kind ≡ plain_kind answer

abbrev pub is_ok : Answered → Bool
is_ok answered.Ok = true
is_ok other = false
