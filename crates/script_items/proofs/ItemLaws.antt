-- A line that was read is the script's first item.
use Rattle.std.proofs.Common.{◌≡◌, ℕ, true, false, List, length, take, Option, Some, None, Result, Ok, Err, refl, sym, ◌∙◌, ap, inl, inr, subst}
use Rattle.std.proofs.lemmas.Bool.{lt-ltb}
use Rattle.cmdlet_line.specs.Lines.{Ask, Refusal}
use Rattle.script_items.specs.Input.{IsLeft}
use Rattle.script_items.specs.declared.input.Input.{Input}
use Rattle.script_items.specs.Script.{asked, line_text, behind_line, item_of, wanted, room_of, past}
use Rattle.script_items.specs.Reading.{IsKept, IsLine, IsPayload, IsItem}

-- what is kept of a line asks what the line asks
pub kept_asks : (kept text : List ℕ) → IsKept kept text → asked kept ≡ asked text
kept_asks kept text (inl same) = ap asked same
kept_asks kept text (inr long) = rw (lt-ltb 4096 (length kept) long.0, lt-ltb 4096 (length text) long.1) refl

-- a line that takes no payload is one item, whatever stands behind it
pub bare_alike : (line : Result Ask Refusal) (some other : List ℕ) → wanted line ≡ None → item_of line some ≡ item_of line other
bare_alike (Err refusal) some other none = refl
bare_alike (Ok ask) some other none = rw none refl

pub item_bare : (s : List ℕ) (line payload : List ℕ) (input : Input) (source : Option (List ℕ)) (total : ℕ) → IsLine s true line input source total → wanted (asked line) ≡ None
    → IsItem s true line payload input source total
item_bare s line payload input source total read none =
    let e : asked line ≡ asked (line_text s) = kept_asks line (line_text s) read.line in
    let w : wanted (asked (line_text s)) ≡ None = ap wanted (sym e) ∙ none in
    record {
      some = read.some;
      item = λ h. ap (λ a. item_of a payload) e ∙ bare_alike (asked (line_text s)) payload (take (room_of (wanted (asked (line_text s)))) (behind_line s)) w;
      left = λ h. subst (λ (x : List ℕ). IsLeft input source total x) (sym (ap (λ o. past o (behind_line s)) w)) read.left;
    }

pub item_paid : (s : List ℕ) (line payload : List ℕ) (mid input : Input) (before source : Option (List ℕ)) (total count : ℕ) → IsLine s true line mid before total → wanted (asked line) ≡ Some count
    → IsPayload count (behind_line s) payload input source total → IsItem s true line payload input source total
item_paid s line payload mid input before source total count read some paid =
    let e : asked line ≡ asked (line_text s) = kept_asks line (line_text s) read.line in
    let w : wanted (asked (line_text s)) ≡ Some count = ap wanted (sym e) ∙ some in
    record {
      some = read.some;
      item = λ h. ap (λ a. item_of a payload) e ∙ ap (item_of (asked (line_text s))) (paid.payload_is ∙ sym (ap (λ o. take (room_of o) (behind_line s)) w));
      left = λ h. subst (λ (x : List ℕ). IsLeft input source total x) (sym (ap (λ o. past o (behind_line s)) w)) paid.left;
    }

pub item_over : (s : List ℕ) (line payload : List ℕ) (input : Input) (source : Option (List ℕ)) (total : ℕ) → IsLine s false line input source total → IsItem s false line payload input source total
item_over s line payload input source total read = record { some = read.some; item = λ h. absurd (let bad : false ≡ true = h in cc); left = λ h. absurd (let bad : false ≡ true = h in cc) }
