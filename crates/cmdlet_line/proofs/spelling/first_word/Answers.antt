use Rattle.std.proofs.Common.{◌≡◌, ◌≢◌, ◌∙◌, length, rules}
use Rattle.cmdlet_line.proofs.WordLaws.{bare_word, no_words, quoted_behind}
use Rattle.cmdlet_line.proofs.spelling.first_word.Goals as goal

pub returns-then-is_empty : goal.returns-then-is_empty
returns-then-is_empty c =
    let none : length c.text_of-text.result.now ≡ 0 = search rules in
    no_words c.args.line.now c.text_of-text.result.now c.text_of-text.ensures none

pub returns-then-text-eq34 : goal.returns-then-text-eq34
returns-then-text-eq34 c =
    let some : length c.text_of-text.result.now ≢ 0 = search rules in
    quoted_behind c.args.line.now c.text_of-text.result.now c.text_of-text.ensures some c.if-text-eq34.true
    ∙ c.word_until.ensures

pub returns-else-text-eq34 : goal.returns-else-text-eq34
returns-else-text-eq34 c =
    let some : length c.text_of-text.result.now ≢ 0 = search rules in
    bare_word c.args.line.now c.text_of-text.result.now c.text_of-text.ensures some c.if-text-eq34.false
    ∙ c.word_until-else-text-eq34.ensures
