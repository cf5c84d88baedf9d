use Rattle.std.proofs.Common.{◌∙◌, ◌≡◌, ap, sym, refl, find, length, arith}
use Rattle.std.specs.Str.{bytes_eq}
use Rattle.tp_lex.specs.Spelling.{word_spelling}
use Rattle.tp_lex.proofs.SpellingLemmas.{word_by_first, no_word_in}
use Rattle.tp_lex.proofs.spelling.word_of.Goals as goal

pub returns-in-empty : goal.returns-in-empty
returns-in-empty c = let none : length c.args.text.now ≡ 0 = omega (arith, c.in-empty.len_below) in sym (no_word_in c.args.text.now none)

pub returns-in-len1-up : goal.returns-in-len1-up
returns-in-len1-up c = c.word_among.ensures ∙ (ap (find (λ w. bytes_eq (word_spelling w) c.args.text.now)) c.words_of.ensures ∙ word_by_first c.args.text.now _ _ refl refl)
