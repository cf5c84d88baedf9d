use Rattle.std.proofs.Common.{◌≡◌, ℕ, ◌<◌, false, List, length, get_or, drop, find, ◌∙◌, arith, rules}
use Rattle.std.specs.Str.{bytes_eq}
use Rattle.tp_lex.specs.declared.token.Word.{Word}
use Rattle.tp_lex.specs.declared.token.Word.TheVariants.{If}
use Rattle.tp_lex.specs.Spelling.{word_spelling}
use Rattle.tp_lex.proofs.Lists.{find_skips}
use Rattle.tp_lex.proofs.spelling.word_among.Goals as goal

pub loop-word-preserved : goal.loop-word-preserved
loop-word-preserved c =
    let text : List ℕ = c.args.text.now in
    let words : List Word = c.args.words.now in
    let i : ℕ = c.loop-word.word-index in
    let before : find (λ w. bytes_eq (word_spelling w) text) words ≡ find (λ w. bytes_eq (word_spelling w) text) (drop i words) = c.loop-word.invariant in
    let within : i < length words = omega arith in
    let fails : bytes_eq (word_spelling (get_or words i If)) text ≡ false = first_of (cc, search rules) in
    before ∙ find_skips (λ w. bytes_eq (word_spelling w) text) words i If within fails
