use Rattle.std.proofs.Common.{◌≡◌, drop, find}
use Rattle.std.specs.Str.{bytes_eq}
use Rattle.tp_lex.specs.Spelling.{word_spelling}
use Rattle.tp_lex.proofs.spelling.word_among.Given as goal

-- the word is one of those that are left
abbrev pub invariant-loop-word : goal.invariant-loop-word
invariant-loop-word l = find (λ w. bytes_eq (word_spelling w) l.text) l.words ≡ find (λ w. bytes_eq (word_spelling w) l.text) (drop l.word-index l.words)
