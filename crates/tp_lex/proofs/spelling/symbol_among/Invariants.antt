use Rattle.std.proofs.Common.{◌≡◌, drop, find, nat_eq}
use Rattle.std.specs.List.{starts_with}
use Rattle.tp_lex.specs.Spelling.{symbol_spelling}
use Rattle.tp_lex.proofs.spelling.symbol_among.Given as goal

-- the symbol is one of those that are left
abbrev pub invariant-loop-symbol : goal.invariant-loop-symbol
invariant-loop-symbol l =
    find (λ s. starts_with nat_eq l.text (symbol_spelling s)) l.symbols ≡ find (λ s. starts_with nat_eq l.text (symbol_spelling s)) (drop l.symbol-index l.symbols)
