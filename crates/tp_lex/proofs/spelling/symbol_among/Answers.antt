use Rattle.std.proofs.Common.{◌≡◌, ℕ, ◌<◌, false, List, length, get_or, drop, find, nat_eq, ◌∙◌, arith, rules}
use Rattle.std.specs.List.{starts_with}
use Rattle.tp_lex.specs.declared.token.Symbol.TheVariants.{OpenRound}
use Rattle.tp_lex.specs.declared.token.Symbol.{Symbol}
use Rattle.tp_lex.specs.Spelling.{symbol_spelling}
use Rattle.tp_lex.proofs.Lists.{find_skips}
use Rattle.tp_lex.proofs.spelling.symbol_among.Goals as goal

pub loop-symbol-preserved : goal.loop-symbol-preserved
loop-symbol-preserved c =
    let text : List ℕ = c.args.text.now in
    let symbols : List Symbol = c.args.symbols.now in
    let i : ℕ = c.loop-symbol.symbol-index in
    let before : find (λ s. starts_with nat_eq text (symbol_spelling s)) symbols ≡ find (λ s. starts_with nat_eq text (symbol_spelling s)) (drop i symbols) = c.loop-symbol.invariant in
    let within : i < length symbols = omega arith in
    let fails : starts_with nat_eq text (symbol_spelling (get_or symbols i OpenRound)) ≡ false = first_of (cc, search rules) in
    before ∙ find_skips (λ s. starts_with nat_eq text (symbol_spelling s)) symbols i OpenRound within fails
