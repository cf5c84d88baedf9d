use Rattle.std.proofs.Common.{ap, sym, ◌∙◌, ◌≤◌, ℕ, List, arith}
use Rattle.tp_lex.specs.declared.token.Kind.TheVariants as k
use Rattle.tp_lex.specs.declared.piece.Piece.TheVariants.{Lexeme}
use Rattle.tp_lex.specs.Bytes.{name_limit}
use Rattle.tp_lex.proofs.PieceLemmas.{upper_piece}
use Rattle.tp_lex.proofs.first.name.Goals as goal

pub returns-then-is_ascii_uppercase : goal.returns-then-is_ascii_uppercase
returns-then-is_ascii_uppercase c =
    let n : ℕ = c.name_len-len.result in
    let low : n ≤ name_limit = omega (arith, c.if-len-gt-NAME_LIMIT.false) in
    ap (λ (x : List ℕ). Lexeme (k.Upper x) n) c.in_ok-copy.ensures ∙ upper_piece c.args.text.now n c.name_len-len.ensures.value low (sym c.is_ascii_uppercase.ensures.value ∙ c.if-is_ascii_uppercase.true)
