use Rattle.std.proofs.Common.{sym, ap, ◌∙◌, ◌≡◌, ◌≢◌, ◌==◌, ◌<◌, ◌+◌, ℕ, List, count_by, length}
use Rattle.tp_lex.specs.declared.token.TextPlace.{TextPlace}
use Rattle.tp_lex.specs.Place.{place_from}
use Rattle.tp_lex.proofs.PlaceLemmas.{along_line, line_counted, line_shorter, behind_lines}
use Rattle.tp_lex.proofs.token.TextPlace.after.Goals as goal

pub returns-then-lines-eq0-clause-place : goal.returns-then-lines-eq0-clause-place
returns-then-lines-eq0-clause-place c =
    let none : count_by (λ x. x == 10) c.args.bytes.now ≡ 0 = sym c.count_byte-lines.ensures ∙ c.if-lines-eq0.true in
    c.along.ensures ∙ sym (along_line c.args.self c.args.bytes.now (line_counted c.args.bytes.now none))

pub returns-clause-place : goal.returns-clause-place
returns-clause-place c =
    let p : TextPlace = c.args.self in
    let z : List ℕ = c.args.bytes.now in
    let r : ℕ = c.last_line_len.result in
    let some : count_by (λ x. x == 10) z ≢ 0 = λ none. c.if-lines-eq0.false (c.count_byte-lines.ensures ∙ none) in
    let less : r < length z = line_shorter z r c.last_line_len.ensures.within c.last_line_len.ensures.line some in
    let made : record { at = p.at + length z; line = p.line + count_by (λ x. x == 10) z; column = 1 + r } ≡ place_from p z = behind_lines p z r less c.last_line_len.ensures.line (c.last_line_len.ensures.feed less) in
    ap (λ (n : ℕ). record { at = p.at + length z; line = p.line + n; column = 1 + r }) c.count_byte-lines.ensures ∙ made
