use Rattle.std.proofs.Common.{ap, ap₂, sym, ◌∙◌, ◌+◌, ◌∷◌, length}
use Rattle.std.specs.Str.Lines.{lines}
use Rattle.tp_lex.proofs.FeedLemmas.{line_to_feed, line_to_end, rest_of, nothing_left}
use Rattle.tp_lex.proofs.line.first_line.Goals as goal

pub returns-in-Some-clause-lines : goal.returns-in-Some-clause-lines
returns-in-Some-clause-lines c =
    let z = c.args.bytes.now in
    line_to_feed z c.in-Some.end (sym c.in-Some.ensures) ∙ ap₂ (λ x y. x ∷ lines y) (sym c.without_return.ensures) (sym (rest_of z (c.in-Some.end + 1)))

pub returns-in-None-clause-lines : goal.returns-in-None-clause-lines
returns-in-None-clause-lines c =
    let z = c.args.bytes.now in
    line_to_end z c.requires (sym c.in-None.ensures) ∙ ap (λ y. z ∷ lines y) (sym (rest_of z (length z) ∙ nothing_left z))
