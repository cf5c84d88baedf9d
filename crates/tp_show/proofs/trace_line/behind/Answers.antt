use Rattle.std.proofs.Common.{◌++◌, List, ℕ, true, refl, sym, ap, ◌∙◌, length}
use Rattle.std.proofs.lemmas.List.{take_rest}
use Rattle.std.proofs.lemmas.Bool.Decides.{Decides-eqb}
use Rattle.std.proofs.lemmas.Slice.Eq.{starts_is}
use Rattle.tp_lex.proofs.Lists.{no_start}
use Rattle.tp_show.proofs.trace_line.behind.Goals as goal

pub returns-then-starts_with : goal.returns-then-starts_with
returns-then-starts_with c =
    let z : List ℕ = c.args.text.now in
    let front : List ℕ = c.args.front.now in
    (starts_is Decides-eqb z front true (sym (sym c.starts_with.ensures.value ∙ c.if-starts_with.true))).0 refl ∙ ap (λ (y : List ℕ). front ++ y) (sym (take_rest z (length front)))

pub returns-else-starts_with : goal.returns-else-starts_with
returns-else-starts_with c = λ rest e. no_start c.args.text.now c.args.front.now (sym c.starts_with.ensures.value ∙ c.if-starts_with.false) (rest, e)
