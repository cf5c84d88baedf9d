use Rattle.std.proofs.Common.{◌≡◌, ◌∙◌, refl, sym, false, List, [], ◌∷◌}
use Rattle.std.proofs.lemmas.Result.{IfOk-weaker}
use Rattle.tp_value.specs.declared.path.Fact.{Fact}
use Rattle.tp_store.specs.Facts.{fact}
use Rattle.tp_store.specs.Known.{addition}
use Rattle.tp_scene.specs.Step as row
use Rattle.tp_decide.specs.declared.decision.Decision.{Decision}
use Rattle.tp_decide.specs.Decided.{decided_outcome}
use Rattle.tp_decide.proofs.SharingLemmas.{left_decides, known_by_both}
use Rattle.tp_decide.proofs.sharing.equate_with_right.Goals as goal

pub returns-then-has_plain_shape-clause-outcome : goal.returns-then-has_plain_shape-clause-outcome
returns-then-has_plain_shape-clause-outcome c = λ n.
    let facts = c.args.store.now.facts in
    c.nothing.ensures.outcome facts n
    ∙ known_by_both facts c.count.ensures.sound.no_clash c.args.left c.args.right c.args.shape c.requires n (c.if-has_plain_shape.ensures.plain refl) (c.if-has_plain_shape.ensures.kept refl)

pub returns-then-has_plain_shape-clause-variables : goal.returns-then-has_plain_shape-clause-variables
returns-then-has_plain_shape-clause-variables c = λ xs left right. c.nothing.ensures.plain xs

pub returns-clause-outcome : goal.returns-clause-outcome
returns-clause-outcome c =
    let facts = c.args.store.now.facts in
    let shared : Decision → Type 0 = λ d. (fs : List Fact) (n : row.Numbers) → decided_outcome fs n d ≡ row.shares c.args.left c.args.right c.args.shape n (addition fs (fact c.args.left c.args.shape ∷ [])) in
    IfOk-weaker c.share.result shared (λ d. (n : row.Numbers) → decided_outcome facts n d ≡ row.equate_places facts c.args.left c.args.right n) (λ d h n. h facts n ∙ left_decides facts c.excludes.ensures.sound.no_clash c.args.left c.args.right c.args.shape c.requires n false (sym c.excludes.ensures.value ∙ c.if-excludes.false)) c.share.ensures.outcome
