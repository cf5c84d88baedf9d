use Rattle.std.proofs.Common.{pos, refl, [], ◌∷◌, ◌∙◌}
use Rattle.tp_value.specs.Tree.{num}
use Rattle.tp_meaning.specs.Course.{blank, ◌⊕◌, shown_at}
use Rattle.tp_meaning.specs.Examples.{one_shown}
use Rattle.tp_meaning.proofs.Shows.{join-blank, join-assoc}
use Rattle.tp_meaning.proofs.ExampleShows.{spelled_is, shown_join}
use Rattle.tp_meaning.proofs.examples.state_formulas.Goals as goal

pub returns-clause-equation_holds : goal.returns-clause-equation_holds
returns-clause-equation_holds c = (num (pos 0), refl, refl, refl)

pub returns-clause-display_holds : goal.returns-clause-display_holds
returns-clause-display_holds c = (one_shown 0, refl, spelled_is ((one_shown 0 ∷ []) ∷ []) ∙ join-blank (shown_at 0 (one_shown 0 ∷ [])))

pub returns-clause-and_holds : goal.returns-clause-and_holds
returns-clause-and_holds c = (
  shown_at 0 (one_shown 1 ∷ []),
  shown_at 0 (one_shown 2 ∷ []) ⊕ blank,
  (one_shown 1, refl, refl),
  (blank, shown_at 0 (one_shown 2 ∷ []) ⊕ blank, (num (pos 0), refl, refl, refl), (shown_at 0 (one_shown 2 ∷ []), blank, (one_shown 2, refl, refl), refl, refl), refl),
  spelled_is ((one_shown 1 ∷ one_shown 2 ∷ []) ∷ []) ∙ (λ i. shown_join 0 (one_shown 1 ∷ []) (one_shown 2 ∷ []) i ⊕ blank) ∙ join-assoc (shown_at 0 (one_shown 1 ∷ [])) (shown_at 0 (one_shown 2 ∷ [])) blank,
)

pub returns-clause-display_of_two_holds : goal.returns-clause-display_of_two_holds
returns-clause-display_of_two_holds c = (num (pos 1) ∷ num (pos 2) ∷ [], refl, spelled_is (((num (pos 1) ∷ num (pos 2) ∷ []) ∷ []) ∷ []) ∙ join-blank (shown_at 0 ((num (pos 1) ∷ num (pos 2) ∷ []) ∷ [])))
