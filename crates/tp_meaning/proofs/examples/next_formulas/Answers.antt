use Rattle.std.proofs.Common.{pos, refl, sym, [], ◌∷◌, ◌∙◌, arith, inr}
use Rattle.tp_value.specs.Tree.{num}
use Rattle.tp_meaning.specs.Course.{shown_at, ◌⊕◌}
use Rattle.tp_meaning.specs.Examples.{one_shown}
use Rattle.tp_meaning.proofs.Shows.{join-blank}
use Rattle.tp_meaning.proofs.ExampleShows.{spelled_is, nothing_first, shown_join}
use Rattle.tp_meaning.proofs.ExampleTurns.{last_shows}
use Rattle.tp_meaning.proofs.examples.next_formulas.Goals as goal

pub returns-clause-next_holds : goal.returns-clause-next_holds
returns-clause-next_holds c = (omega arith, (one_shown 1, refl, spelled_is ([] ∷ (one_shown 1 ∷ []) ∷ []) ∙ nothing_first 0 (shown_at 1 (one_shown 1 ∷ [])) _ (join-blank (shown_at 1 (one_shown 1 ∷ [])))))

pub returns-clause-next_equation_holds : goal.returns-clause-next_equation_holds
returns-clause-next_equation_holds c = (num (pos 1), omega arith, refl, refl, refl)

pub returns-clause-always_holds : goal.returns-clause-always_holds
returns-clause-always_holds c = (2, (λ i. shown_at i (one_shown i ∷ [])), omega arith, (λ i u v. (one_shown i, refl, refl)), spelled_is ((one_shown 0 ∷ []) ∷ (one_shown 1 ∷ []) ∷ []))

pub returns-clause-weak_next_goes_on : goal.returns-clause-weak_next_goes_on
returns-clause-weak_next_goes_on c = inr (omega arith, (one_shown 1, refl, spelled_is ([] ∷ (one_shown 1 ∷ []) ∷ []) ∙ nothing_first 0 (shown_at 1 (one_shown 1 ∷ [])) _ (join-blank (shown_at 1 (one_shown 1 ∷ [])))))

pub returns-clause-if_more_with_more : goal.returns-clause-if_more_with_more
returns-clause-if_more_with_more c = inr (omega arith, (one_shown 0, refl, spelled_is ((one_shown 0 ∷ []) ∷ []) ∙ join-blank (shown_at 0 (one_shown 0 ∷ []))))

pub returns-clause-if_empty_at_the_end : goal.returns-clause-if_empty_at_the_end
returns-clause-if_empty_at_the_end c = inr (refl, (one_shown 0, refl, spelled_is ((one_shown 0 ∷ []) ∷ []) ∙ join-blank (shown_at 0 (one_shown 0 ∷ []))))

pub returns-clause-older_suffix_first : goal.returns-clause-older_suffix_first
returns-clause-older_suffix_first c = (
  2,
  (λ i. shown_at 1 (one_shown i ∷ [])),
  omega arith,
  (λ i u v. ((λ j. num (pos i)), (λ j k. refl), last_shows 1 i v)),
  spelled_is ([] ∷ (one_shown 0 ∷ one_shown 1 ∷ []) ∷ [])
      ∙ nothing_first 0 _ _ (join-blank (shown_at 1 (one_shown 0 ∷ one_shown 1 ∷ []))) ∙ shown_join 1 (one_shown 0 ∷ []) (one_shown 1 ∷ [])
      ∙ (λ k. shown_at 1 (one_shown 0 ∷ []) ⊕ sym (join-blank (shown_at 1 (one_shown 1 ∷ []))) k),
)
