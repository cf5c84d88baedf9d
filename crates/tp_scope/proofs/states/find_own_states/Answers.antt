use Rattle.std.proofs.Common.{refl, ap, ◌∙◌, ◌≡◌, ℕ, zero, suc, ◌≤◌, true, List, [], ◌∷◌, map, take, length, arith}
use Rattle.tp_tree.specs.declared.phrase.Definition.{Definition}
use Rattle.tp_tree.specs.Read.{phrase_tree, definition_tree}
use Rattle.tp_scope.specs.Phrases.{is_state_phrase}
use Rattle.tp_scope.specs.Callers.{own_states}
use Rattle.tp_scope.proofs.states.find_own_states.Goals as goal

all_own : (ds : List Definition) (n : ℕ) → length ds ≤ n → map (λ d. is_state_phrase (λ x. true) (phrase_tree d.body)) (take n ds) ≡ own_states (map definition_tree ds)
all_own [] zero h = refl
all_own [] (suc n) h = refl
all_own (d ∷ ds) zero h = absurd (omega (arith, h))
all_own (d ∷ ds) (suc n) h = ap (λ bs. is_state_phrase (λ x. true) (phrase_tree d.body) ∷ bs) (all_own ds n (omega (arith, h)))

pub returns : goal.returns
returns c =
    let ds : List Definition = c.deref-definition-items.result.now in
    c.loop-definition.invariant ∙ (all_own ds c.loop-definition.definition-index c.loop-definition-test.false ∙ ap (λ (ds : List Definition). own_states (map definition_tree ds)) c.deref-definition-items.ensures.value)
