use Rattle.std.proofs.Common.{◌≡◌, map, take, true}
use Rattle.tp_tree.specs.Read.{phrase_tree}
use Rattle.tp_scope.specs.Phrases.{is_state_phrase}
use Rattle.tp_scope.proofs.states.find_own_states.Given as goal

abbrev pub invariant-loop-definition : goal.invariant-loop-definition
invariant-loop-definition l = l.states.items ≡ map (λ d. is_state_phrase (λ x. true) (phrase_tree d.body)) (take l.definition-index l.definition-items)
