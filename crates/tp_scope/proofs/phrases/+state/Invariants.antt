use Rattle.std.proofs.Common.{◌≡◌, map, drop}
use Rattle.tp_tree.specs.Tree.{phrases_of}
use Rattle.tp_tree.specs.Read.{phrase_tree, phrase_trees}
use Rattle.tp_scope.specs.Phrases.{are_state_phrases}
use Rattle.tp_scope.specs.Seen.{may_call}
use Rattle.tp_scope.proofs.phrases.+state.Given as goal

-- those before are states
abbrev pub invariant-are_states-loop-phrase : goal.invariant-are_states-loop-phrase
invariant-are_states-loop-phrase l = are_state_phrases (may_call l.fn.callable) (phrases_of (map phrase_tree (drop l.phrase-index l.phrase-items))) ≡ are_state_phrases (may_call l.fn.callable) (phrase_trees l.fn.phrases)
