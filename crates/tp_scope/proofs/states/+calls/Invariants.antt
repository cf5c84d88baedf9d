use Rattle.std.proofs.Common.{◌≡◌, ◌++◌, map, drop}
use Rattle.tp_tree.specs.Tree.{phrases_of}
use Rattle.tp_tree.specs.Read.{phrase_tree, phrase_trees}
use Rattle.tp_scope.specs.Phrases.{calls_in_all}
use Rattle.tp_scope.specs.Callers.{numbers_among}
use Rattle.tp_scope.proofs.states.+calls.Given as goal

-- those that are left come behind
abbrev pub invariant-add_calls_in_all-loop-phrase : goal.invariant-add_calls_in_all-loop-phrase
invariant-add_calls_in_all-loop-phrase l =
    l.called.items ++ numbers_among l.fn.numbers (calls_in_all (phrases_of (map phrase_tree (drop l.phrase-index l.phrase-items)))) ≡ l.fn.called.items ++ numbers_among l.fn.numbers (calls_in_all (phrase_trees l.fn.phrases))
