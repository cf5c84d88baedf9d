use Rattle.std.proofs.Common.{◌≡◌, map, drop}
use Rattle.tp_tree.specs.Tree.{phrases_of}
use Rattle.tp_tree.specs.Read.{phrase_tree, phrase_trees}
use Rattle.tp_scope.specs.Seen.{names_bound}
use Rattle.tp_scope.specs.Names.{names_with, names_in_all}
use Rattle.tp_scope.proofs.names.+names.Given as goal

-- the names of those before are there
abbrev pub invariant-add_all-loop-phrase : goal.invariant-add_all-loop-phrase
invariant-add_all-loop-phrase l = names_with l.globals (names_in_all (names_bound l.fn.scope) (phrases_of (map phrase_tree (drop l.phrase-index l.phrase-items)))) ≡ names_with l.fn.globals (names_in_all (names_bound l.fn.scope) (phrase_trees l.fn.phrases))
