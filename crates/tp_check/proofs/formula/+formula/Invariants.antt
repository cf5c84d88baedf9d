use Rattle.std.proofs.Common.{◌≡◌, ◌++◌, map, drop}
use Rattle.tp_tree.specs.Tree.{phrases_of}
use Rattle.tp_tree.specs.Read.{phrase_tree, phrase_trees}
use Rattle.tp_scope.specs.Seen.{names_seen}
use Rattle.tp_check.specs.Building.{formula_seen}
use Rattle.tp_check.specs.Outcome.{mapped}
use Rattle.tp_check.specs.Positions.{formulas_in}
use Rattle.tp_check.proofs.formula.+formula.Given as goal

-- those before are made
abbrev pub invariant-formulas-loop-phrase : goal.invariant-formulas-loop-phrase
invariant-formulas-loop-phrase l =
    formulas_in (names_seen l.fn.names) (phrase_trees l.fn.phrases) ≡ mapped (λ ws. map formula_seen l.items.items ++ ws) (formulas_in (names_seen l.fn.names) (phrases_of (map phrase_tree (drop l.phrase-index l.phrase-items))))
