use Rattle.std.proofs.Common.{◌≡◌, ◌++◌, map, drop}
use Rattle.tp_tree.specs.Read.{definition_tree}
use Rattle.tp_tree.specs.Spelling.{definitions_spelling}
use Rattle.tp_tree.proofs.printing.append_source.Given as goal

-- those that are left come behind
abbrev pub invariant-loop-definition : goal.invariant-loop-definition
invariant-loop-definition l =
    l.out ++ definitions_spelling (map definition_tree (drop l.definition-index l.definition-items)) ≡ l.fn.out ++ definitions_spelling (map definition_tree l.fn.source.definitions.items.items)
