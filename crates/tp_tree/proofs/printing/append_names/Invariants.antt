use Rattle.std.proofs.Common.{◌≡◌, ◌++◌, [], drop}
use Rattle.tp_tree.specs.Spelling.{names_spelling}
use Rattle.tp_tree.proofs.printing.append_names.Given as goal

-- those that are left come behind
abbrev pub invariant-loop-name : goal.invariant-loop-name
invariant-loop-name l = l.out ++ names_spelling l.opening (drop l.name-index l.name-items) ≡ l.fn.out ++ names_spelling [] l.fn.names
