use Rattle.std.proofs.Common.{◌≡◌, ◌++◌, map, drop}
use Rattle.tp_tree.specs.Read.{definition_tree}
use Rattle.tp_kernel.specs.Read.{definition_of}
use Rattle.tp_scope.specs.Seen.{names_seen}
use Rattle.tp_check.specs.Outcome.{mapped}
use Rattle.tp_check.specs.Program.{definitions_in}
use Rattle.tp_check.proofs.definitions.make_definitions.Given as goal

-- those before are made
abbrev pub invariant-loop-i : goal.invariant-loop-i
invariant-loop-i l =
    definitions_in (names_seen l.fn.names) (map definition_tree l.fn.definitions.items.items) l.fn.states ≡ mapped (λ ds. map definition_of l.items.items ++ ds) (definitions_in (names_seen l.fn.names) (map definition_tree (drop l.i l.fn.definitions.items.items)) (drop l.i l.fn.states))
