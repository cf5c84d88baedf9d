use Rattle.std.proofs.Common.{◌≡◌, ◌++◌, map}
use Rattle.std.specs.Map.{keys_of}
use Rattle.tp_tree.specs.Read.{definition_tree}
use Rattle.tp_scope.specs.Names.{signatures_of}
use Rattle.tp_scope.specs.Seen.{names_of_definitions}
use Rattle.tp_scope.proofs.Called.{entry_seen}
use Rattle.tp_scope.proofs.directory.Directory.of.Given as goal

-- those before are there, each under its name
abbrev pub invariant-loop-definition : goal.invariant-loop-definition
invariant-loop-definition l = record {
  names : keys_of l.signatures.entries ++ map (λ d. d.name) l.definition-iterator.a.rest.now ≡ names_of_definitions l.fn.definitions;
  known : map entry_seen l.signatures.entries ++ signatures_of (map definition_tree l.definition-iterator.a.rest.now) l.definition-iterator.b.rest.now ≡ signatures_of (map definition_tree l.fn.definitions.items.items) l.fn.states;
}
