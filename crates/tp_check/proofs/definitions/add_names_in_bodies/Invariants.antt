use Rattle.std.proofs.Common.{◌≡◌, map}
use Rattle.tp_tree.specs.Read.{definition_tree}
use Rattle.tp_scope.specs.Names.{names_with, names_in_bodies}
use Rattle.tp_check.proofs.definitions.add_names_in_bodies.Given as goal

-- the names in the bodies before are there
abbrev pub invariant-loop-definition : goal.invariant-loop-definition
invariant-loop-definition l = record {
  parameters : l.definition-iterator.b.rest.now ≡ map (λ d. d.parameters) l.definition-iterator.a.rest.now;
  names : names_with l.globals (names_in_bodies (map definition_tree l.definition-iterator.a.rest.now)) ≡ names_with l.fn.globals (names_in_bodies (map definition_tree l.fn.definitions.items.items));
}
