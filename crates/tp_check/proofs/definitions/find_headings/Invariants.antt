use Rattle.std.proofs.Common.{◌≡◌, [], map, take, drop}
use Rattle.tp_tree.specs.Read.{definition_tree}
use Rattle.tp_scope.specs.Names.{AreApart, twice_defined}
use Rattle.tp_check.proofs.definitions.find_headings.Given as goal

-- none of those before is defined twice
abbrev pub invariant-loop-definition : goal.invariant-loop-definition
invariant-loop-definition l = record {
  names : l.names ≡ map (λ d. d.name) (take l.definition-index l.definition-items);
  apart : AreApart l.names;
  parameters : l.parameters.items ≡ map (λ d. d.parameters) (take l.definition-index l.definition-items);
  twice : twice_defined [] (map definition_tree l.definition-items) ≡ twice_defined l.names (map definition_tree (drop l.definition-index l.definition-items));
}
