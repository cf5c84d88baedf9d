use Rattle.std.proofs.Common.{◌≡◌, ◌-◌, map}
use Rattle.tp_tree.specs.Read.{definition_tree}
use Rattle.tp_parse.specs.Source.{definitions, definitions_from}
use Rattle.tp_parse.proofs.parser.Parser.definitions.Given as goal

abbrev pub invariant-loop-turn : goal.invariant-loop-turn
invariant-loop-turn l = definitions l.fn.self ≡ definitions_from (l._turn-end - l._turn) (map definition_tree l.items.items) l.self
