use Rattle.std.proofs.Common.{◌≡◌, ◌-◌}
use Rattle.tp_parse.specs.Readers.{names, names_from}
use Rattle.tp_parse.proofs.parser.Parser.names.Given as goal

abbrev pub invariant-loop-turn : goal.invariant-loop-turn
invariant-loop-turn l = names l.fn.self ≡ names_from (l._turn-end - l._turn) l.items.items l.self
