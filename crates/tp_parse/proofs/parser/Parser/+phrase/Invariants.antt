use Rattle.std.proofs.Common.{◌≡◌, ◌+◌, ◌*◌, ◌-◌, ◌≤◌, map, Ok}
use Rattle.tp_tree.specs.Read.{phrase_tree}
use Rattle.tp_parse.specs.Grammar.{operands_of}
use Rattle.tp_parse.specs.Seen.{seen}
use Rattle.tp_parse.specs.Reading.{read, levels, operations, go, others, others_from}
use Rattle.tp_parse.proofs.parser.Parser.+phrase.Given as goal

abbrev pub decreases-phrase : goal.decreases-phrase
decreases-phrase l = l.room * 16

abbrev pub decreases-first : goal.decreases-first
decreases-first l = l.room * 16 + 15

abbrev pub decreases-prefixed : goal.decreases-prefixed
decreases-prefixed l = l.room * 16 + 14

abbrev pub decreases-primary : goal.decreases-primary
decreases-primary l = l.room * 16 + 14

abbrev pub decreases-primary_by : goal.decreases-primary_by
decreases-primary_by l = l.room * 16 + 13

abbrev pub decreases-operations : goal.decreases-operations
decreases-operations l = l.room * 16 + 12

abbrev pub decreases-turn : goal.decreases-turn
decreases-turn l = l.room * 16 + 11

abbrev pub decreases-operated : goal.decreases-operated
decreases-operated l = l.room * 16 + 10

abbrev pub decreases-indexed : goal.decreases-indexed
decreases-indexed l = l.room * 16 + 9

abbrev pub decreases-chained : goal.decreases-chained
decreases-chained l = l.room * 16 + 8

abbrev pub decreases-choice : goal.decreases-choice
decreases-choice l = l.room * 16 + 7

abbrev pub decreases-operands : goal.decreases-operands
decreases-operands l = l.room * 16 + 6

abbrev pub decreases-others : goal.decreases-others
decreases-others l = l.room * 16 + 5

abbrev pub decreases-part : goal.decreases-part
decreases-part l = l.room * 16 + 4

abbrev pub decreases-else_part : goal.decreases-else_part
decreases-else_part l = l.room * 16 + 3

abbrev pub decreases-paired : goal.decreases-paired
decreases-paired l = l.room * 16 + 5

abbrev pub invariant-operations-loop-turn : goal.invariant-operations-loop-turn
invariant-operations-loop-turn l = record {
  reads : operations (read l.room) l.room l.level l.at (seen l.fn.first) l.fn.self ≡ go (read l.room) l.room l.level l.at (l._turn-end - l._turn) (seen l.left) l.self;
  low : l.left.height ≤ l.room + 1;
}

abbrev pub invariant-others-loop-turn : goal.invariant-others-loop-turn
invariant-others-loop-turn l = record {
  reads : others (read l.room) l.room l.level l.separator (seen l.fn.first) l.fn.self ≡ others_from (read l.room) l.room l.level l.separator (l._turn-end - l._turn) (operands_of (map phrase_tree l.items.items) l.height) l.self;
  low : l.height ≤ l.room;
}

abbrev pub invariant-phrase-loop-lower : goal.invariant-phrase-loop-lower
invariant-phrase-loop-lower l = record {
  reads : levels (read (l.room - 1)) (l.room - 1) l.lower l.fn.self ≡ Ok (seen l.left, l.self);
  low : l.left.height ≤ l.room;
}
