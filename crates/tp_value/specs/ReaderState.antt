-- What the reader in the code stands for.
use Rattle.std.specs.Prelude.{List, map, reverse}
use Rattle.tp_value.specs.declared.reader.Reader.{Reader}
use Rattle.tp_value.specs.declared.reader.Taken.{Taken}
use Rattle.tp_value.specs.declared.reader.Taken.TheVariants.{More, Done}
use Rattle.tp_value.specs.declared.value.Items.{Items}
use Rattle.tp_value.specs.Tree.{Tree}
use Rattle.tp_value.specs.Read.{tree}
use Rattle.tp_value.specs.Reading.{ReadingState, Step, goes, ends}

-- the trees of the items of an open list
abbrev pub items_seen : Items → List Tree
items_seen all = map tree all.items.items

-- the items of the open lists, the innermost list first
abbrev pub lists_of : List Items → List (List Tree)
lists_of all = reverse (map items_seen all)

abbrev pub state_of : Reader → ReadingState
state_of r = record { lists = lists_of r.unclosed.items; begun = r.begun; phase = r.phase }

-- the step that the code took
abbrev pub taken : Taken → Step
taken (More r) = goes (state_of r)
taken (Done v after) = ends (tree v) after
