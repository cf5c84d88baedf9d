-- Values that are shown, as plain lists.
use Rattle.std.specs.Prelude.{List, map}
use Rattle.tp_value.specs.Tree.{Tree}
use Rattle.tp_value.specs.Read.{tree}
use Rattle.tp_decide.specs.declared.bound_formula.Values.{Values}
use Rattle.tp_decide.specs.declared.bound_formula.Shows.{Shows}

abbrev pub values_of : Values → List Tree
values_of vs = map tree vs.items.items

abbrev pub shows_of : Shows → List (List Tree)
shows_of s = map values_of s.items.items
