-- The items that stand in an item's place, as a list.
use Rattle.std.specs.Prelude.{List, [], ◌∷◌}
use Rattle.tp_decide.specs.declared.decision.Leaf.{Leaf}
use Rattle.tp_decide.specs.declared.leaves.Leaves.{Leaves}
use Rattle.tp_decide.specs.declared.leaves.Leaves.TheVariants as leaves

abbrev pub leaf_list : Leaves → List Leaf
leaf_list leaves.None = []
leaf_list (leaves.One a) = a ∷ []
leaf_list (leaves.Two a b) = a ∷ b ∷ []
leaf_list (leaves.Many list) = list.items
