-- How loosely the parts of a phrase hang together: its level. It counts up from the phrases that
-- stand by themselves, 0, to those that reach as far to the right as they can, 11.
use Rattle.std.specs.Prelude.{ℕ, ◌-◌}
use Rattle.tp_tree.specs.declared.operator.Op.{Op}
use Rattle.tp_tree.specs.declared.operator.Op.TheVariants as op
use Rattle.tp_tree.specs.declared.operator.Grouping.{Grouping}
use Rattle.tp_tree.specs.declared.operator.Grouping.TheVariants.{Left, Single, Right}
use Rattle.tp_tree.specs.Tree.{KindTree, number, truth, name, list, size, index, minus, next, negation, binary, conjunction, choice, choice_else, while, repeat, for, forall, exists, bare, form, call}

abbrev pub index_level : ℕ
index_level = 1

abbrev pub prefix_level : ℕ
prefix_level = 2

abbrev pub product_level : ℕ
product_level = 3

abbrev pub sum_level : ℕ
sum_level = 4

abbrev pub relation_level : ℕ
relation_level = 5

abbrev pub not_level : ℕ
not_level = 6

abbrev pub and_level : ℕ
and_level = 7

abbrev pub or_level : ℕ
or_level = 8

abbrev pub proj_level : ℕ
proj_level = 9

abbrev pub chop_level : ℕ
chop_level = 10

-- that of the phrases that reach to the right; no level is higher
abbrev pub any_level : ℕ
any_level = 11

-- the level of a phrase with this operator
abbrev pub op_level : Op → ℕ
op_level op.Chop = chop_level
op_level op.Proj = proj_level
op_level op.Or = or_level
op_level op.Equal = relation_level
op_level op.Differs = relation_level
op_level op.Less = relation_level
op_level op.LessEqual = relation_level
op_level op.Greater = relation_level
op_level op.GreaterEqual = relation_level
op_level op.Gets = relation_level
op_level op.Arrow = relation_level
op_level op.Becomes = relation_level
op_level op.Plus = sum_level
op_level op.Minus = sum_level
op_level op.Times = product_level
op_level op.Div = product_level
op_level op.Mod = product_level

-- how operators of its level group: to the left, not at all, or to the right
abbrev pub grouping : Op → Grouping
grouping op.Chop = Right
grouping op.Proj = Right
grouping op.Or = Left
grouping op.Equal = Single
grouping op.Differs = Single
grouping op.Less = Single
grouping op.LessEqual = Single
grouping op.Greater = Single
grouping op.GreaterEqual = Single
grouping op.Gets = Single
grouping op.Arrow = Single
grouping op.Becomes = Single
grouping op.Plus = Left
grouping op.Minus = Left
grouping op.Times = Left
grouping op.Div = Left
grouping op.Mod = Left

-- where operators of a level group so, the highest level that a left operand has without
-- parentheses: that of the operator, where they group to the left, else the one below
abbrev pub level_left_of : Grouping → ℕ → ℕ
level_left_of Left level = level
level_left_of Single level = level - 1
level_left_of Right level = level - 1

-- and a right operand: that of the operator, where they group to the right, else the one below
abbrev pub level_right_of : Grouping → ℕ → ℕ
level_right_of Left level = level - 1
level_right_of Single level = level - 1
level_right_of Right level = level

-- the highest level that the left operand of an operator has without parentheses, and the right one
abbrev pub left_level : Op → ℕ
left_level o = level_left_of (grouping o) (op_level o)

abbrev pub right_level : Op → ℕ
right_level o = level_right_of (grouping o) (op_level o)

-- the level of a phrase
abbrev pub kind_level : KindTree → ℕ
kind_level (number n) = 0
kind_level (truth b) = 0
kind_level (name x) = 0
kind_level (list ps) = 0
kind_level (size p) = 0
kind_level (index p q) = index_level
kind_level (minus p) = prefix_level
kind_level (next p) = prefix_level
kind_level (negation p) = not_level
kind_level (binary o p q) = op_level o
kind_level (conjunction ps) = and_level
kind_level (choice b p) = any_level
kind_level (choice_else b p q) = any_level
kind_level (while b p) = any_level
kind_level (repeat p b) = any_level
kind_level (for x e p) = any_level
kind_level (forall x e p) = any_level
kind_level (exists xs p) = any_level
kind_level (bare w) = 0
kind_level (form f ps) = 0
kind_level (call x ps) = 0
