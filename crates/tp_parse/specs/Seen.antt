-- What the code has read, as phrases and operands with their heights.
use Rattle.std.specs.Prelude.{ℕ, ◌+◌, ◌<◌, max, Bool, [], ◌∷◌, ◌++◌, map}
use Rattle.tp_tree.specs.Read.{phrase_tree}
use Rattle.tp_tree.specs.Tree as t
use Rattle.tp_tree.specs.Tree.{PhraseTree, phrase, KindTree}
use Rattle.tp_parse.specs.declared.phrases.Measured.{Measured}
use Rattle.tp_parse.specs.declared.phrases.OneOperand.{OneOperand}
use Rattle.tp_parse.specs.declared.phrases.OneOperand.TheVariants as one
use Rattle.tp_parse.specs.declared.phrases.TwoOperands.{TwoOperands}
use Rattle.tp_parse.specs.declared.phrases.TwoOperands.TheVariants as two
use Rattle.tp_parse.specs.declared.operands.Operands as all
use Rattle.tp_parse.specs.Grammar.{Found, found, Operands, operands_of, pair_kind, prefixed_kind}

-- one more than this height is a number of the machine's, with room to spare
abbrev pub IsLow : ℕ → Type 0
IsLow height = height < 1000

-- what was read, without where it lies in memory
abbrev pub seen : Measured → Found
seen r = found (phrase_tree r.phrase) r.height

abbrev pub turn_seen : Measured × Bool → Found × Bool
turn_seen x = (seen x.0, x.1)

abbrev pub all_seen : all.Operands → Operands
all_seen a = operands_of (map phrase_tree a.items.items) a.height

-- operands and one after them
abbrev pub then_operand : Operands → Found → Operands
then_operand all a = operands_of (all.trees ++ a.tree ∷ []) (max all.height a.height)

-- a phrase of one operand, and one of two
abbrev pub one_kind : OneOperand → PhraseTree → KindTree
one_kind one.Size a = t.size a
one_kind (one.Exists xs) a = t.exists xs a
one_kind (one.Prefix o) a = prefixed_kind o a

abbrev pub of_one : ℕ → OneOperand → Found → Found
of_one at o a = found (phrase at (one_kind o a.tree)) (a.height + 1)

abbrev pub two_kind : TwoOperands → PhraseTree → PhraseTree → KindTree
two_kind two.Choice b p = t.choice b p
two_kind (two.Pair p) a b = pair_kind p a b
two_kind (two.Infix o) a b = t.binary o a b
two_kind two.Index a i = t.index a i

abbrev pub of_two : ℕ → TwoOperands → Found → Found → Found
of_two at o a b = found (phrase at (two_kind o a.tree b.tree)) (max a.height b.height + 1)
