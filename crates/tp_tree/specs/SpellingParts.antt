-- Parts of the spelling of a phrase, as they are written one by one.
use Rattle.std.specs.Prelude.{ℕ, List, [], ◌++◌, codes}
use Rattle.tp_tree.specs.Tree.{PhraseTree, PhraseTrees}
use Rattle.tp_tree.specs.Levels.{any_level}
use Rattle.tp_tree.specs.Spelling.{operand_spelling, operands_spelling}

-- a form or a call: its word and its operands
abbrev pub called_spelling : List ℕ → PhraseTrees → List ℕ
called_spelling word ps =
    word ++ codes "(" ++ operands_spelling [] (codes ", ") any_level ps ++ codes ")"

-- the word of a loop, its variable and its bound
abbrev pub counter_spelling : List ℕ → List ℕ → PhraseTree → List ℕ
counter_spelling word x e = word ++ x ++ codes " < " ++ operand_spelling any_level e
