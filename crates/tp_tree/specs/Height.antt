-- How high a phrase is, the parentheses round it and in it apart.
use Rattle.std.specs.Prelude.{ℕ, ◌+◌, max, List, [], ◌∷◌}
use Rattle.tp_tree.specs.Tree.{PhraseTree, phrase, KindTree, number, truth, name, list, size, index, minus, next, negation, binary, conjunction, choice, choice_else, while, repeat, for, forall, exists, bare, form, call, PhraseTrees, no_phrase, phrase_then, DefinitionTree, SourceTree}

-- A phrase is one higher than the highest of its operands, and 1 high where it has none.
abbrev mutual
  pub height : PhraseTree → ℕ
  height (phrase at k) = under k + 1

  -- the greatest height of the operands, or 0
  pub under : KindTree → ℕ
  under (number n) = 0
  under (truth b) = 0
  under (name x) = 0
  under (list ps) = greatest ps
  under (size p) = height p
  under (index p q) = max (height p) (height q)
  under (minus p) = height p
  under (next p) = height p
  under (negation p) = height p
  under (binary o p q) = max (height p) (height q)
  under (conjunction ps) = greatest ps
  under (choice b p) = max (height b) (height p)
  under (choice_else b p q) = max (max (height b) (height p)) (height q)
  under (while b p) = max (height b) (height p)
  under (repeat p b) = max (height p) (height b)
  under (for x e p) = max (height e) (height p)
  under (forall x e p) = max (height e) (height p)
  under (exists xs p) = height p
  under (bare w) = 0
  under (form f ps) = greatest ps
  under (call x ps) = greatest ps

  pub greatest : PhraseTrees → ℕ
  greatest no_phrase = 0
  greatest (phrase_then p ps) = max (height p) (greatest ps)

-- the greatest height of the definitions' bodies, or 0
abbrev pub highest : List DefinitionTree → ℕ
highest [] = 0
highest (d ∷ ds) = max (height d.body) (highest ds)

-- the greatest height of a source's phrases
abbrev pub source_height : SourceTree → ℕ
source_height s = max (highest s.definitions) (height s.main)
