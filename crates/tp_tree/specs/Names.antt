-- The names that stand in phrases, definitions and sources: those of variables, of calls, and those
-- that are bound or defined.
use Rattle.std.specs.Prelude.{ℕ, List, [], ◌∷◌, ◌++◌}
use Rattle.tp_tree.specs.Tree.{PhraseTree, phrase, KindTree, number, truth, name, list, size, index, minus, next, negation, binary, conjunction, choice, choice_else, while, repeat, for, forall, exists, bare, form, call, PhraseTrees, no_phrase, phrase_then, DefinitionTree, SourceTree}

-- in the order of the text
abbrev mutual
  pub phrase_names : PhraseTree → List (List ℕ)
  phrase_names (phrase at k) = kind_names k

  pub kind_names : KindTree → List (List ℕ)
  kind_names (number n) = []
  kind_names (truth b) = []
  kind_names (name x) = x ∷ []
  kind_names (list ps) = operand_names ps
  kind_names (size p) = phrase_names p
  kind_names (index p q) = phrase_names p ++ phrase_names q
  kind_names (minus p) = phrase_names p
  kind_names (next p) = phrase_names p
  kind_names (negation p) = phrase_names p
  kind_names (binary o p q) = phrase_names p ++ phrase_names q
  kind_names (conjunction ps) = operand_names ps
  kind_names (choice b p) = phrase_names b ++ phrase_names p
  kind_names (choice_else b p q) = phrase_names b ++ (phrase_names p ++ phrase_names q)
  kind_names (while b p) = phrase_names b ++ phrase_names p
  kind_names (repeat p b) = phrase_names p ++ phrase_names b
  kind_names (for x e p) = x ∷ (phrase_names e ++ phrase_names p)
  kind_names (forall x e p) = x ∷ (phrase_names e ++ phrase_names p)
  kind_names (exists xs p) = xs ++ phrase_names p
  kind_names (bare w) = []
  kind_names (form f ps) = operand_names ps
  kind_names (call x ps) = x ∷ operand_names ps

  pub operand_names : PhraseTrees → List (List ℕ)
  operand_names no_phrase = []
  operand_names (phrase_then p ps) = phrase_names p ++ operand_names ps

-- the name of a definition, its parameters and the names in its body
abbrev pub definition_names : DefinitionTree → List (List ℕ)
definition_names d = d.name ∷ (d.parameters ++ phrase_names d.body)

abbrev pub names_in_definitions : List DefinitionTree → List (List ℕ)
names_in_definitions [] = []
names_in_definitions (d ∷ ds) = definition_names d ++ names_in_definitions ds

abbrev pub source_names : SourceTree → List (List ℕ)
source_names s = names_in_definitions s.definitions ++ phrase_names s.main
