-- Phrases up to the places of their first bytes.
use Rattle.std.specs.Prelude.{◌≡◌, map}
use Rattle.tp_tree.specs.Tree.{PhraseTree, phrase, KindTree, number, truth, name, list, size, index, minus, next, negation, binary, conjunction, choice, choice_else, while, repeat, for, forall, exists, bare, form, call, PhraseTrees, no_phrase, phrase_then, DefinitionTree, SourceTree}

-- the tree with each place 0
abbrev mutual
  pub unplaced : PhraseTree → PhraseTree
  unplaced (phrase at k) = phrase 0 (unplaced_kind k)

  pub unplaced_kind : KindTree → KindTree
  unplaced_kind (number n) = number n
  unplaced_kind (truth b) = truth b
  unplaced_kind (name x) = name x
  unplaced_kind (list ps) = list (unplaced_all ps)
  unplaced_kind (size p) = size (unplaced p)
  unplaced_kind (index p q) = index (unplaced p) (unplaced q)
  unplaced_kind (minus p) = minus (unplaced p)
  unplaced_kind (next p) = next (unplaced p)
  unplaced_kind (negation p) = negation (unplaced p)
  unplaced_kind (binary o p q) = binary o (unplaced p) (unplaced q)
  unplaced_kind (conjunction ps) = conjunction (unplaced_all ps)
  unplaced_kind (choice b p) = choice (unplaced b) (unplaced p)
  unplaced_kind (choice_else b p q) = choice_else (unplaced b) (unplaced p) (unplaced q)
  unplaced_kind (while b p) = while (unplaced b) (unplaced p)
  unplaced_kind (repeat p b) = repeat (unplaced p) (unplaced b)
  unplaced_kind (for x e p) = for x (unplaced e) (unplaced p)
  unplaced_kind (forall x e p) = forall x (unplaced e) (unplaced p)
  unplaced_kind (exists xs p) = exists xs (unplaced p)
  unplaced_kind (bare w) = bare w
  unplaced_kind (form f ps) = form f (unplaced_all ps)
  unplaced_kind (call x ps) = call x (unplaced_all ps)

  pub unplaced_all : PhraseTrees → PhraseTrees
  unplaced_all no_phrase = no_phrase
  unplaced_all (phrase_then p ps) = phrase_then (unplaced p) (unplaced_all ps)

abbrev pub unplaced_definition : DefinitionTree → DefinitionTree
unplaced_definition d = record d { at = 0; body = unplaced d.body }

abbrev pub unplaced_source : SourceTree → SourceTree
unplaced_source s =
    record { definitions = map unplaced_definition s.definitions; main = unplaced s.main }

-- the sources are equal up to places
abbrev pub IsSameUpToPlaces : SourceTree → SourceTree → Type 0
IsSameUpToPlaces s t = unplaced_source s ≡ unplaced_source t
