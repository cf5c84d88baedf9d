-- The plain trees of phrases, definitions and sources.
use Rattle.std.specs.Prelude.{map, None, Some}
use Rattle.tp_tree.specs.declared.phrase.Phrase.{Phrase}
use Rattle.tp_tree.specs.declared.phrase.Phrases.{Phrases}
use Rattle.tp_tree.specs.declared.phrase.PhraseKind.{PhraseKind}
use Rattle.tp_tree.specs.declared.phrase.PhraseKind.TheOpen.{PhraseKind-F, Phrase-F, Phrases-F}
use Rattle.tp_tree.specs.declared.phrase.PhraseKind.TheFolds.{fold-PhraseKind, fold-Phrase, fold-Phrases}
use Rattle.tp_tree.specs.declared.phrase.Definition.{Definition}
use Rattle.tp_tree.specs.declared.phrase.Source.{Source}
use Rattle.tp_tree.specs.Tree.{PhraseTree, phrase, KindTree, number, truth, name, list, size, index, minus, next, negation, binary, conjunction, choice, choice_else, while, repeat, for, forall, exists, bare, form, call, PhraseTrees, phrases_of, DefinitionTree, SourceTree}

-- one level, with what is below already seen as its trees
abbrev pub kind_step : PhraseKind-F KindTree PhraseTree PhraseTrees → KindTree
kind_step (PhraseKind-F.Number n) = number n
kind_step (PhraseKind-F.Truth b) = truth b
kind_step (PhraseKind-F.Name x) = name x
kind_step (PhraseKind-F.List ps) = list ps
kind_step (PhraseKind-F.Size p) = size p.value
kind_step (PhraseKind-F.Index p q) = index p.value q.value
kind_step (PhraseKind-F.Minus p) = minus p.value
kind_step (PhraseKind-F.Next p) = next p.value
kind_step (PhraseKind-F.Not p) = negation p.value
kind_step (PhraseKind-F.Binary o p q) = binary o p.value q.value
kind_step (PhraseKind-F.And ps) = conjunction ps
kind_step (PhraseKind-F.If b p None) = choice b.value p.value
kind_step (PhraseKind-F.If b p (Some q)) = choice_else b.value p.value q.value
kind_step (PhraseKind-F.While b p) = while b.value p.value
kind_step (PhraseKind-F.Repeat p b) = repeat p.value b.value
kind_step (PhraseKind-F.For x e p) = for x e.value p.value
kind_step (PhraseKind-F.Forall x e p) = forall x e.value p.value
kind_step (PhraseKind-F.Exists xs p) = exists xs p.value
kind_step (PhraseKind-F.Bare w) = bare w
kind_step (PhraseKind-F.Form f ps) = form f ps
kind_step (PhraseKind-F.Call x ps) = call x ps

abbrev pub phrase_step : Phrase-F KindTree PhraseTree PhraseTrees → PhraseTree
phrase_step p = phrase p.at p.kind

abbrev pub phrases_step : Phrases-F KindTree PhraseTree PhraseTrees → PhraseTrees
phrases_step ps = phrases_of ps.items.items

-- the plain tree of what a phrase is, of a phrase, and of several
abbrev pub kind_tree : PhraseKind → KindTree
kind_tree = fold-PhraseKind KindTree PhraseTree PhraseTrees kind_step phrase_step phrases_step

abbrev pub phrase_tree : Phrase → PhraseTree
phrase_tree = fold-Phrase KindTree PhraseTree PhraseTrees kind_step phrase_step phrases_step

abbrev pub phrase_trees : Phrases → PhraseTrees
phrase_trees = fold-Phrases KindTree PhraseTree PhraseTrees kind_step phrase_step phrases_step

abbrev pub definition_tree : Definition → DefinitionTree
definition_tree d =
    record { name = d.name; at = d.at; parameters = d.parameters; body = phrase_tree d.body }

abbrev pub source_tree : Source → SourceTree
source_tree s =
    record {
      definitions = map definition_tree s.definitions.items.items;
      main = phrase_tree s.main;
    }
