-- The plain tree of each kind of phrase.
use Rattle.std.proofs.Common.{◌≡◌, ℕ, ℤ, Bool, List, map, None, Some, ap, sym, ◌∙◌, Global}
use Rattle.std.specs.declared.boxed.Box.{Box}
use Rattle.tp_tree.specs.declared.operator.Op.{Op}
use Rattle.tp_tree.specs.declared.operator.Bare.{Bare}
use Rattle.tp_tree.specs.declared.operator.Form.{Form}
use Rattle.tp_tree.specs.declared.phrase.Phrase.{Phrase}
use Rattle.tp_tree.specs.declared.phrase.Phrases.{Phrases, out-Phrases}
use Rattle.tp_tree.specs.declared.phrase.PhraseKind.{PhraseKind}
use Rattle.tp_tree.specs.declared.phrase.PhraseKind.TheOpen.{PhraseKind-F}
use Rattle.tp_tree.specs.declared.phrase.PhraseKind.TheViews.{roll-PhraseKind}
use Rattle.tp_tree.specs.declared.phrase.PhraseKind.TheVariants as kind
use Rattle.tp_tree.specs.declared.phrase.PhraseKind.TheFolds.{map-PhraseKind, fold-roll-PhraseKind, fold_out-Phrase, fold_out-Phrases}
use Rattle.tp_tree.specs.Tree.{PhraseTree, phrase, KindTree, number, truth, name, list, size, index, minus, next, negation, binary, conjunction, choice, choice_else, while, repeat, for, forall, exists, bare, form, call, PhraseTrees, phrases_of}
use Rattle.tp_tree.specs.Read.{phrase_tree, phrase_trees, kind_tree, kind_step, phrase_step, phrases_step}

pub tree_is : (p : Phrase) → phrase_tree p ≡ phrase p.at (kind_tree p.kind)
tree_is p = fold_out-Phrase KindTree PhraseTree PhraseTrees kind_step phrase_step phrases_step p

pub trees_are : (ps : Phrases)
    → phrase_trees ps ≡ phrases_of (map phrase_tree (out-Phrases ps).items.items)
trees_are ps =
    fold_out-Phrases KindTree PhraseTree PhraseTrees kind_step phrase_step phrases_step ps

-- a kind that is made of one layer: its tree is the step of that layer, with what is below as trees
tree_of : {k : PhraseKind} (parts : PhraseKind-F PhraseKind Phrase Phrases)
    → roll-PhraseKind parts ≡ k
    → kind_tree k
    ≡ kind_step (map-PhraseKind PhraseKind Phrase Phrases KindTree PhraseTree PhraseTrees kind_tree
    phrase_tree phrase_trees parts)
tree_of parts rolls =
    ap kind_tree (sym rolls)
    ∙ fold-roll-PhraseKind KindTree PhraseTree PhraseTrees kind_step phrase_step phrases_step parts

pub tree_number : (n : ℤ) → kind_tree (kind.Number n) ≡ number n
tree_number n = tree_of (PhraseKind-F.Number n) (kind.rolls-Number n)

pub phrase_tree_truth : (b : Bool) → kind_tree (kind.Truth b) ≡ truth b
phrase_tree_truth b = tree_of (PhraseKind-F.Truth b) (kind.rolls-Truth b)

pub tree_name : (x : List ℕ) → kind_tree (kind.Name x) ≡ name x
tree_name x = tree_of (PhraseKind-F.Name x) (kind.rolls-Name x)

pub phrase_tree_list : (ps : Phrases)
    → kind_tree (kind.List ps) ≡ list (phrases_of (map phrase_tree (out-Phrases ps).items.items))
phrase_tree_list ps = tree_of (PhraseKind-F.List ps) (kind.rolls-List ps) ∙ ap list (trees_are ps)

pub tree_size : (p : Box Phrase Global) → kind_tree (kind.Size p) ≡ size (phrase_tree p.value)
tree_size p = tree_of (PhraseKind-F.Size p) (kind.rolls-Size p)

pub tree_index : (p : Box Phrase Global) (q : Box Phrase Global)
    → kind_tree (kind.Index p q) ≡ index (phrase_tree p.value) (phrase_tree q.value)
tree_index p q = tree_of (PhraseKind-F.Index p q) (kind.rolls-Index p q)

pub tree_minus : (p : Box Phrase Global) → kind_tree (kind.Minus p) ≡ minus (phrase_tree p.value)
tree_minus p = tree_of (PhraseKind-F.Minus p) (kind.rolls-Minus p)

pub tree_next : (p : Box Phrase Global) → kind_tree (kind.Next p) ≡ next (phrase_tree p.value)
tree_next p = tree_of (PhraseKind-F.Next p) (kind.rolls-Next p)

pub tree_not : (p : Box Phrase Global) → kind_tree (kind.Not p) ≡ negation (phrase_tree p.value)
tree_not p = tree_of (PhraseKind-F.Not p) (kind.rolls-Not p)

pub tree_binary : (o : Op) (p : Box Phrase Global) (q : Box Phrase Global)
    → kind_tree (kind.Binary o p q) ≡ binary o (phrase_tree p.value) (phrase_tree q.value)
tree_binary o p q = tree_of (PhraseKind-F.Binary o p q) (kind.rolls-Binary o p q)

pub tree_and : (ps : Phrases)
    → kind_tree (kind.And ps)
    ≡ conjunction (phrases_of (map phrase_tree (out-Phrases ps).items.items))
tree_and ps = tree_of (PhraseKind-F.And ps) (kind.rolls-And ps) ∙ ap conjunction (trees_are ps)

pub tree_while : (b : Box Phrase Global) (p : Box Phrase Global)
    → kind_tree (kind.While b p) ≡ while (phrase_tree b.value) (phrase_tree p.value)
tree_while b p = tree_of (PhraseKind-F.While b p) (kind.rolls-While b p)

pub tree_repeat : (p : Box Phrase Global) (b : Box Phrase Global)
    → kind_tree (kind.Repeat p b) ≡ repeat (phrase_tree p.value) (phrase_tree b.value)
tree_repeat p b = tree_of (PhraseKind-F.Repeat p b) (kind.rolls-Repeat p b)

pub tree_for : (x : List ℕ) (e : Box Phrase Global) (p : Box Phrase Global)
    → kind_tree (kind.For x e p) ≡ for x (phrase_tree e.value) (phrase_tree p.value)
tree_for x e p = tree_of (PhraseKind-F.For x e p) (kind.rolls-For x e p)

pub tree_forall : (x : List ℕ) (e : Box Phrase Global) (p : Box Phrase Global)
    → kind_tree (kind.Forall x e p) ≡ forall x (phrase_tree e.value) (phrase_tree p.value)
tree_forall x e p = tree_of (PhraseKind-F.Forall x e p) (kind.rolls-Forall x e p)

pub tree_exists : (xs : List (List ℕ)) (p : Box Phrase Global)
    → kind_tree (kind.Exists xs p) ≡ exists xs (phrase_tree p.value)
tree_exists xs p = tree_of (PhraseKind-F.Exists xs p) (kind.rolls-Exists xs p)

pub tree_bare : (w : Bare) → kind_tree (kind.Bare w) ≡ bare w
tree_bare w = tree_of (PhraseKind-F.Bare w) (kind.rolls-Bare w)

pub tree_form : (f : Form) (ps : Phrases)
    → kind_tree (kind.Form f ps)
    ≡ form f (phrases_of (map phrase_tree (out-Phrases ps).items.items))
tree_form f ps =
    tree_of (PhraseKind-F.Form f ps) (kind.rolls-Form f ps) ∙ ap (form f) (trees_are ps)

pub tree_call : (x : List ℕ) (ps : Phrases)
    → kind_tree (kind.Call x ps)
    ≡ call x (phrases_of (map phrase_tree (out-Phrases ps).items.items))
tree_call x ps =
    tree_of (PhraseKind-F.Call x ps) (kind.rolls-Call x ps) ∙ ap (call x) (trees_are ps)

pub tree_if : (b p : Box Phrase Global)
    → kind_tree (kind.If b p None) ≡ choice (phrase_tree b.value) (phrase_tree p.value)
tree_if b p = tree_of (PhraseKind-F.If b p None) (kind.rolls-If b p None)

pub tree_if_else : (b p q : Box Phrase Global)
    → kind_tree (kind.If b p (Some q))
    ≡ choice_else (phrase_tree b.value) (phrase_tree p.value) (phrase_tree q.value)
tree_if_else b p q = tree_of (PhraseKind-F.If b p (Some q)) (kind.rolls-If b p (Some q))
