-- The trees of what binds one name, and the names in them.
use Rattle.std.proofs.Common.{ap, ap₂, sym, ◌∙◌, ◌≡◌, ℕ, ◌⊎◌, inl, inr, List, ◌∷◌, ◌++◌, Global}
use Rattle.std.specs.declared.boxed.Box.{Box}
use Rattle.tp_tree.specs.declared.phrase.Phrase.{Phrase}
use Rattle.tp_tree.specs.declared.phrase.PhraseKind.TheVariants.{For, Forall}
use Rattle.tp_tree.specs.Tree.{phrase, for, forall}
use Rattle.tp_tree.specs.Read.{phrase_tree, kind_tree}
use Rattle.tp_tree.specs.Equations.{tree_is, tree_for, tree_forall}
use Rattle.tp_scope.specs.Scope.{Names}
use Rattle.tp_scope.specs.Names.{names_in}

pub tree_of_for : (p : Phrase) (x : List ℕ) (to body : Box Phrase Global) (t w : Phrase) → p.kind ≡ For x to body → t ≡ to.value → w ≡ body.value → phrase_tree p ≡ phrase p.at (for x (phrase_tree t) (phrase_tree w))
tree_of_for p x to body t w e a b = tree_is p ∙ ap (phrase p.at) (ap kind_tree e ∙ (tree_for x to body ∙ sym (ap₂ (λ u v. for x (phrase_tree u) (phrase_tree v)) a b)))

pub tree_of_forall : (p : Phrase) (x : List ℕ) (to body : Box Phrase Global) (t w : Phrase) → p.kind ≡ Forall x to body → t ≡ to.value → w ≡ body.value → phrase_tree p ≡ phrase p.at (forall x (phrase_tree t) (phrase_tree w))
tree_of_forall p x to body t w e a b = tree_is p ∙ ap (phrase p.at) (ap kind_tree e ∙ (tree_forall x to body ∙ sym (ap₂ (λ u v. forall x (phrase_tree u) (phrase_tree v)) a b)))

-- the names in what binds a name in its body
pub names_of_loop : (scope : Names) (p : Phrase) (x : List ℕ) (to body : Box Phrase Global) (t w : Phrase) → (p.kind ≡ For x to body) ⊎ (p.kind ≡ Forall x to body) → t ≡ to.value → w ≡ body.value
    → names_in scope (phrase_tree p) ≡ names_in scope (phrase_tree t) ++ names_in (x ∷ scope) (phrase_tree w)
names_of_loop scope p x to body t w (inl e) a b = ap (names_in scope) (tree_of_for p x to body t w e a b)
names_of_loop scope p x to body t w (inr e) a b = ap (names_in scope) (tree_of_forall p x to body t w e a b)
