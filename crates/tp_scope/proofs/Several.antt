-- Several phrases, one after the other.
use Rattle.std.proofs.Common.{refl, ap, sym, ◌∙◌, ◌≡◌, ℕ, zero, suc, ◌+◌, ◌<◌, ◌≤◌, List, [], ◌∷◌, ◌++◌, add-one, length, get_or, drop, map, arith}
use Rattle.std.proofs.lemmas.List.{length-map}
use Rattle.std.proofs.lemmas.List.Sums.{fold-append}
use Rattle.tp_value.specs.Globals.{with_name}
use Rattle.tp_tree.specs.declared.phrase.Phrases.{Phrases, out-Phrases}
use Rattle.tp_tree.specs.Tree.{PhraseTree, phrases_of}
use Rattle.tp_tree.specs.Read.{phrase_tree, phrase_trees}
use Rattle.tp_tree.specs.Equations.{trees_are}
use Rattle.tp_scope.specs.Scope.{Names}
use Rattle.tp_scope.specs.Names.{names_with}
use Rattle.tp_scope.specs.Phrases.{phrase_count}

pub count_is : (ts : List PhraseTree) → phrase_count (phrases_of ts) ≡ length ts
count_is [] = refl
count_is (t ∷ ts) = ap suc (count_is ts)

-- as many as there are
pub count_of : (ps : Phrases) → phrase_count (phrase_trees ps) ≡ length (out-Phrases ps).items.items
count_of ps = ap phrase_count (trees_are ps) ∙ (count_is _ ∙ length-map _ phrase_tree)

-- the phrases from here on, and those that are left at the end
from_next : {A : Type 0} (f : A → PhraseTree) (xs : List A) (i : ℕ) (d : A) → i < length xs → map f (drop i xs) ≡ f (get_or xs i d) ∷ map f (drop (suc i) xs)
from_next f [] i d h = absurd (omega arith)
from_next f (x ∷ xs) zero d h = refl
from_next f (x ∷ xs) (suc i) d h = from_next f xs i d (omega arith)

pub from_here : {A : Type 0} (f : A → PhraseTree) (xs : List A) (i : ℕ) (d : A) → i < length xs → d ≡ get_or xs i d → map f (drop i xs) ≡ f d ∷ map f (drop (i + 1) xs)
from_here f xs i d h e =
    from_next f xs i d h ∙ (ap (λ y. f y ∷ map f (drop (suc i) xs)) (sym e) ∙ ap (λ j. f d ∷ map f (drop j xs)) (sym (add-one i)))

pub none_left : {A : Type 0} (f : A → PhraseTree) (xs : List A) (i : ℕ) → length xs ≤ i → map f (drop i xs) ≡ []
none_left f [] zero h = refl
none_left f [] (suc i) h = refl
none_left f (x ∷ xs) zero h = absurd (omega arith)
none_left f (x ∷ xs) (suc i) h = none_left f xs i (omega arith)

pub names_join : (names others more : Names) → names_with names (others ++ more) ≡ names_with (names_with names others) more
names_join names others more = fold-append with_name names others more
