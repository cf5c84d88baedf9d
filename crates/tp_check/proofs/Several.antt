-- What is made of several phrases, one after the other.
use Rattle.std.proofs.Common.{refl, ap, ap₂, sym, ◌∙◌, ◌≡◌, ℕ, ◌+◌, ◌<◌, ◌≤◌, List, [], ◌∷◌, ◌++◌, append_assoc, map, drop, Ok, Err, length, get_or, arith}
use Rattle.std.proofs.lemmas.List.{append-nil, map-append}
use Rattle.tp_tree.specs.declared.phrase.Phrase.{Phrase}
use Rattle.tp_tree.specs.declared.phrase.Phrases.{Phrases, out-Phrases}
use Rattle.tp_tree.specs.Tree.{PhraseTree, PhraseTrees, phrases_of}
use Rattle.tp_tree.specs.Read.{phrase_tree, phrase_trees}
use Rattle.tp_tree.specs.Equations.{trees_are}
use Rattle.tp_scope.proofs.Several.{from_here}
use Rattle.tp_check.specs.declared.refusal.CheckRefusal.{CheckRefusal}
use Rattle.tp_check.specs.Outcome.{CheckOutcome, both, mapped}

pub none_made : {A : Type 0} (xs : List A) (o : CheckOutcome (List A)) → xs ≡ [] → o ≡ mapped (λ ys. xs ++ ys) o
none_made xs (Ok ys) e = ap (λ zs. Ok (zs ++ ys)) (sym e)
none_made xs (Err r) e = refl

-- of several phrases none is made yet
pub start_made : {X T : Type 0} (view : X → T) (made_in : PhraseTrees → CheckOutcome (List T)) (ps : Phrases) (xs : List Phrase) (items : List X) → xs ≡ (out-Phrases ps).items.items → items ≡ []
    → made_in (phrase_trees ps) ≡ mapped (λ ys. map view items ++ ys) (made_in (phrases_of (map phrase_tree xs)))
start_made view made_in ps xs items e none = ap made_in (trees_are ps ∙ ap (λ ys. phrases_of (map phrase_tree ys)) (sym e)) ∙ none_made (map view items) _ (ap (map view) none)

-- one more is made
pub one_made : {A : Type 0} (xs : List A) (x : A) (o : CheckOutcome A) (rest : CheckOutcome (List A)) → o ≡ Ok x
    → mapped (λ ys. xs ++ ys) (both (λ y ys. y ∷ ys) o rest) ≡ mapped (λ ys. (xs ++ x ∷ []) ++ ys) rest
one_made xs x o (Ok ys) e = ap (λ p. mapped (λ ys. xs ++ ys) (both (λ y zs. y ∷ zs) p (Ok ys))) e ∙ ap Ok (sym (append_assoc xs (x ∷ []) ys))
one_made xs x o (Err r) e = ap (λ p. mapped (λ ys. xs ++ ys) (both (λ y zs. y ∷ zs) p (Err r))) e

-- of several phrases one more is made, and put behind what was made
pub more_made : {X T : Type 0} (view : X → T) (made_in : List PhraseTree → CheckOutcome (List T)) (made_of : PhraseTree → CheckOutcome T) (items pushed : List X) (w : X) (xs : List Phrase) (i : ℕ) (x : Phrase) (outcome : CheckOutcome (List T))
    → ((t : PhraseTree) (ts : List PhraseTree) → made_in (t ∷ ts) ≡ both (λ y ys. y ∷ ys) (made_of t) (made_in ts)) → pushed ≡ items ++ w ∷ [] → made_of (phrase_tree x) ≡ Ok (view w) → i < length xs → x ≡ get_or xs i x
    → outcome ≡ mapped (λ ys. map view items ++ ys) (made_in (map phrase_tree (drop i xs))) → outcome ≡ mapped (λ ys. map view pushed ++ ys) (made_in (map phrase_tree (drop (i + 1) xs)))
more_made view made_in made_of items pushed w xs i x outcome step push made within here so_far =
    let rest = made_in (map phrase_tree (drop (i + 1) xs)) in
    so_far
    ∙ (ap (λ ts. mapped (λ ys. map view items ++ ys) (made_in ts)) (from_here phrase_tree xs i x within here)
    ∙ (ap (mapped (λ ys. map view items ++ ys)) (step (phrase_tree x) (map phrase_tree (drop (i + 1) xs)))
    ∙ (one_made (map view items) (view w) (made_of (phrase_tree x)) rest made
    ∙ ap (λ zs. mapped (λ ys. zs ++ ys) rest) (sym (ap (map view) push ∙ map-append view items (w ∷ []))))))

-- one is refused
pub one_refused : {A : Type 0} (xs : List A) (e : CheckRefusal) (o : CheckOutcome A) (rest : CheckOutcome (List A)) → o ≡ Err e
    → mapped (λ ys. xs ++ ys) (both (λ y ys. y ∷ ys) o rest) ≡ Err e
one_refused xs e o rest refused = ap (λ p. mapped (λ ys. xs ++ ys) (both (λ y ys. y ∷ ys) p rest)) refused

pub all_made : {A : Type 0} (xs : List A) → mapped (λ ys. xs ++ ys) (Ok []) ≡ Ok xs
all_made xs = ap Ok (append-nil xs)

-- one or two operands
pub one_is : {A : Type 0} (xs : List A) (x : A) → 1 ≤ length xs → length xs < 2 → x ≡ get_or xs 0 x → xs ≡ x ∷ []
one_is [] x a b e = absurd (omega arith)
one_is (y ∷ []) x a b e = ap (λ z. z ∷ []) (sym e)
one_is (y ∷ z ∷ xs) x a b e = absurd (omega arith)

pub two_are : {A : Type 0} (xs : List A) (x y : A) → 2 ≤ length xs → length xs < 3 → x ≡ get_or xs 0 x → y ≡ get_or xs 1 y → xs ≡ x ∷ y ∷ []
two_are [] x y a b e f = absurd (omega arith)
two_are (z ∷ []) x y a b e f = absurd (omega arith)
two_are (z ∷ w ∷ []) x y a b e f = ap₂ (λ u v. u ∷ v ∷ []) (sym e) (sym f)
two_are (z ∷ w ∷ v ∷ xs) x y a b e f = absurd (omega arith)

pub one_tree : (ps : Phrases) (xs : List Phrase) (x : Phrase) → xs ≡ (out-Phrases ps).items.items → 1 ≤ length xs → length xs < 2 → x ≡ get_or xs 0 x → phrase_trees ps ≡ phrases_of (map phrase_tree (x ∷ []))
one_tree ps xs x e least most is = trees_are ps ∙ ap (λ ys. phrases_of (map phrase_tree ys)) (sym e ∙ one_is xs x least most is)

pub two_trees : (ps : Phrases) (xs : List Phrase) (x y : Phrase) → xs ≡ (out-Phrases ps).items.items → 2 ≤ length xs → length xs < 3 → x ≡ get_or xs 0 x → y ≡ get_or xs 1 y → phrase_trees ps ≡ phrases_of (map phrase_tree (x ∷ y ∷ []))
two_trees ps xs x y e least most is also = trees_are ps ∙ ap (λ ys. phrases_of (map phrase_tree ys)) (sym e ∙ two_are xs x y least most is also)
