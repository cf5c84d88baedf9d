-- Equations of which a side is refused, and forms with other than one or two operands.
use Rattle.std.proofs.Common.{refl, ap, sym, ◌∙◌, ◌≡◌, ◌≢◌, ℕ, zero, suc, ◌<◌, ◌≤◌, ◌⊎◌, inl, inr, nat_eq, Bool, false, if◌then◌else◌, List, [], ◌∷◌, length, Ok, Err, arith}
use Rattle.std.proofs.lemmas.Bool.Decides.{nat_tests}
use Rattle.tp_tree.specs.declared.phrase.Phrase.{Phrase}
use Rattle.tp_tree.specs.declared.phrase.Phrases.{Phrases}
use Rattle.tp_tree.specs.declared.phrase.PhraseKind.TheVariants.{And}
use Rattle.tp_tree.specs.declared.operator.Form.{Form}
use Rattle.tp_tree.specs.declared.operator.Form.TheVariants as f
use Rattle.tp_tree.specs.Tree.{PhraseTree, phrase, conjunction, form, phrases_of}
use Rattle.tp_tree.specs.Read.{phrase_tree, phrase_trees, kind_tree}
use Rattle.tp_tree.specs.Equations.{tree_is, tree_and, trees_are}
use Rattle.tp_meaning.specs.Syntax.{ExprTree, exprs_of, display}
use Rattle.tp_check.specs.declared.refusal.CheckRefusal.{CheckRefusal}
use Rattle.tp_check.specs.declared.refusal.CheckRefusal.TheVariants.{NotExecutable, WrongCount}
use Rattle.tp_scope.specs.Scope.{VisibleNames}
use Rattle.tp_check.specs.Outcome.{CheckOutcome, mapped, not_expression}
use Rattle.tp_scope.specs.Phrases.{takes, phrase_count, at_of}
use Rattle.tp_check.specs.Positions.{equation_of, refusal_of, exprs_in, formula_of_kind}
use Rattle.tp_scope.proofs.Several.{count_is}

pub at_is : (p : Phrase) → at_of (phrase_tree p) ≡ p.at
at_is p = ap at_of (tree_is p)

pub tree_of_and : (p : Phrase) (ps : Phrases) → p.kind ≡ And ps → phrase_tree p ≡ phrase p.at (conjunction (phrase_trees ps))
tree_of_and p ps e = tree_is p ∙ ap (phrase p.at) (ap kind_tree e ∙ (tree_and ps ∙ ap conjunction (sym (trees_are ps))))

pub left_refused : (n m at : ℕ) (e : CheckRefusal) (r : CheckOutcome ExprTree) → equation_of n m at (Err e) r ≡ Err e
left_refused zero zero at e r = refl
left_refused (suc n) zero at e r = refl
left_refused zero (suc m) at e r = refl
left_refused (suc n) (suc m) at e r = refl

pub right_refused : (n m at : ℕ) (l : ExprTree) (e : CheckRefusal) → (n ≡ 0) ⊎ (m ≡ 0) → equation_of n m at (Ok l) (Err e) ≡ Err e
right_refused zero zero at l e one = refl
right_refused (suc n) zero at l e one = refl
right_refused zero (suc m) at l e one = refl
right_refused (suc n) (suc m) at l e (inl h) = absurd (omega arith)
right_refused (suc n) (suc m) at l e (inr h) = absurd (omega arith)

pub both_later : (n m at : ℕ) (l : ExprTree) (r : CheckOutcome ExprTree) → 0 < n → 0 < m → equation_of n m at (Ok l) r ≡ not_expression at
both_later zero m at l r a b = absurd (omega arith)
both_later (suc n) zero at l r a b = absurd (omega arith)
both_later (suc n) (suc m) at l r a b = refl

another_count : (n k : ℕ) → (n < 1) ⊎ (2 < n) → 1 ≤ k → k ≤ 2 → nat_eq n k ≡ false
another_count n k (inl few) least most = grind (arith, nat_tests)
another_count n k (inr many) least most = grind (arith, nat_tests)

not_taken : (word : Form) (n : ℕ) → word ≢ f.Display → (n < 1) ⊎ (2 < n) → takes word n ≡ false
not_taken f.Display n other h = absurd (other refl)
not_taken f.List n other h = another_count n 2 h (omega arith) (omega arith)
not_taken f.Input n other h = another_count n 2 h (omega arith) (omega arith)
not_taken f.Always n other h = another_count n 1 h (omega arith) (omega arith)
not_taken f.Keep n other h = another_count n 1 h (omega arith) (omega arith)
not_taken f.Fin n other h = another_count n 1 h (omega arith) (omega arith)
not_taken f.Halt n other h = another_count n 1 h (omega arith) (omega arith)
not_taken f.Stable n other h = another_count n 1 h (omega arith) (omega arith)
not_taken f.Sometimes n other h = another_count n 1 h (omega arith) (omega arith)
not_taken f.Len n other h = another_count n 1 h (omega arith) (omega arith)

form_of_others : (names : VisibleNames) (at : ℕ) (word : Form) (ts : List PhraseTree) → word ≢ f.Display → (length ts < 1) ⊎ (2 < length ts)
    → formula_of_kind names at (form word (phrases_of ts)) ≡ Err (refusal_of names at (form word (phrases_of ts)) (NotExecutable at))
form_of_others names at word (t ∷ []) other (inl h) = absurd (omega arith)
form_of_others names at word (t ∷ []) other (inr h) = absurd (omega arith)
form_of_others names at word (t ∷ u ∷ []) other (inl h) = absurd (omega arith)
form_of_others names at word (t ∷ u ∷ []) other (inr h) = absurd (omega arith)
form_of_others names at f.Always ts other h = refl
form_of_others names at f.Keep ts other h = refl
form_of_others names at f.Fin ts other h = refl
form_of_others names at f.Halt ts other h = refl
form_of_others names at f.Stable ts other h = refl
form_of_others names at f.Sometimes ts other h = refl
form_of_others names at f.Len ts other h = refl
form_of_others names at f.List ts other h = refl
form_of_others names at f.Input ts other h = refl
form_of_others names at f.Display ts other h = absurd (other refl)

-- such a form has a wrong number of operands, unless it is `display`
pub form_miscounted : (names : VisibleNames) (at : ℕ) (word : Form) (ts : List PhraseTree) → word ≢ f.Display → (length ts < 1) ⊎ (2 < length ts)
    → formula_of_kind names at (form word (phrases_of ts)) ≡ Err (WrongCount at)
form_miscounted names at word ts other h =
    let taken : takes word (phrase_count (phrases_of ts)) ≡ false = ap (takes word) (count_is ts) ∙ not_taken word (length ts) other h in
    form_of_others names at word ts other h ∙ ap (λ (b : Bool). Err (if b then NotExecutable at else WrongCount at)) taken

-- `display` of one operand or more
pub display_of_some : (names : VisibleNames) (at : ℕ) (ts : List PhraseTree) → 0 < length ts
    → formula_of_kind names at (form f.Display (phrases_of ts)) ≡ mapped (λ es. display (exprs_of es)) (exprs_in names (phrases_of ts))
display_of_some names at [] h = absurd (omega arith)
display_of_some names at (t ∷ ts) h = refl
