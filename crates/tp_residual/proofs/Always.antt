-- `next` some times, and what stands in each state.
use Rattle.std.proofs.Common.{◌≡◌, ℕ, zero, suc, ◌+◌, List, ◌++◌, refl, ap, sym, ◌∙◌, subst, codes, arith}
use Rattle.std.proofs.lemmas.List.{append_assoc, append-nil}
use Rattle.std.specs.declared.rc.Rc.{Rc}
use Rattle.std.specs.declared.alloc.Global.{Global}
use Rattle.tp_meaning.specs.Syntax.{ExprTree, FormulaTree, next_equation, if_more, if_empty, always}
use Rattle.tp_kernel.specs.declared.formula.Formula.{Formula}
use Rattle.tp_kernel.specs.declared.formula.Formula.TheVariants as formula
use Rattle.tp_kernel.specs.declared.formula.Formula.TheOpen.{Formula-F}
use Rattle.tp_kernel.specs.declared.formula.Formula.TheViews.{out-Formula, roll-Formula, roll-out-Formula}
use Rattle.tp_kernel.specs.declared.formula.Formulas.{Formulas}
use Rattle.tp_kernel.specs.Read.{formula_tree}
use Rattle.tp_kernel.specs.Equations.{formula_true, formula_test, formula_eq, formula_next_eq, formula_empty, formula_more, formula_next, formula_weak_next, formula_if_more, formula_if_empty, formula_always, formula_and, formula_if, formula_len, formula_assign, formula_chop, formula_while, formula_for, formula_forall, formula_proj, formula_exists, formula_call, formula_input, formula_display}
use Rattle.tp_tree.specs.declared.operator.Op.{Op}
use Rattle.tp_tree.specs.declared.operator.Op.TheVariants as op
use Rattle.tp_tree.specs.Tree.{KindTree, PhraseTree, number, binary}
use Rattle.tp_tree.specs.Levels.{prefix_level, sum_level, any_level}
use Rattle.tp_tree.specs.Spelling.{kind_spelling, operand_spelling}
use Rattle.tp_tree.specs.SpellingParts.{called_spelling}
use Rattle.tp_residual.specs.Phrases.{Vocabulary, placeless, sole, nexts_kind, expr_kind, formula_kind}
use Rattle.tp_residual.specs.Parts.{called_with, operand_expr, formula_spelling, nexts_spelling}

-- no level is higher
bare_binary : (o : Op) (p q : PhraseTree) → operand_spelling any_level (placeless (binary o p q)) ≡ kind_spelling (binary o p q)
bare_binary op.Chop p q = refl
bare_binary o p q = refl

pub bare_operand : (k : KindTree) → operand_spelling any_level (placeless k) ≡ kind_spelling k
bare_operand (binary o p q) = bare_binary o p q
bare_operand (number n) = refl
bare_operand k = refl

-- a form or a call of one operand
pub called_sole : (word : List ℕ) (k : KindTree) → called_spelling word (sole k) ≡ called_with word (kind_spelling k)
called_sole word k = ap (λ text. word ++ codes "(" ++ text ++ codes ")") (append-nil (operand_spelling any_level (placeless k)) ∙ bare_operand k)

-- an equation under `next`
under_next : (n : ℕ) (k : KindTree) → operand_spelling prefix_level (placeless (nexts_kind n k)) ≡ nexts_spelling n ++ operand_spelling prefix_level (placeless k)
under_next zero k = refl
under_next (suc n) k = ap (λ text. codes "next " ++ text) (under_next n k)

pub left_of_equation : (n : ℕ) (k : KindTree) → (n ≡ 0 → ⊥) → operand_spelling sum_level (placeless (nexts_kind n k)) ≡ nexts_spelling n ++ operand_spelling prefix_level (placeless k)
left_of_equation zero k l = absurd (l refl)
left_of_equation (suc n) k l = ap (λ text. codes "next " ++ text) (under_next n k)

pub next_equation_written : (out a b new : List ℕ) (v : Vocabulary) (n : ℕ) (t e : ExprTree) → (n ≡ 0 → ⊥) → a ≡ out ++ nexts_spelling n → b ≡ a ++ operand_expr v prefix_level t → new ≡ b ++ (codes " = " ++ operand_expr v sum_level e)
    → new ≡ out ++ formula_spelling v (next_equation n t e)
next_equation_written out a b new v n t e l x y z =
    let pieces : (p q r s : List ℕ) → p ++ q ++ r ++ (codes " = " ++ s) ≡ p ++ (q ++ r ++ codes " " ++ codes "=" ++ codes " " ++ s) = λ p q r s. simp append_assoc in
    z ∙ ap (λ text. text ++ (codes " = " ++ operand_expr v sum_level e)) (y ∙ ap (λ text. text ++ operand_expr v prefix_level t) x)
    ∙ pieces out (nexts_spelling n) (operand_expr v prefix_level t) (operand_expr v sum_level e)
    ∙ ap (λ text. out ++ (text ++ codes " " ++ codes "=" ++ codes " " ++ operand_expr v sum_level e)) (sym (left_of_equation n (expr_kind v t) l))

next_more : (n : ℕ) → nexts_spelling n ++ codes "next " ≡ nexts_spelling (n + 1)
next_more zero = refl
next_more (suc n) =
    let m : suc (n + 1) ≡ suc n + 1 = omega arith in
    append_assoc (codes "next ") (nexts_spelling n) (codes "next ") ∙ (ap (λ xs. codes "next " ++ xs) (next_more n) ∙ ap nexts_spelling m)

pub next_written : (begin out new : List ℕ) (n : ℕ) → out ≡ begin ++ nexts_spelling n → new ≡ out ++ codes "next " → new ≡ begin ++ nexts_spelling (n + 1)
next_written begin out new n e f = f ∙ (ap (λ xs. xs ++ codes "next ") e ∙ (append_assoc begin (nexts_spelling n) (codes "next ") ∙ ap (λ xs. begin ++ xs) (next_more n)))

pub keep_written : (out new : List ℕ) (v : Vocabulary) (f : Formula) (w : Rc Formula Global) (d : Formula) → f ≡ formula.IfMore w → d ≡ w.value → new ≡ out ++ (codes "keep(" ++ formula_spelling v (formula_tree d) ++ codes ")")
    → new ≡ out ++ formula_spelling v (always (formula_tree f))
keep_written out new v f w d is same e = e ∙ ap (λ (g : Formula). out ++ (codes "keep(" ++ formula_spelling v (formula_tree g) ++ codes ")")) same
    ∙ ap (λ text. out ++ text) (sym (called_sole (codes "keep") (formula_kind v (formula_tree w.value))))
    ∙ ap (λ t. out ++ formula_spelling v (always t)) (sym (ap formula_tree is ∙ formula_if_more w))

pub fin_written : (out new : List ℕ) (v : Vocabulary) (f : Formula) (w : Rc Formula Global) (d : Formula) → f ≡ formula.IfEmpty w → d ≡ w.value → new ≡ out ++ (codes "fin(" ++ formula_spelling v (formula_tree d) ++ codes ")")
    → new ≡ out ++ formula_spelling v (always (formula_tree f))
fin_written out new v f w d is same e = e ∙ ap (λ (g : Formula). out ++ (codes "fin(" ++ formula_spelling v (formula_tree g) ++ codes ")")) same
    ∙ ap (λ text. out ++ text) (sym (called_sole (codes "fin") (formula_kind v (formula_tree w.value))))
    ∙ ap (λ t. out ++ formula_spelling v (always t)) (sym (ap formula_tree is ∙ formula_if_empty w))

-- none of the two formulas whose `always` has a word of its own
abbrev IsOther : FormulaTree → Type 0
IsOther (if_more w) = ⊥
IsOther (if_empty w) = ⊥
IsOther w = Unit {0}

other_always : (v : Vocabulary) (w : FormulaTree) → IsOther w → formula_spelling v (always w) ≡ codes "always(" ++ formula_spelling v w ++ codes ")"
other_always v (if_more w) o = absurd o
other_always v (if_empty w) o = absurd o
other_always v w o = called_sole (codes "always") (formula_kind v w)

by_layer : (f : Formula) → ((w : Rc Formula Global) → f ≡ formula.IfMore w → ⊥) → ((w : Rc Formula Global) → f ≡ formula.IfEmpty w → ⊥) → (x : Formula-F Formula Formulas) → f ≡ roll-Formula x → IsOther (formula_tree f)
by_layer f m n Formula-F.True is = subst IsOther (sym (ap formula_tree (is ∙ formula.rolls-True) ∙ formula_true)) tt
by_layer f m n (Formula-F.Test e) is = subst IsOther (sym (ap formula_tree (is ∙ formula.rolls-Test e) ∙ formula_test e)) tt
by_layer f m n (Formula-F.Eq a b) is = subst IsOther (sym (ap formula_tree (is ∙ formula.rolls-Eq a b) ∙ formula_eq a b)) tt
by_layer f m n (Formula-F.NextEq k a b) is = subst IsOther (sym (ap formula_tree (is ∙ formula.rolls-NextEq k a b) ∙ formula_next_eq k a b)) tt
by_layer f m n Formula-F.Empty is = subst IsOther (sym (ap formula_tree (is ∙ formula.rolls-Empty) ∙ formula_empty)) tt
by_layer f m n Formula-F.More is = subst IsOther (sym (ap formula_tree (is ∙ formula.rolls-More) ∙ formula_more)) tt
by_layer f m n (Formula-F.Next w) is = subst IsOther (sym (ap formula_tree (is ∙ formula.rolls-Next w) ∙ formula_next w)) tt
by_layer f m n (Formula-F.WeakNext w) is = subst IsOther (sym (ap formula_tree (is ∙ formula.rolls-WeakNext w) ∙ formula_weak_next w)) tt
by_layer f m n (Formula-F.IfMore w) is = absurd (m w (is ∙ formula.rolls-IfMore w))
by_layer f m n (Formula-F.IfEmpty w) is = absurd (n w (is ∙ formula.rolls-IfEmpty w))
by_layer f m n (Formula-F.Always w) is = subst IsOther (sym (ap formula_tree (is ∙ formula.rolls-Always w) ∙ formula_always w)) tt
by_layer f m n (Formula-F.And ws) is = subst IsOther (sym (ap formula_tree (is ∙ formula.rolls-And ws) ∙ formula_and ws)) tt
by_layer f m n (Formula-F.If b w v) is = subst IsOther (sym (ap formula_tree (is ∙ formula.rolls-If b w v) ∙ formula_if b w v)) tt
by_layer f m n (Formula-F.Len e) is = subst IsOther (sym (ap formula_tree (is ∙ formula.rolls-Len e) ∙ formula_len e)) tt
by_layer f m n (Formula-F.Assign t e) is = subst IsOther (sym (ap formula_tree (is ∙ formula.rolls-Assign t e) ∙ formula_assign t e)) tt
by_layer f m n (Formula-F.Chop w v) is = subst IsOther (sym (ap formula_tree (is ∙ formula.rolls-Chop w v) ∙ formula_chop w v)) tt
by_layer f m n (Formula-F.While b w) is = subst IsOther (sym (ap formula_tree (is ∙ formula.rolls-While b w) ∙ formula_while b w)) tt
by_layer f m n (Formula-F.For x k e w) is = subst IsOther (sym (ap formula_tree (is ∙ formula.rolls-For x k e w) ∙ formula_for x k e w)) tt
by_layer f m n (Formula-F.Forall x k e w) is = subst IsOther (sym (ap formula_tree (is ∙ formula.rolls-Forall x k e w) ∙ formula_forall x k e w)) tt
by_layer f m n (Formula-F.Proj w v) is = subst IsOther (sym (ap formula_tree (is ∙ formula.rolls-Proj w v) ∙ formula_proj w v)) tt
by_layer f m n (Formula-F.Exists x lasting w) is = subst IsOther (sym (ap formula_tree (is ∙ formula.rolls-Exists x lasting w) ∙ formula_exists x lasting w)) tt
by_layer f m n (Formula-F.Call p es) is = subst IsOther (sym (ap formula_tree (is ∙ formula.rolls-Call p es) ∙ formula_call p es)) tt
by_layer f m n (Formula-F.Input x port) is = subst IsOther (sym (ap formula_tree (is ∙ formula.rolls-Input x port) ∙ formula_input x port)) tt
by_layer f m n (Formula-F.Display es) is = subst IsOther (sym (ap formula_tree (is ∙ formula.rolls-Display es) ∙ formula_display es)) tt

pub always_written : (out new : List ℕ) (v : Vocabulary) (f : Formula) → ((w : Rc Formula Global) → f ≡ formula.IfMore w → ⊥) → ((w : Rc Formula Global) → f ≡ formula.IfEmpty w → ⊥)
    → new ≡ out ++ (codes "always(" ++ formula_spelling v (formula_tree f) ++ codes ")") → new ≡ out ++ formula_spelling v (always (formula_tree f))
always_written out new v f m n e = e ∙ ap (λ text. out ++ text) (sym (other_always v (formula_tree f) (by_layer f m n (out-Formula f) (sym (roll-out-Formula f)))))
