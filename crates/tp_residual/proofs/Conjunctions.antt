-- A conjunction as the code takes it: by how many operands it has.
use Rattle.std.proofs.Common.{◌≡◌, ℕ, ◌≤◌, ◌<◌, List, [], ◌∷◌, ◌++◌, map, length, get_or, refl, ap, sym, ◌∙◌, codes, arith}
use Rattle.std.specs.declared.rc.Rc.{Rc}
use Rattle.std.specs.declared.alloc.Global.{Global}
use Rattle.tp_tree.specs.Levels.{not_level}
use Rattle.tp_meaning.specs.Syntax.{exprs_of, formulas_of}
use Rattle.tp_kernel.specs.declared.formula.Expr.{Expr}
use Rattle.tp_kernel.specs.declared.formula.Exprs.{Exprs}
use Rattle.tp_kernel.specs.declared.formula.Formula.{Formula}
use Rattle.tp_kernel.specs.declared.formula.Formulas.{Formulas}
use Rattle.tp_kernel.specs.Read.{expr_tree, expr_trees, formula_tree, formula_trees}
use Rattle.tp_kernel.specs.Equations.{expr_trees_is, formula_trees_is}
use Rattle.tp_residual.specs.Phrases.{Vocabulary}
use Rattle.tp_residual.specs.Parts.{expr_level, exprs_level, expr_spelling, exprs_spelling, all_exprs_spelling, formula_level, formulas_level, formula_spelling, formulas_spelling, all_formulas_spelling}

pub only_item : {A : Type 0} (xs : List A) (x : A) → 1 ≤ length xs → length xs < 2 → x ≡ get_or xs 0 x → xs ≡ x ∷ []
only_item [] x a b e = absurd (omega arith)
only_item (y ∷ []) x a b e = ap (λ z. z ∷ []) (sym e)
only_item (y ∷ z ∷ xs) x a b e = absurd (omega arith)

-- one operand is the conjunction
pub one_expr : (v : Vocabulary) (es : Exprs) (xs : List Expr) (x : Expr) → xs ≡ es.items.items → xs ≡ x ∷ [] → all_exprs_spelling v (expr_trees es) ≡ expr_spelling v (expr_tree x)
one_expr v es xs x e f = ap (all_exprs_spelling v) (expr_trees_is es) ∙ ap (λ xs. all_exprs_spelling v (exprs_of (map expr_tree xs))) (sym e ∙ f)

pub one_formula : (v : Vocabulary) (ws : Formulas) (xs : List (Rc Formula Global)) (x : Rc Formula Global) → xs ≡ ws.items.items → xs ≡ x ∷ [] → all_formulas_spelling v (formula_trees ws) ≡ formula_spelling v (formula_tree x.value)
one_formula v ws xs x e f = ap (all_formulas_spelling v) (formula_trees_is ws) ∙ ap (λ (xs : List (Rc Formula Global)). all_formulas_spelling v (formulas_of (map (λ w. formula_tree w.value) xs))) (sym e ∙ f)

listed_exprs : (v : Vocabulary) (xs : List Expr) → 2 ≤ length xs → exprs_spelling v [] (codes " and ") not_level (exprs_of (map expr_tree xs)) ≡ all_exprs_spelling v (exprs_of (map expr_tree xs))
listed_exprs v [] l = absurd (omega (arith, l))
listed_exprs v (x ∷ []) l = absurd (omega (arith, l))
listed_exprs v (x ∷ y ∷ xs) l = refl

listed_formulas : (v : Vocabulary) (xs : List (Rc Formula Global)) → 2 ≤ length xs → formulas_spelling v [] (formulas_of (map (λ w. formula_tree w.value) xs)) ≡ all_formulas_spelling v (formulas_of (map (λ w. formula_tree w.value) xs))
listed_formulas v [] l = absurd (omega (arith, l))
listed_formulas v (x ∷ []) l = absurd (omega (arith, l))
listed_formulas v (x ∷ y ∷ xs) l = refl

level_of_exprs : (v : Vocabulary) (xs : List Expr) → 2 ≤ length xs → 7 ≡ exprs_level v (exprs_of (map expr_tree xs))
level_of_exprs v [] l = absurd (omega (arith, l))
level_of_exprs v (x ∷ []) l = absurd (omega (arith, l))
level_of_exprs v (x ∷ y ∷ xs) l = refl

level_of_formulas : (v : Vocabulary) (xs : List (Rc Formula Global)) → 2 ≤ length xs → 7 ≡ formulas_level v (formulas_of (map (λ w. formula_tree w.value) xs))
level_of_formulas v [] l = absurd (omega (arith, l))
level_of_formulas v (x ∷ []) l = absurd (omega (arith, l))
level_of_formulas v (x ∷ y ∷ xs) l = refl

-- two or more are listed
pub several_exprs : (v : Vocabulary) (es : Exprs) → 2 ≤ length es.items.items → exprs_spelling v [] (codes " and ") not_level (expr_trees es) ≡ all_exprs_spelling v (expr_trees es)
several_exprs v es l = ap (exprs_spelling v [] (codes " and ") not_level) (expr_trees_is es) ∙ (listed_exprs v es.items.items l ∙ ap (all_exprs_spelling v) (sym (expr_trees_is es)))

pub several_formulas : (v : Vocabulary) (ws : Formulas) → 2 ≤ length ws.items.items → formulas_spelling v [] (formula_trees ws) ≡ all_formulas_spelling v (formula_trees ws)
several_formulas v ws l = ap (formulas_spelling v []) (formula_trees_is ws) ∙ (listed_formulas v ws.items.items l ∙ ap (all_formulas_spelling v) (sym (formula_trees_is ws)))

pub exprs_level_is : (v : Vocabulary) (es : Exprs) → 2 ≤ length es.items.items → 7 ≡ exprs_level v (expr_trees es)
exprs_level_is v es l = level_of_exprs v es.items.items l ∙ ap (exprs_level v) (sym (expr_trees_is es))

pub formulas_level_is : (v : Vocabulary) (ws : Formulas) → 2 ≤ length ws.items.items → 7 ≡ formulas_level v (formula_trees ws)
formulas_level_is v ws l = level_of_formulas v ws.items.items l ∙ ap (formulas_level v) (sym (formula_trees_is ws))

pub one_expr_level : (v : Vocabulary) (es : Exprs) (xs : List Expr) (x : Expr) → xs ≡ es.items.items → xs ≡ x ∷ [] → expr_level v (expr_tree x) ≡ exprs_level v (expr_trees es)
one_expr_level v es xs x e f = sym (ap (exprs_level v) (expr_trees_is es) ∙ ap (λ xs. exprs_level v (exprs_of (map expr_tree xs))) (sym e ∙ f))

pub one_formula_level : (v : Vocabulary) (ws : Formulas) (xs : List (Rc Formula Global)) (x : Rc Formula Global) → xs ≡ ws.items.items → xs ≡ x ∷ [] → formula_level v (formula_tree x.value) ≡ formulas_level v (formula_trees ws)
one_formula_level v ws xs x e f = sym (ap (formulas_level v) (formula_trees_is ws) ∙ ap (λ (xs : List (Rc Formula Global)). formulas_level v (formulas_of (map (λ w. formula_tree w.value) xs))) (sym e ∙ f))

-- the same, of what was written
pub one_formula_written : (out new : List ℕ) (v : Vocabulary) (ws : Formulas) (xs : List (Rc Formula Global)) (x : Rc Formula Global) (d : Formula) → xs ≡ ws.items.items → xs ≡ x ∷ [] → d ≡ x.value
    → new ≡ out ++ formula_spelling v (formula_tree d) → new ≡ out ++ all_formulas_spelling v (formula_trees ws)
one_formula_written out new v ws xs x d e f same g = g ∙ (ap (λ (h : Formula). out ++ formula_spelling v (formula_tree h)) same ∙ ap (λ text. out ++ text) (sym (one_formula v ws xs x e f)))

pub several_formulas_written : (out new : List ℕ) (v : Vocabulary) (ws : Formulas) → 2 ≤ length ws.items.items → new ≡ out ++ formulas_spelling v [] (formula_trees ws) → new ≡ out ++ all_formulas_spelling v (formula_trees ws)
several_formulas_written out new v ws l g = g ∙ ap (λ text. out ++ text) (several_formulas v ws l)

pub formulas_to_write : (out opening : List ℕ) (v : Vocabulary) (ws : Formulas) (xs : List (Rc Formula Global)) → opening ≡ [] → xs ≡ ws.items.items
    → out ++ formulas_spelling v opening (formulas_of (map (λ w. formula_tree w.value) xs)) ≡ out ++ formulas_spelling v [] (formula_trees ws)
formulas_to_write out opening v ws xs d e =
    ap (λ o. out ++ formulas_spelling v o (formulas_of (map (λ w. formula_tree w.value) xs))) d
    ∙ (ap (λ (ys : List (Rc Formula Global)). out ++ formulas_spelling v [] (formulas_of (map (λ w. formula_tree w.value) ys))) e ∙ ap (λ ts. out ++ formulas_spelling v [] ts) (sym (formula_trees_is ws)))
