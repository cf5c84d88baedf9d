-- Rows, by what new items stand for.
use Rattle.std.proofs.Common.{◌≡◌, ℕ, suc, List, [], ◌∷◌, map, length, refl, ap, ap₂}
use Rattle.std.specs.declared.rc.Rc.{Rc}
use Rattle.std.specs.declared.alloc.Global.{Global}
use Rattle.tp_kernel.specs.declared.formula.Formula.{Formula}
use Rattle.tp_kernel.specs.Read.{formula_tree}
use Rattle.tp_meaning.specs.Syntax.{formulas_of}
use Rattle.tp_scene.specs.Scene as S
use Rattle.tp_scene.specs.Step.{all_do, count_of}
use Rattle.tp_decide.specs.declared.decision.Leaf.{Leaf}
use Rattle.tp_decide.specs.Decided.{plain_leaf, news_entries}

-- the operands of a conjunction as items
module _ (env : S.Bindings) where
  abbrev pub due_of : Rc Formula Global → S.Leaf
  due_of w = S.Do (formula_tree w.value) env

  pub operands_are : (ls : List Leaf) (ws : List (Rc Formula Global)) (number : ℕ → ℕ) (k : ℕ) → map plain_leaf ls ≡ map due_of ws → news_entries ls number k ≡ all_do (formulas_of (map (λ w. formula_tree w.value) ws)) env number k
  operands_are [] [] number k h = refl
  operands_are [] (w ∷ ws) number k h = cc
  operands_are (l ∷ ls) [] number k h = cc
  operands_are (l ∷ ls) (w ∷ ws) number k h = ap₂ (λ x rest. S.leaf (number k) x rest) (first h) (operands_are ls ws number (suc k) (others h))
    where
      first : plain_leaf l ∷ map plain_leaf ls ≡ due_of w ∷ map due_of ws → plain_leaf l ≡ due_of w
      first e = cc

      others : plain_leaf l ∷ map plain_leaf ls ≡ due_of w ∷ map due_of ws → map plain_leaf ls ≡ map due_of ws
      others e = cc

  pub count_is : (ls : List Leaf) (ws : List (Rc Formula Global)) → map plain_leaf ls ≡ map due_of ws → length ls ≡ count_of (formulas_of (map (λ w. formula_tree w.value) ws))
  count_is [] [] h = refl
  count_is [] (w ∷ ws) h = cc
  count_is (l ∷ ls) [] h = cc
  count_is (l ∷ ls) (w ∷ ws) h = ap suc (count_is ls ws cc)
