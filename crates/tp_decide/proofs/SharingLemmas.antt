-- Equations of two places, by their shapes and item by item.
use Rattle.std.proofs.Common.{◌≡◌, ℕ, zero, suc, pos, ◌+◌, Bool, true, false, ◌||◌, Option, Some, List, [], ◌∷◌, ◌++◌, map, length, refl, ap, ap₂, sym, ◌∙◌, arith, if◌then◌else◌}
use Rattle.std.proofs.lemmas.List.{map-append}
use Rattle.tp_value.specs.declared.path.Fact.{Fact}
use Rattle.tp_value.specs.declared.path.Path.{Path}
use Rattle.tp_value.specs.declared.value.Shape.{Shape}
use Rattle.tp_value.specs.declared.value.Shape.TheVariants.{Num, Truth, Items}
use Rattle.tp_kernel.specs.declared.fault.FaultKind.TheVariants.{NoElement}
use Rattle.tp_meaning.specs.Syntax.{FormulaTree, FormulaTrees, no_formula, formula_then, equation, index, bound, numeral}
use Rattle.tp_store.specs.Facts.{fact, kept_shape, is_excluded}
use Rattle.tp_store.specs.FactMap.{IsNumberOrTruth}
use Rattle.tp_store.specs.Known.{NoClash, addition, adds}
use Rattle.tp_eval.proofs.Kept.{kept_not_excluded}
use Rattle.tp_scene.specs.declared.answer.Clash.TheVariants.{NoValue}
use Rattle.tp_scene.specs.Scene as S
use Rattle.tp_scene.specs.Step as row
use Rattle.tp_decide.specs.declared.decision.Leaf.{Leaf}
use Rattle.tp_decide.specs.Decided.{plain_leaf, news_entries}
use Rattle.tp_decide.proofs.KnownLemmas.{shape_adds_nothing}

-- the equation of the items with this index
abbrev pub item_equation : ℕ → FormulaTree
item_equation i = equation (index (bound 0) (numeral (pos i))) (index (bound 1) (numeral (pos i)))

module _ (env : S.Bindings) where
  abbrev pub leaves : FormulaTrees → List S.Leaf
  leaves no_formula = []
  leaves (formula_then f fs) = S.Do f env ∷ leaves fs

  heads : (l m : S.Leaf) (ls ms : List S.Leaf) → l ∷ ls ≡ m ∷ ms → (l ≡ m) × (ls ≡ ms)
  heads l m ls ms e = (cc e, cc e)

  pub entries_are : (ls : List Leaf) (fs : FormulaTrees) (number : ℕ → ℕ) (k : ℕ) → map plain_leaf ls ≡ leaves fs → news_entries ls number k ≡ row.all_do fs env number k
  entries_are [] no_formula number k h = refl
  entries_are [] (formula_then f fs) number k h = absurd (cc h)
  entries_are (l ∷ ls) no_formula number k h = absurd (cc h)
  entries_are (l ∷ ls) (formula_then f fs) number k h =
      let both = heads (plain_leaf l) (S.Do f env) (map plain_leaf ls) (leaves fs) h in
      ap₂ (λ x rest. S.leaf (number k) x rest) both.0 (entries_are ls fs number (suc k) both.1)

  pub count_is : (ls : List Leaf) (fs : FormulaTrees) → map plain_leaf ls ≡ leaves fs → length ls ≡ row.count_of fs
  count_is [] no_formula h = refl
  count_is [] (formula_then f fs) h = absurd (cc h)
  count_is (l ∷ ls) no_formula h = absurd (cc h)
  count_is (l ∷ ls) (formula_then f fs) h = ap suc (count_is ls fs (heads (plain_leaf l) (S.Do f env) (map plain_leaf ls) (leaves fs) h).1)

  -- the last item's equation
  last_item : (m i j : ℕ) → i + m ≡ j → leaves (row.item_equations (suc m) i) ≡ leaves (row.item_equations m i) ++ S.Do (item_equation j) env ∷ []
  last_item zero i j h = let n : i ≡ j = omega (arith, h) in ap (λ k. S.Do (item_equation k) env ∷ []) n
  last_item (suc m) i j h = ap (λ ls. S.Do (item_equation i) env ∷ ls) (last_item m (suc i) j (omega (arith, h)))

  pub one_more_item : (ls new : List Leaf) (l : Leaf) (m : ℕ) → new ≡ ls ++ l ∷ [] → plain_leaf l ≡ S.Do (item_equation m) env → map plain_leaf ls ≡ leaves (row.item_equations m 0) → map plain_leaf new ≡ leaves (row.item_equations (m + 1) 0)
  one_more_item ls new l m made is inv =
      let n : suc m ≡ m + 1 = omega arith in
      ap (map plain_leaf) made ∙ map-append plain_leaf ls (l ∷ []) ∙ ap₂ (λ (xs : List S.Leaf) x. xs ++ x ∷ []) inv is ∙ sym (last_item m 0 m (omega arith)) ∙ ap (λ k. leaves (row.item_equations k 0)) n

-- two places, of which the right one has this shape
module _ (facts : List Fact) (apart : NoClash facts) (p q : Path) (sh : Shape) (right : kept_shape facts q ≡ Some sh) (n : row.Numbers) where
  abbrev by_left : Bool → row.PickOutcome
  by_left b = if b then row.clashes (NoValue NoElement) else row.shares p q sh n (addition facts (fact p sh ∷ []))

  pub left_decides : (b : Bool) → is_excluded facts p ≡ b → by_left b ≡ row.equate_places facts p q n
  left_decides b e =
      ap by_left (sym e)
      ∙ sym (ap₂ (λ (out : Bool) (o : Option Shape). if out || is_excluded facts p then row.clashes (NoValue NoElement) else row.by_shapes facts p q n o (kept_shape facts p))
      (kept_not_excluded facts q sh apart right) right)

  nothing_shared : IsNumberOrTruth (Some sh) → row.vanishes ≡ row.shares p q sh n (adds [])
  nothing_shared h = by sh h
    where
      by : (s : Shape) → IsNumberOrTruth (Some s) → row.vanishes ≡ row.shares p q s n (adds [])
      by (Num m) k = refl
      by (Truth b) k = refl
      by (Items m) k = absurd k

  pub known_by_both : IsNumberOrTruth (Some sh) → kept_shape facts p ≡ Some sh → row.vanishes ≡ row.equate_places facts p q n
  known_by_both plain left =
      nothing_shared plain ∙ ap (row.shares p q sh n) (sym (shape_adds_nothing facts apart p sh left))
      ∙ left_decides false (kept_not_excluded facts p sh apart left)
