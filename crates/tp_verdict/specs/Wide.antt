-- The wider formulas, which are read over a run that is given, and where they hold. They are the
-- formulas of one interval that can be run, without bound names, inputs and displays; and `or`,
-- `not` and `sometimes` over any of them.
use Rattle.std.specs.Prelude.{◌≡◌, ◌⊎◌, pos, ℕ, suc, ◌+◌, ◌≤◌, ◌<◌, true, false, List, [], ◌∷◌, Some}
use Rattle.tp_value.specs.Tree.{Tree, num, truth}
use Rattle.tp_meaning.specs.Syntax.{ExprTree}
use Rattle.tp_meaning.specs.Course.{Course, Shows, Part, blank}
use Rattle.tp_meaning.specs.Value.{value}
use Rattle.tp_meaning.specs.Holds.{Joined, Chopped, OnEachSuffix, Pieces}

mutual
  pub data WideTree : Type 0 where
    trivial empty more : WideTree
    test len : ExprTree → WideTree
    equation assign : ExprTree → ExprTree → WideTree
    next_equation : (nexts : ℕ) → ExprTree → ExprTree → WideTree
    next if_more if_empty always negation sometimes : WideTree → WideTree
    conjunction : WideTrees → WideTree
    branch : ExprTree → WideTree → WideTree → WideTree
    chop disjunction : WideTree → WideTree → WideTree
    while : ExprTree → WideTree → WideTree

  pub data WideTrees : Type 0 where
    no_formula : WideTrees
    formula_then : WideTree → WideTrees → WideTrees

-- formulas in order
abbrev pub wide_formulas_of : List WideTree → WideTrees
wide_formulas_of [] = no_formula
wide_formulas_of (w ∷ ws) = formula_then w (wide_formulas_of ws)

-- v is the value of e at position j, with no definitions and no bindings. So there is no call, and
-- any depth of calls would do.
abbrev pub HasValue : ExprTree → Course → ℕ → Tree → Type 0
HasValue e s j v = value [] 0 e [] s j ≡ Some v

-- P, whatever is shown
abbrev pub Somehow : Part → ℕ → ℕ → Type 0
Somehow P a b = (T : Shows) × P a b T

-- one of two; nothing is shown
abbrev pub EitherOf : Part → Part → Part
EitherOf P Q a b S = (Somehow P a b ⊎ Somehow Q a b) × (S ≡ blank)

-- not P, whatever would be shown; nothing is
abbrev pub Without : Part → Part
Without P a b S = (Somehow P a b → ⊥) × (S ≡ blank)

-- P on some suffix; nothing is shown
abbrev pub OnSomeSuffix : Part → Part
OnSomeSuffix P a b S = ((i : ℕ) × (a ≤ i) × (i ≤ b) × Somehow P i b) × (S ≡ blank)

abbrev mutual
  -- The formula holds from position a to position b of the course, and shows S.
  pub WideHolds : WideTree → Course → Part
  WideHolds trivial s a b S = S ≡ blank
  WideHolds (test e) s a b S = HasValue e s a (truth true) × (S ≡ blank)
  WideHolds (equation l r) s a b S =
      (v : Tree) × HasValue l s a v × HasValue r s a v × (S ≡ blank)
  WideHolds (next_equation k t e) s a b S =
      (v : Tree) × (k + a ≤ b) × HasValue t s (k + a) v × HasValue e s a v × (S ≡ blank)
  WideHolds empty s a b S = (a ≡ b) × (S ≡ blank)
  WideHolds more s a b S = (a < b) × (S ≡ blank)
  WideHolds (next w) s a b S = (a < b) × WideHolds w s (suc a) b S
  WideHolds (if_more w) s a b S = ((a ≡ b) × (S ≡ blank)) ⊎ ((a < b) × WideHolds w s a b S)
  WideHolds (if_empty w) s a b S = ((a < b) × (S ≡ blank)) ⊎ ((a ≡ b) × WideHolds w s a b S)
  WideHolds (always w) s a b S = OnEachSuffix (WideHolds w s) a b S
  WideHolds (conjunction ws) s a b S = AllHoldWidely ws s a b S
  WideHolds (branch e w v) s a b S =
      (HasValue e s a (truth true) × WideHolds w s a b S)
      ⊎ (HasValue e s a (truth false) × WideHolds v s a b S)
  WideHolds (len e) s a b S = (n : ℕ) × HasValue e s a (num (pos n)) × (n + a ≡ b) × (S ≡ blank)
  WideHolds (assign t e) s a b S = (v : Tree) × HasValue t s b v × HasValue e s a v × (S ≡ blank)
  WideHolds (chop w v) s a b S = Chopped (WideHolds w s) (WideHolds v s) a b S
  WideHolds (while e w) s a b S = (m : ℕ)
      × Pieces (λ _ i j T. (i < j) × HasValue e s i (truth true) × WideHolds w s i j T) m (pos 0)
      a b S
      × HasValue e s b (truth false)
  WideHolds (disjunction w v) s a b S = EitherOf (WideHolds w s) (WideHolds v s) a b S
  WideHolds (negation w) s a b S = Without (WideHolds w s) a b S
  WideHolds (sometimes w) s a b S = OnSomeSuffix (WideHolds w s) a b S

  -- Each formula holds, and their shows are joined in order.
  pub AllHoldWidely : WideTrees → Course → Part
  AllHoldWidely no_formula s a b S = S ≡ blank
  AllHoldWidely (formula_then w ws) s a b S = Joined (WideHolds w s) (AllHoldWidely ws s) a b S

abbrev mutual
  -- the expression is one of those that the formula is made of
  pub IsExprOf : WideTree → ExprTree → Type 0
  IsExprOf trivial x = ⊥
  IsExprOf (test e) x = e ≡ x
  IsExprOf (equation l r) x = (l ≡ x) ⊎ (r ≡ x)
  IsExprOf (next_equation k t e) x = (t ≡ x) ⊎ (e ≡ x)
  IsExprOf empty x = ⊥
  IsExprOf more x = ⊥
  IsExprOf (next w) x = IsExprOf w x
  IsExprOf (if_more w) x = IsExprOf w x
  IsExprOf (if_empty w) x = IsExprOf w x
  IsExprOf (always w) x = IsExprOf w x
  IsExprOf (conjunction ws) x = IsExprOfSome ws x
  IsExprOf (branch e w v) x = (e ≡ x) ⊎ (IsExprOf w x ⊎ IsExprOf v x)
  IsExprOf (len e) x = e ≡ x
  IsExprOf (assign t e) x = (t ≡ x) ⊎ (e ≡ x)
  IsExprOf (chop w v) x = IsExprOf w x ⊎ IsExprOf v x
  IsExprOf (while e w) x = (e ≡ x) ⊎ IsExprOf w x
  IsExprOf (disjunction w v) x = IsExprOf w x ⊎ IsExprOf v x
  IsExprOf (negation w) x = IsExprOf w x
  IsExprOf (sometimes w) x = IsExprOf w x

  pub IsExprOfSome : WideTrees → ExprTree → Type 0
  IsExprOfSome no_formula x = ⊥
  IsExprOfSome (formula_then w ws) x = IsExprOf w x ⊎ IsExprOfSome ws x
