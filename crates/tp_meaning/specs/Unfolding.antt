-- How formulas unfold, one turn or one state at a time.
use Rattle.std.specs.Prelude.{◌≡◌, ℤ, pos, ◌+ℤ◌, ◌≤ℤ◌, ◌<ℤ◌, ℕ, zero, suc, ◌≤◌, ◌<◌, List, [], ◌∷◌, ◌++◌, Some, ◌↔◌}
use Rattle.tp_value.specs.Tree.{Tree, num}
use Rattle.tp_meaning.specs.Syntax.{ExprTree, known, numeral, FormulaTree, equation, next_equation, empty, more, next, weak_next, always, conjunction, branch, len, assign, chop, while, for_from, forall_from, project, input, formulas_of}
use Rattle.tp_meaning.specs.Course.{Part, Course, Shows, blank, ◌⊕◌, shown_at, woven, Rising}
use Rattle.tp_meaning.specs.Value.{Env, fixed}
use Rattle.tp_meaning.specs.Inputs.{input_at}
use Rattle.tp_meaning.specs.Holds.{Context, Holds, Joined, Chopped, Projected, env_at_cuts}
use Rattle.tp_meaning.specs.Derived.{fin_of}
use Rattle.tp_meaning.specs.Nexts.{nexts}
use Rattle.tp_meaning.specs.Direct.{DirectMeaning, Means, ValueIs}

-- what f says
abbrev pub SaidBy : FormulaTree → DirectMeaning
SaidBy f w d env s a b S = Holds w d f env s a b S

-- always(f): f now, and always(f) from the next state on
abbrev pub AlwaysUnfolds : Type 0
AlwaysUnfolds =
    (f : FormulaTree) → Means (always f)
    (SaidBy (conjunction (formulas_of (f ∷ weak_next (always f) ∷ []))))

-- a loop: where e is true, a turn of length 1 or more and then the loop again; else the end
abbrev pub WhileUnfolds : Type 0
WhileUnfolds =
    (e : ExprTree) (f : FormulaTree)
    → Means (while e f) (SaidBy
    (branch e (chop (conjunction (formulas_of (f ∷ more ∷ []))) (while e f)) empty))

-- The formula says what M says wherever e has the value v in the first state.
abbrev pub MeansWhere : FormulaTree → ExprTree → Tree → DirectMeaning → Type 0
MeansWhere f e v M =
    (w : Context) (d : ℕ) (env : Env) (s : Course) (a b : ℕ) (S : Shows) → a ≤ b
    → ValueIs w d env s e a v → Holds w d f env s a b S ↔ M w d env s a b S

-- what f says with the number k bound last
abbrev pub SaidWith : ℤ → FormulaTree → DirectMeaning
SaidWith k f w d env s a b S = Holds w d f (env ++ fixed (num k) ∷ []) s a b S

-- a loop of turns numbered from k to below n: the turn k, and then the loop from k + 1 on
pub record ForUnfolds (name : List ℕ) (k : ℤ) (e : ExprTree) (f : FormulaTree)
    (n : ℤ) : Type 0 where
  pub ends : n ≤ℤ k → MeansWhere (for_from name k e f) e (num n) (SaidBy empty)
  pub turns : k <ℤ n → MeansWhere (for_from name k e f) e (num n)
      (λ w d env s. Chopped (SaidWith k f w d env s)
      (SaidBy (for_from name (k +ℤ pos 1) (numeral n) f) w d env s))

-- the instances numbered from k to below n: that of k, and those from k + 1 on
pub record ForallUnfolds (name : List ℕ) (k : ℤ) (e : ExprTree) (f : FormulaTree)
    (n : ℤ) : Type 0 where
  pub ends : n ≤ℤ k → MeansWhere (forall_from name k e f) e (num n) (λ w d env s a b S. S ≡ blank)
  pub goes : k <ℤ n → MeansWhere (forall_from name k e f) e (num n)
      (λ w d env s. Joined (SaidWith k f w d env s)
      (SaidBy (forall_from name (k +ℤ pos 1) (numeral n) f) w d env s))

-- a length of 0, and one of k + 1
pub record LenUnfolds (e : ExprTree) : Type 0 where
  pub ends : MeansWhere (len e) e (num (pos 0)) (SaidBy empty)
  pub goes : (k : ℕ) → MeansWhere (len e) e (num (pos (suc k)))
      (SaidBy (next (len (numeral (pos k)))))

-- t has the value v of e in the n-th state from now
abbrev pub NextEquationUnfolds : Type 0
NextEquationUnfolds =
    (n : ℕ) (t e : ExprTree) (v : Tree)
    → MeansWhere (next_equation n t e) e v (SaidBy (nexts n (equation t (known v))))

-- t has the value v of e in the last state
abbrev pub AssignUnfolds : Type 0
AssignUnfolds =
    (t e : ExprTree) (v : Tree)
    → MeansWhere (assign t e) e v (SaidBy (fin_of (equation t (known v))))

-- an input is an equation with the value that the table has for the state's own number
abbrev pub InputUnfolds : Type 0
InputUnfolds =
    (x : ExprTree) (port : List ℕ) (v : Tree) (w : Context) (d : ℕ) (env : Env) (s : Course)
    (a b : ℕ) (S : Shows) →
    input_at w.inputs (s a).own port ≡ Some v → Holds w d (input x port) env s a b S
    ↔ Holds w d (equation x (known v)) env s a b S

-- A projection on one state says what the outer formula says there.
abbrev pub ProjectEnds : Type 0
ProjectEnds =
    (f g : FormulaTree) (w : Context) (d : ℕ) (env : Env) (s : Course) (a : ℕ) (S : Shows) →
    Holds w d (project f g) env s a a S ↔ Holds w d g env s a a S

-- On more than one state it has a first piece, of length 1 or more, and then others.
abbrev pub ProjectRuns : FormulaTree → FormulaTree → DirectMeaning
ProjectRuns f g w d env s a b S =
    (c : ℕ → ℕ) × (m : ℕ) × (V : Shows) × (T : ℕ → Shows)
    × Rising c × (c 0 ≡ a) × (c (suc m) ≡ b)
    × Holds w d f env s (c 0) (c 1) (T 0)
    × ((j : ℕ) → 0 < j → j < suc m → Holds w d f env s (c j) (c (suc j)) (T j))
    × Holds w d g (env_at_cuts c env) (λ k. s (c k)) 0 (suc m) V × (S ≡ woven (suc m) 0 c V T)

abbrev pub ProjectGoes : Type 0
ProjectGoes =
    (f g : FormulaTree) (w : Context) (d : ℕ) (env : Env) (s : Course) (a b : ℕ) (S : Shows)
    → a < b →
    Holds w d (project f g) env s a b S ↔ ProjectRuns f g w d env s a b S

-- a projection on more than one state whose first piece is as `first` says
abbrev pub RunsProjected : (first piece : Part) → ((ℕ → ℕ) → Part) → Part
RunsProjected first piece outer a b S =
    (c : ℕ → ℕ) × (m : ℕ) × (V : Shows) × (T : ℕ → Shows)
    × Rising c × (c 0 ≡ a) × (c (suc m) ≡ b)
    × first (c 0) (c 1) (T 0)
    × ((j : ℕ) → 0 < j → j < suc m → piece (c j) (c (suc j)) (T j))
    × outer c 0 (suc m) V × (S ≡ woven (suc m) 0 c V T)

-- a first cut and then others, and what is shown at them
abbrev pub cut_then : ℕ → (ℕ → ℕ) → ℕ → ℕ
cut_then a c zero = a
cut_then a c (suc k) = c k

abbrev pub lists_then : List (List Tree) → Shows → Shows
lists_then vs V zero = vs
lists_then vs V (suc k) = V k

-- what the outer part says of the cuts after a first one, which is at a, and where it shows vs
abbrev pub AfterCut : ℕ → List (List Tree) → ((ℕ → ℕ) → Part) → (ℕ → ℕ) → Part
AfterCut a vs outer c _ m V = outer (cut_then a c) 0 (suc m) (lists_then vs V)

-- A first piece of length 1 or more as `first` says, and from its end on a projection again; in the
-- first state the outer part shows vs.
abbrev pub SplitProjected : (first piece : Part) → ((ℕ → ℕ) → Part) → List (List Tree) → Part
SplitProjected first piece outer vs a b S =
    (i : ℕ) × (T : Shows) × (U : Shows) × (a < i) × (i ≤ b)
    × first a i T × Projected piece outer i b U × (S ≡ shown_at a vs ⊕ (T ⊕ U))

-- what f says of the interval of cut states
abbrev pub SaidAtCuts : FormulaTree → Context → ℕ → Env → Course → (ℕ → ℕ) → Part
SaidAtCuts f w d env s c = Holds w d f (env_at_cuts c env) (λ k. s (c k))

-- On more than one state a projection is a first piece, and a projection again from its end on. The
-- first piece may also be as another formula says, in another environment.
abbrev pub ProjectSplits : Type 0
ProjectSplits =
    (h f g : FormulaTree) (w : Context) (d : ℕ) (inner env : Env) (s : Course) (a b : ℕ)
    (S : Shows) →
    RunsProjected (Holds w d h inner s) (Holds w d f env s) (SaidAtCuts g w d env s) a b S
    ↔ ((vs : List (List Tree))
    × SplitProjected (Holds w d h inner s) (Holds w d f env s)
    (AfterCut a vs (SaidAtCuts g w d env s)) vs a b S)

-- After a first cut at a, where it shows vs, the outer part is as `later` says of the cuts after
-- it.
abbrev pub GoesOnAs : ℕ → List (List Tree) → (outer later : (ℕ → ℕ) → Part) → Type 0
GoesOnAs a vs outer later =
    (c : ℕ → ℕ) (m : ℕ) (ws : List (List Tree)) (V : Shows) → Rising c → a < c 0 →
    outer (cut_then a c) 0 (suc m) (lists_then ws V) ↔ ((ws ≡ vs) × later c 0 m V)

-- Where the outer formula goes on as another one, so does the projection.
abbrev pub ProjectGoesOn : Type 0
ProjectGoesOn =
    (h f g g' : FormulaTree) (w : Context) (d : ℕ) (inner env env' : Env) (s : Course) (a b : ℕ)
    (S : Shows) (vs : List (List Tree)) →
    GoesOnAs a vs (SaidAtCuts g w d env s) (SaidAtCuts g' w d env' s) →
    RunsProjected (Holds w d h inner s) (Holds w d f env s) (SaidAtCuts g w d env s) a b S
    ↔ SplitProjected (Holds w d h inner s) (Holds w d f env s) (SaidAtCuts g' w d env' s) vs a b S

-- f proj next g: a first piece of length 1 or more, and then f proj g
abbrev pub ProjectNext : Type 0
ProjectNext =
    (f g : FormulaTree) → Means (project f (next g))
    (SaidBy (chop (conjunction (formulas_of (f ∷ more ∷ []))) (project f g)))
