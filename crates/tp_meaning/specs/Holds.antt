-- Where a formula holds, and what it shows.
use Rattle.std.specs.Prelude.{◌≡◌, ℤ, pos, negsuc, ◌+ℤ◌, ◌-ℤ◌, ℕ, zero, suc, ◌+◌, ◌≤◌, ◌<◌, Bool, true, false, List, [], ◌∷◌, ◌++◌, Some, slice_get, ◌⊎◌}
use Rattle.tp_value.specs.Tree.{Tree, num, truth}
use Rattle.tp_meaning.specs.Syntax.{ExprTree, FormulaTree, FormulaTrees, trivial, test, equation, next_equation, empty, more, next, weak_next, if_more, if_empty, always, conjunction, branch, len, assign, chop, while, for_from, forall_from, project, exists, call, input, display, no_formula, formula_then, Definition}
use Rattle.tp_meaning.specs.Course.{Course, Shows, Part, blank, ◌⊕◌, shown_at, total, woven, Rising}
use Rattle.tp_meaning.specs.Value.{◌>>=◌, Meaning, fixed, varying, Env, Calls, value_by, values_by, arguments_by, calls_at}
use Rattle.tp_meaning.specs.Inputs.{InputTable, input_at}

-- what a formula is read with: the program's definitions, and the inputs
pub record Context : Type 0 where
  pub defs : List Definition
  pub inputs : InputTable

-- how many numbers there are from 0 to below n
abbrev pub count_to : ℤ → ℕ
count_to (pos n) = n
count_to (negsuc n) = 0

-- P and Q of one interval; what P shows comes first
abbrev pub Joined : Part → Part → Part
Joined P Q a b S = (T : Shows) × (U : Shows) × P a b T × Q a b U × (S ≡ T ⊕ U)

-- P up to some position i, and Q from there: the two parts share the state at i
abbrev pub Chopped : Part → Part → Part
Chopped P Q a b S =
    (i : ℕ) × (T : Shows) × (U : Shows) × (a ≤ i) × (i ≤ b) × P a i T × Q i b U × (S ≡ T ⊕ U)

-- P on each suffix; at each position what the longer ones show comes first
abbrev pub OnEachSuffix : Part → Part
OnEachSuffix P a b S =
    (m : ℕ) × (T : ℕ → Shows) × (m + a ≡ suc b) × ((i : ℕ) → a ≤ i → i ≤ b → P i b (T i))
    × (S ≡ total m a T)

-- P with each of the m numbers from k on
abbrev pub Together : (ℤ → Part) → ℕ → ℤ → Part
Together P zero k a b S = S ≡ blank
Together P (suc m) k a b S = Joined (P k) (Together P m (k +ℤ pos 1)) a b S

-- m pieces one after another: P with k of the first, with k + 1 of the second, and so on
abbrev pub Pieces : (ℤ → Part) → ℕ → ℤ → Part
Pieces P zero k a b S = (a ≡ b) × (S ≡ blank)
Pieces P (suc m) k a b S = Chopped (P k) (Pieces P m (k +ℤ pos 1)) a b S

-- Projection: cuts c 0, .., c m from a to b, `piece` on each interval between two of them, and
-- `outer c` on the interval of the cut states. In one state there is one cut and no piece. The cuts
-- are the first of a sequence that rises on without end; its positions after c m play no part.
abbrev pub Projected : Part → ((ℕ → ℕ) → Part) → Part
Projected piece outer a b S =
    (c : ℕ → ℕ) × (m : ℕ) × (V : Shows) × (T : ℕ → Shows)
    × Rising c × (c 0 ≡ a) × (c m ≡ b)
    × ((j : ℕ) → j < m → piece (c j) (c (suc j)) (T j))
    × outer c 0 m V × (S ≡ woven m 0 c V T)

-- One value for each position, all the same where lasting. Those outside of the interval play no
-- part.
abbrev pub Lasts : Bool → (ℕ → Tree) → Type 0
Lasts true v = (i j : ℕ) → v i ≡ v j
Lasts false v = Unit {0}

-- a variable with these values
abbrev pub running : (ℕ → Tree) → Meaning
running v = varying (λ j. Some (v j))

-- an environment along the course of the cut states
abbrev pub meaning_at_cuts : (ℕ → ℕ) → Meaning → Meaning
meaning_at_cuts c (fixed t) = fixed t
meaning_at_cuts c (varying f) = varying (λ k. f (c k))

abbrev pub env_at_cuts : (ℕ → ℕ) → Env → Env
env_at_cuts c [] = []
env_at_cuts c (m ∷ env) = meaning_at_cuts c m ∷ env_at_cuts c env

-- what a call of a definition with its bindings says of an interval
abbrev pub CallMeanings : Type 1
CallMeanings = ℕ → Env → Course → Part

module _ (w : Context) (calls : Calls) (meanings : CallMeanings) where
  -- v is the value of e at position j
  abbrev pub Has : ExprTree → Env → Course → ℕ → Tree → Type 0
  Has e env s j v = value_by w.defs calls e env s j ≡ Some v

  abbrev mutual
    -- The formula holds from position a to position b of the course, and shows S.
    pub HoldsBy : FormulaTree → Env → Course → Part
    HoldsBy trivial env s a b S = S ≡ blank
    HoldsBy (test e) env s a b S = Has e env s a (truth true) × (S ≡ blank)
    HoldsBy (equation l r) env s a b S =
        (v : Tree) × Has l env s a v × Has r env s a v × (S ≡ blank)
    HoldsBy (next_equation k t e) env s a b S =
        (v : Tree) × (k + a ≤ b) × Has t env s (k + a) v × Has e env s a v × (S ≡ blank)
    HoldsBy empty env s a b S = (a ≡ b) × (S ≡ blank)
    HoldsBy more env s a b S = (a < b) × (S ≡ blank)
    HoldsBy (next f) env s a b S = (a < b) × HoldsBy f env s (suc a) b S
    HoldsBy (weak_next f) env s a b S =
        ((a ≡ b) × (S ≡ blank)) ⊎ ((a < b) × HoldsBy f env s (suc a) b S)
    HoldsBy (if_more f) env s a b S = ((a ≡ b) × (S ≡ blank)) ⊎ ((a < b) × HoldsBy f env s a b S)
    HoldsBy (if_empty f) env s a b S = ((a < b) × (S ≡ blank)) ⊎ ((a ≡ b) × HoldsBy f env s a b S)
    HoldsBy (always f) env s a b S = OnEachSuffix (HoldsBy f env s) a b S
    HoldsBy (conjunction fs) env s a b S = AllHoldBy fs env s a b S
    HoldsBy (branch e f g) env s a b S =
        (Has e env s a (truth true) × HoldsBy f env s a b S)
        ⊎ (Has e env s a (truth false) × HoldsBy g env s a b S)
    HoldsBy (len e) env s a b S = (n : ℕ) × Has e env s a (num (pos n)) × (n + a ≡ b) × (S ≡ blank)
    HoldsBy (assign t e) env s a b S = (v : Tree) × Has t env s b v × Has e env s a v × (S ≡ blank)
    HoldsBy (chop f g) env s a b S = Chopped (HoldsBy f env s) (HoldsBy g env s) a b S
    HoldsBy (while e f) env s a b S = (m : ℕ)
        × Pieces (λ _ i j T. (i < j) × Has e env s i (truth true) × HoldsBy f env s i j T) m (pos 0)
        a b S
        × Has e env s b (truth false)
    HoldsBy (for_from name k e f) env s a b S = (n : ℤ) × Has e env s a (num n)
        × Pieces (λ v. HoldsBy f (env ++ fixed (num v) ∷ []) s) (count_to (n -ℤ k)) k a b S
    HoldsBy (forall_from name k e f) env s a b S = (n : ℤ) × Has e env s a (num n)
        × Together (λ v. HoldsBy f (env ++ fixed (num v) ∷ []) s) (count_to (n -ℤ k)) k a b S
    HoldsBy (project f g) env s a b S =
        Projected (HoldsBy f env s) (λ c. HoldsBy g (env_at_cuts c env) (λ k. s (c k))) a b S
    HoldsBy (exists name lasting f) env s a b S =
        (v : ℕ → Tree) × Lasts lasting v × HoldsBy f (env ++ running v ∷ []) s a b S
    HoldsBy (call p es) env s a b S = (args : Env)
        × ((slice_get w.defs p >>= λ f. arguments_by w.defs calls es f.parameters env s a)
        ≡ Some args)
        × meanings p args s a b S
    HoldsBy (input x port) env s a b S =
        (v : Tree) × (input_at w.inputs (s a).own port ≡ Some v) × Has x env s a v × (S ≡ blank)
    HoldsBy (display es) env s a b S =
        (vs : List Tree) × (values_by w.defs calls es env s a ≡ Some vs)
        × (S ≡ shown_at a (vs ∷ []))

    -- Each formula holds, and their shows are joined in order.
    pub AllHoldBy : FormulaTrees → Env → Course → Part
    AllHoldBy no_formula env s a b S = S ≡ blank
    AllHoldBy (formula_then f fs) env s a b S = Joined (HoldsBy f env s) (AllHoldBy fs env s) a b S

-- A called definition's formula holds at one depth less, with its bindings alone. At depth 0 no
-- call holds.
abbrev pub CallHolds : Context → ℕ → CallMeanings
CallHolds w zero p args s a b S = ⊥
CallHolds w (suc d) p args s a b S =
    (f : Definition) × (slice_get w.defs p ≡ Some f)
    × HoldsBy w (calls_at w.defs d) (CallHolds w d) f.formula args s a b S

-- The formula holds from position a to position b at depth d, and shows S.
abbrev pub Holds : Context → ℕ → FormulaTree → Env → Course → Part
Holds w d = HoldsBy w (calls_at w.defs d) (CallHolds w d)
