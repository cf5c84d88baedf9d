-- What the derived operators say of a whole interval, apart from their formulas.
use Rattle.std.specs.Prelude.{◌≡◌, pos, ℕ, suc, ◌+◌, ◌≤◌, ◌<◌, Bool, length, Some, ◌↔◌}
use Rattle.tp_value.specs.Tree.{Tree, Trees, num, truth, list, items_of}
use Rattle.tp_meaning.specs.Syntax.{ExprTree, FormulaTree}
use Rattle.tp_meaning.specs.Course.{Course, Shows, Part, blank, ◌⊕◌, total}
use Rattle.tp_meaning.specs.Value.{Env, value}
use Rattle.tp_meaning.specs.Holds.{Context, Holds}

-- what is said of an interval and its shows, in a context, at a depth, under an environment
abbrev pub DirectMeaning : Type 1
DirectMeaning = Context → ℕ → Env → Course → Part

-- The formula holds, with these shows, exactly on the intervals of the meaning.
unfoldable pub Means : FormulaTree → DirectMeaning → Type 0
Means f M =
    (w : Context) (d : ℕ) (env : Env) (s : Course) (a b : ℕ) (S : Shows) → a ≤ b
    → Holds w d f env s a b S ↔ M w d env s a b S

-- v is the value of e at position j
abbrev pub ValueIs : Context → ℕ → Env → Course → ExprTree → ℕ → Tree → Type 0
ValueIs w d env s e j v = value w.defs d e env s j ≡ Some v

-- the length is 1
abbrev pub Skip : DirectMeaning
Skip w d env s a b S = (suc a ≡ b) × (S ≡ blank)

-- b is true in the last state and false in each earlier one
abbrev pub Halt : ExprTree → DirectMeaning
Halt e w d env s a b S =
    ValueIs w d env s e b (truth Bool.true)
    × ((j : ℕ) → a ≤ j → j < b → ValueIs w d env s e j (truth Bool.false)) × (S ≡ blank)

-- f holds on each suffix of length 1 or more; those of older suffixes are shown first
abbrev pub Keep : FormulaTree → DirectMeaning
Keep f w d env s a b S =
    (m : ℕ) × (T : ℕ → Shows) × (m + a ≡ b)
    × ((i : ℕ) → a ≤ i → i < b → Holds w d f env s i b (T i)) × (S ≡ total m a T)

-- f holds on the suffix of length 0
abbrev pub Fin : FormulaTree → DirectMeaning
Fin f w d env s a b S = Holds w d f env s b b S

-- A's value in each state but the first is e's in the state before
abbrev pub Gets : (variable e : ExprTree) → DirectMeaning
Gets x e w d env s a b S =
    ((j : ℕ) → a ≤ j → j < b → (v : Tree) × ValueIs w d env s x (suc j) v × ValueIs w d env s e j v)
    × (S ≡ blank)

-- A has one value in each state and the next
abbrev pub Stable : ExprTree → DirectMeaning
Stable x w d env s a b S =
    ((j : ℕ) → a ≤ j → j < b → (v : Tree) × ValueIs w d env s x (suc j) v × ValueIs w d env s x j v)
    × (S ≡ blank)

-- the length is 1, and A's value in the second state is e's in the first
abbrev pub Becomes : (variable e : ExprTree) → DirectMeaning
Becomes x e w d env s a b S =
    (v : Tree) × (suc a ≡ b) × ValueIs w d env s x b v × ValueIs w d env s e a v × (S ≡ blank)

-- f holds up to some state i. From there strictly rising cuts c 0, .., c m lead to the end; b is
-- false at each but the last and true at the last, and f holds on each piece.
abbrev pub Repeat : FormulaTree → ExprTree → DirectMeaning
Repeat f e w d env s a b S =
    (i : ℕ) × (U : Shows) × (c : ℕ → ℕ) × (m : ℕ) × (T : ℕ → Shows)
    × (a ≤ i) × (i ≤ b) × Holds w d f env s a i U × (c 0 ≡ i) × (c m ≡ b)
    × ((j : ℕ) → j < m → (c j < c (suc j)) × ValueIs w d env s e (c j) (truth Bool.false)
    × Holds w d f env s (c j) (c (suc j)) (T j))
    × ValueIs w d env s e b (truth Bool.true) × (S ≡ U ⊕ total m 0 T)

-- L's value is a list of as many items as e's value says
abbrev pub ListOf : (whole e : ExprTree) → DirectMeaning
ListOf l e w d env s a b S =
    (ts : Trees) × ValueIs w d env s l a (list ts)
    × ValueIs w d env s e a (num (pos (length (items_of ts)))) × (S ≡ blank)

-- the length is at least 1 and at least k, and t's value in state k is e's in the first
abbrev pub NextEquals : (k : ℕ) → (t e : ExprTree) → DirectMeaning
NextEquals k t e w d env s a b S =
    (v : Tree) × (a < b) × (k + a ≤ b) × ValueIs w d env s t (k + a) v × ValueIs w d env s e a v
    × (S ≡ blank)
