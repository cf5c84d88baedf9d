-- Loops and projections, said by their cuts; `forall` by its instances, and `exists` by values on
-- the interval.
use Rattle.std.specs.Prelude.{◌≡◌, ℤ, pos, ◌+ℤ◌, ◌-ℤ◌, ℕ, suc, ◌≤◌, ◌<◌, [], ◌∷◌, ◌++◌, Bool}
use Rattle.tp_value.specs.Tree.{Tree, num, truth}
use Rattle.tp_meaning.specs.Syntax.{ExprTree, FormulaTree}
use Rattle.tp_meaning.specs.Course.{Shows, Part, total, woven}
use Rattle.tp_meaning.specs.Value.{fixed}
use Rattle.tp_meaning.specs.Holds.{count_to, env_at_cuts, running, Holds}
use Rattle.tp_meaning.specs.Direct.{DirectMeaning, ValueIs}

-- Cuts c 0, .., c m from a to b that never fall; on the piece from c j to the next cut P with the
-- number k + j. What the pieces show is put one after another.
abbrev pub BetweenCuts : (ℤ → Part) → ℕ → ℤ → Part
BetweenCuts P m k a b S =
    (c : ℕ → ℕ) × (T : ℕ → Shows) × (c 0 ≡ a) × (c m ≡ b)
    × ((j : ℕ) → j < m → (c j ≤ c (suc j)) × P (k +ℤ pos j) (c j) (c (suc j)) (T j))
    × (S ≡ total m 0 T)

-- P with each number k + j for j below m; what these show is joined in order
abbrev pub WithEach : (ℤ → Part) → ℕ → ℤ → Part
WithEach P m k a b S =
    (T : ℕ → Shows) × ((j : ℕ) → j < m → P (k +ℤ pos j) a b (T j)) × (S ≡ total m 0 T)

-- `while e do f`: strictly rising cuts lead from the first state to the last; e is true at each but
-- the last and false at the last; f holds on each piece
abbrev pub WhileByCuts : ExprTree → FormulaTree → DirectMeaning
WhileByCuts e f w d env s a b S =
    (c : ℕ → ℕ) × (m : ℕ) × (T : ℕ → Shows) × (c 0 ≡ a) × (c m ≡ b)
    × ((j : ℕ) → j < m → (c j < c (suc j)) × ValueIs w d env s e (c j) (truth Bool.true)
    × Holds w d f env s (c j) (c (suc j)) (T j))
    × ValueIs w d env s e b (truth Bool.false) × (S ≡ total m 0 T)

-- `for` from k to e: e's value is a number n; max(0, n - k) pieces between cuts that never fall; f
-- holds on piece j with k + j bound last
abbrev pub ForByCuts : ℤ → ExprTree → FormulaTree → DirectMeaning
ForByCuts k e f w d env s a b S =
    (n : ℤ) × ValueIs w d env s e a (num n)
    × BetweenCuts (λ v. Holds w d f (env ++ fixed (num v) ∷ []) s) (count_to (n -ℤ k)) k a b S

-- `forall` from k to e: e's value is a number n; f holds with each of k, .., n - 1 bound last
abbrev pub ForallByInstances : ℤ → ExprTree → FormulaTree → DirectMeaning
ForallByInstances k e f w d env s a b S =
    (n : ℤ) × ValueIs w d env s e a (num n)
    × WithEach (λ v. Holds w d f (env ++ fixed (num v) ∷ []) s) (count_to (n -ℤ k)) k a b S

-- a projection: strictly rising cuts lead from the first state to the last; f holds on each piece,
-- and g on the interval of the cut states
abbrev pub ProjectByCuts : FormulaTree → FormulaTree → DirectMeaning
ProjectByCuts f g w d env s a b S =
    (c : ℕ → ℕ) × (m : ℕ) × (V : Shows) × (T : ℕ → Shows) × (c 0 ≡ a) × (c m ≡ b)
    × ((j : ℕ) → j < m → (c j < c (suc j)) × Holds w d f env s (c j) (c (suc j)) (T j))
    × Holds w d g (env_at_cuts c env) (λ k. s (c k)) 0 m V × (S ≡ woven m 0 c V T)

-- `exists`: f holds with some values of the variable, one in each state and all equal on the
-- interval where lasting
abbrev pub ExistsByValues : Bool → FormulaTree → DirectMeaning
ExistsByValues lasting f w d env s a b S =
    (v : ℕ → Tree) × (lasting ≡ Bool.true → (i j : ℕ) → a ≤ i → i ≤ b → a ≤ j → j ≤ b → v i ≡ v j)
    × Holds w d f (env ++ running v ∷ []) s a b S
