-- What the examples speak of.
use Rattle.std.specs.Prelude.{pos, ℕ, true, false, List, [], ◌∷◌}
use Rattle.tp_value.specs.declared.value.Shape.TheVariants.{Num}
use Rattle.tp_value.specs.declared.path.VarId.{VarId}
use Rattle.tp_value.specs.declared.path.Fact.{Fact}
use Rattle.tp_meaning.specs.Syntax.{ExprTree, Less, Plus, Div, binary, global, numeral}
use Rattle.tp_store.specs.Facts.{fact}
use Rattle.tp_verdict.specs.Wide.{WideTree, equation, next_equation, empty, next, if_empty, always, conjunction, len, assign, chop, while, negation, sometimes, wide_formulas_of}
use Rattle.tp_verdict.specs.Trace.{FactsOfStates}

-- the state variables A and B and the static variable n, with the numbers 0, 1 and 2
abbrev pub state_variable : (number : ℕ) → VarId
state_variable number = record { number = number; lasting = false }

abbrev pub static_variable : VarId
static_variable = record { number = 2; lasting = true }

abbrev pub is_number : VarId → ℕ → List Fact
is_number x k = fact (record { var = x; at = [] }) (Num (pos k)) ∷ []

-- a run in which A is 0, 1, 2, 3, and one in which its second value isn't known
abbrev pub counted : FactsOfStates
counted =
    is_number (state_variable 0) 0 ∷ is_number (state_variable 0) 1
    ∷ is_number (state_variable 0) 2 ∷ is_number (state_variable 0) 3 ∷ []

abbrev pub partly_counted : FactsOfStates
partly_counted =
    is_number (state_variable 0) 0 ∷ [] ∷ is_number (state_variable 0) 2
    ∷ is_number (state_variable 0) 3 ∷ []

-- two states; n is known from the second one, and from both, with two values
abbrev pub known_later : FactsOfStates
known_later = [] ∷ is_number static_variable 7 ∷ []

abbrev pub torn : FactsOfStates
torn = is_number static_variable 1 ∷ is_number static_variable 2 ∷ []

abbrev pub number : ℕ → ExprTree
number k = numeral (pos k)

abbrev pub variable_a : ExprTree
variable_a = global (state_variable 0)

-- A = k, B = k and n = k
abbrev pub a_is : ℕ → WideTree
a_is k = equation variable_a (number k)

abbrev pub b_is : ℕ → WideTree
b_is k = equation (global (state_variable 1)) (number k)

abbrev pub n_is : ℕ → WideTree
n_is k = equation (global static_variable) (number k)

abbrev pub both_formulas : WideTree → WideTree → WideTree
both_formulas w v = conjunction (wide_formulas_of (w ∷ v ∷ []))

-- sometimes(A = 2) and not fin(A = 2)
abbrev pub two_before_the_end : WideTree
two_before_the_end = both_formulas (sometimes (a_is 2)) (negation (always (if_empty (a_is 2))))

-- (len(2) ; skip) and A <- A + 3
abbrev pub three_more : WideTree
three_more =
    both_formulas (chop (len (number 2)) (next empty))
    (assign variable_a (binary Plus variable_a (number 3)))

-- while A < k do w
abbrev pub while_below : ℕ → WideTree → WideTree
while_below k w = while (binary Less variable_a (number k)) w

-- next .. next A = 3, with so many of `next`
abbrev pub three_after : ℕ → WideTree
three_after k = next_equation k variable_a (number 3)

-- A = 1 div 0
abbrev pub a_is_none : WideTree
a_is_none = equation variable_a (binary Div (number 1) (number 0))
