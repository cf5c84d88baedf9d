-- What the examples speak of.
use Rattle.std.specs.Prelude.{◌≡◌, ◌↔◌, pos, ℕ, zero, suc, ◌+◌, ◌≤◌, false, List, [], ◌∷◌, Option, None}
use Rattle.tp_value.specs.Tree.{Tree, num, list, of_items}
use Rattle.tp_meaning.specs.Syntax.{Plus, ExprTree, global, numeral, binary, FormulaTree, equation, weak_next, conjunction, len, call, display, exprs_of, formulas_of, Definition}
use Rattle.tp_meaning.specs.Derived.{gets_of}
use Rattle.tp_meaning.specs.Course.{Course, Shows, blank}
use Rattle.tp_meaning.specs.Value.{value}
use Rattle.tp_meaning.specs.Inputs.{InputRow}
use Rattle.tp_meaning.specs.Holds.{Context, Holds}

-- no definitions and no inputs
abbrev pub nothing_given : Context
nothing_given = record { defs = []; inputs = [] }

-- the states 0, 1, 2, .., in each of which every variable has the state's number as its value
abbrev pub counting : Course
counting j = record { own = j; values = λ x. num (pos j) }

-- the first variable, a number, A = n, and display(n)
abbrev pub A : ExprTree
A = global (record { number = 0; lasting = false })

abbrev pub number_expr : ℕ → ExprTree
number_expr n = numeral (pos n)

abbrev pub A_is : ℕ → FormulaTree
A_is n = equation A (number_expr n)

abbrev pub display_of : ExprTree → FormulaTree
display_of e = display (exprs_of (e ∷ []))

-- the value of an expression in state 0
abbrev pub value_at_first : ExprTree → Option Tree
value_at_first e = value [] 0 e [] counting 0

-- these lists are shown at the positions 0, 1, .., and nothing further on
abbrev pub listed : List (List (List Tree)) → Shows
listed [] j = []
listed (x ∷ xs) zero = x
listed (x ∷ xs) (suc j) = listed xs j

-- one list with this one number
abbrev pub one_shown : ℕ → List Tree
one_shown n = num (pos n) ∷ []

-- The formula holds on the counting states from 0 to b, and shows these lists in them.
abbrev pub HoldsTo : ℕ → FormulaTree → List (List (List Tree)) → Type 0
HoldsTo b f shows = Holds nothing_given 0 f [] counting 0 b (listed shows)

-- It does not hold there, at any depth and with any shows.
abbrev pub FailsTo : ℕ → FormulaTree → Type 0
FailsTo b f = (d : ℕ) (S : Shows) → Holds nothing_given d f [] counting 0 b S → ⊥

-- len(3) and A = 0 and A gets A + 1
abbrev pub counts_to_three : FormulaTree
counts_to_three =
    conjunction (formulas_of
    (len (number_expr 3) ∷ A_is 0 ∷ gets_of A (binary Plus A (number_expr 1)) ∷ []))

-- It holds where A is 0, 1, 2, 3, with nothing shown, and nowhere else.
abbrev pub CountsToThree : Type 0
CountsToThree = (d : ℕ) (s : Course) (a b : ℕ) (S : Shows) → a ≤ b →
    Holds nothing_given d counts_to_three [] s a b S
    ↔ ((3 + a ≡ b) × ((j : ℕ) → j ≤ 3 → (s (j + a)).values 0 ≡ num (pos j)) × (S ≡ blank))

-- one definition, with a formula alone
abbrev pub formula_definition : (parameters : List (List ℕ)) → FormulaTree → Definition
formula_definition parameters f =
    record { name = []; parameters = parameters; formula = f; expr = None }

abbrev pub with_definition : (parameters : List (List ℕ)) → FormulaTree → Context
with_definition parameters f = record { defs = formula_definition parameters f ∷ []; inputs = [] }

abbrev pub call_it : List ExprTree → FormulaTree
call_it arguments = call 0 (exprs_of arguments)

-- The definition calls itself in the next state, if there is one.
abbrev pub on_and_on : Context
on_and_on = with_definition [] (weak_next (call_it []))

-- a second variable, and the parameters X and x
abbrev pub I : ExprTree
I = global (record { number = 1; lasting = false })

abbrev pub upper_parameter : List (List ℕ)
upper_parameter = (88 ∷ []) ∷ []

abbrev pub lower_parameter : List (List ℕ)
lower_parameter = (120 ∷ []) ∷ []

-- A is the list <4, 6> and I is 0 in state 0; from then on A is <5, 7> and I is 1
abbrev pub indexed_values : ℕ → ℕ → Tree
indexed_values zero zero = list (of_items (num (pos 4) ∷ num (pos 6) ∷ []))
indexed_values zero (suc x) = num (pos 0)
indexed_values (suc j) zero = list (of_items (num (pos 5) ∷ num (pos 7) ∷ []))
indexed_values (suc j) (suc x) = num (pos 1)

abbrev pub indexed_course : Course
indexed_course j = record { own = j; values = indexed_values j }

-- the port p
abbrev pub port : List ℕ
port = 112 ∷ []

-- no definitions, and these values of p, with this default
abbrev pub with_inputs : List InputRow → Option Tree → Context
with_inputs rows default =
    record { defs = []; inputs = record { port = port; rows = rows; default = default } ∷ [] }

-- p = n from state a to state b
abbrev pub row_is : (a b n : ℕ) → InputRow
row_is a b n = record { first = a; last = b; value = num (pos n) }
