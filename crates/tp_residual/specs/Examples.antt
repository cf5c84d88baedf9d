-- Trace lines and residual phrases that tell how they are spelled.
use Rattle.std.specs.Prelude.{◌≡◌, ℕ, pos, negsuc, true, false, List, [], ◌∷◌, Some, None, codes}
use Rattle.tp_value.specs.Tree.{Tree, num, truth, list, of_items}
use Rattle.tp_meaning.specs.Syntax.{Plus, Minus, Times, Less, ExprTree, numeral, boolean, known, bound, global, listing, size, index, minus, negation, both, either, binary, choice, invoke, exprs_of, FormulaTree, trivial, test, equation, next_equation, empty, more, next, weak_next, if_more, if_empty, always, conjunction, branch, len, assign, chop, while, for_from, forall_from, project, exists, call, input, display, formulas_of, Definition, BindingTree, place_binding, known_binding}
use Rattle.tp_store.specs.Known.{Variable}
use Rattle.tp_scene.specs.Scene.{Bindings, Do, Entries, none, leaf, node, Split, SplitProject, Scene, new_head, no_region}
use Rattle.tp_residual.specs.Residual.{residual_phrase, residual_of, trace_lines}

-- a global variable, a local and another one of the same name, and a list
abbrev variables : List Variable
variables =
    record { name = codes "A"; lasting = false } ∷ record { name = codes "y"; lasting = true }
    ∷ record { name = codes "y"; lasting = true } ∷ record { name = codes "L"; lasting = false }
    ∷ []

abbrev definitions : List Definition
definitions =
    record { name = codes "p"; parameters = codes "X" ∷ []; formula = trivial; expr = None } ∷ []

abbrev A : ExprTree
A = global (record { number = 0; lasting = false })

abbrev y : ExprTree
y = global (record { number = 1; lasting = true })

abbrev L : ExprTree
L = global (record { number = 3; lasting = false })

abbrev one : ExprTree
one = numeral (pos 1)

abbrev plus : ExprTree → ExprTree → ExprTree
plus e e' = binary Plus e e'

abbrev A_is : ExprTree → FormulaTree
A_is e = equation A e

abbrev skip : FormulaTree
skip = next empty

abbrev all : List FormulaTree → FormulaTree
all ws = conjunction (formulas_of ws)

-- the place L[1], and a known value
abbrev item_of_L : BindingTree
item_of_L = place_binding (record { var = record { number = 3; lasting = false }; at = 1 ∷ [] })

abbrev minus_three : Tree
minus_three = num (negsuc 2)

-- a scene of one formula, and of these entries
abbrev of_entries : Entries → Scene
of_entries es =
    record { root = record { head = new_head 0; entries = es }; next_item = 0; next_region = 0 }

abbrev entry : FormulaTree → Bindings → Entries → Entries
entry w env rest = leaf 0 (Do w env) rest

abbrev split : (left : Entries) → (after : FormulaTree) → Entries → Entries
split left after rest = node 0 (Split after []) (new_head 1) left no_region none rest

abbrev split_project : (left : Entries) → (piece : FormulaTree) → (outer : Entries) → Entries
    → Entries
split_project left piece outer rest =
    node 0 (SplitProject piece []) (new_head 1) left (new_head 2) outer rest

abbrev spells : Entries → List ℕ → Type 0
spells es text = residual_phrase variables definitions (of_entries es) ≡ text

-- a formula, and one under names that stand for these
abbrev reads : FormulaTree → List ℕ → Type 0
reads w text = spells (entry w [] none) text

abbrev reads_with : Bindings → FormulaTree → List ℕ → Type 0
reads_with env w text = spells (entry w env none) text

abbrev says : ExprTree → List ℕ → Type 0
says e text = reads (test e) text

abbrev two_left : FormulaTree
two_left = len (numeral (pos 2))

abbrev A_grows : FormulaTree
A_grows = always (if_more (next_equation 1 A (plus A one)))

-- what is carried where `len(3) and A = 0 and A gets A + 1` has been run for a state
abbrev counting : Entries
counting = entry two_left [] (entry (A_is (known (num (pos 1)))) [] (entry A_grows [] none))

pub record ResidualExamples : Type 0 where
  pub goes_on : trace_lines 8 (residual_of variables definitions (Some (of_entries counting)))
      ≡ codes "reductions 8\nresidual: len(2) and A = 1 and keep(next A = A + 1)\n"
  pub ends : trace_lines 5 (residual_of variables definitions None) ≡ codes "reductions 5\n"
  pub nothing : spells none (codes "true")
  -- regions: a left one, one of several entries, one that is itself split, and a projection
  pub left_alone : spells (split (entry skip [] none) (A_is one) none) (codes "next empty ; A = 1")
  pub left_of_two : spells (split (entry skip [] (entry (A_is one) [] none)) two_left none)
      (codes "next empty and A = 1 ; len(2)")
  pub left_is_split : spells (split (split (entry skip [] none) skip none) skip none)
      (codes "(next empty ; next empty) ; next empty")
  pub left_is_empty : spells (split none skip none) (codes "true ; next empty")
  pub beside : spells (split (entry skip [] none) skip (entry (A_is one) [] none))
      (codes "(next empty ; next empty) and A = 1")
  pub projection : spells
      (split_project (entry two_left [] none) two_left (entry (A_is one) [] (entry A_grows [] none))
      none) (codes "len(2) ; len(2) proj A = 1 and keep(next A = A + 1)")
  pub projected_twice : spells
      (split_project (entry two_left [] none) (project two_left skip)
      (split_project none skip none none) none)
      (codes "len(2) ; (len(2) proj next empty) proj (true ; next empty proj true)")
  -- bound names: a place, a value, and those that the phrase binds
  pub place : reads_with (item_of_L ∷ []) (A_is (index (bound 0) one)) (codes "A = L[1][1]")
  pub value : reads_with (known_binding minus_three ∷ []) (A_is (minus (bound 0))) (codes "A = --3")
  pub loop : reads (for_from (codes "i") (pos 2) (numeral (pos 3)) (A_is (bound 0)))
      (codes "for i from 2 < 3 do A = i")
  pub loop_from_zero : reads (for_from (codes "i") (pos 0) (numeral (pos 3)) skip)
      (codes "for i < 3 do next empty")
  pub loop_within : reads_with (known_binding minus_three ∷ [])
      (for_from (codes "i") (pos 1) (bound 0) (A_is (plus (bound 1) (bound 0))))
      (codes "for i from 1 < -3 do A = i + -3")
  pub each_of_two : reads_with (item_of_L ∷ [])
      (forall_from (codes "i") (pos 0) (numeral (pos 3))
      (exists (codes "x") true (equation (bound 2) (plus (bound 1) (bound 0)))))
      (codes "forall i < 3 : exists x : x = i + L[1]")
  pub loop_beside : reads (all (for_from (codes "i") (pos 0) one skip ∷ A_is one ∷ []))
      (codes "(for i < 1 do next empty) and A = 1")
  pub local : reads (A_is y) (codes "A = y")
  -- formulas
  pub no_operands : reads (all []) (codes "true")
  pub one_operand : reads (all (chop skip skip ∷ [])) (codes "next empty ; next empty")
  pub chain : reads (all (all (skip ∷ empty ∷ []) ∷ A_is one ∷ []))
      (codes "(next empty and empty) and A = 1")
  pub next_of_two : reads (next (all (more ∷ empty ∷ []))) (codes "next (more and empty)")
  pub next_next : reads (next_equation 2 A one) (codes "next next A = 1")
  pub next_of_next : reads (next (next empty)) (codes "next next empty")
  pub next_of_equation : reads (next (A_is one)) (codes "next (A = 1)")
  pub weak : reads (weak_next (always skip)) (codes "weak next always(next empty)")
  pub weak_of_weak : reads (next (weak_next (if_more (if_empty skip))))
      (codes "next weak next ifmore(ifempty(next empty))")
  pub at_end : reads (always (if_empty (A_is (known minus_three)))) (codes "fin(A = -3)")
  pub in_each : reads (always (next (always (if_more skip))))
      (codes "always(next keep(next empty))")
  pub branches : reads
      (branch (binary Less A one) (while (boolean true) skip) (branch A empty more))
      (codes "if A < 1 then (while true do next empty) else if A then empty else more")
  pub chops : reads (chop (chop skip empty) (chop skip empty))
      (codes "(next empty ; empty) ; next empty ; empty")
  pub chop_right : reads (chop skip (while A skip)) (codes "next empty ; (while A do next empty)")
  pub proj_left : reads (project (project skip skip) skip)
      (codes "(next empty proj next empty) proj next empty")
  pub assignment : reads (assign A (either A A)) (codes "A <- (A or A)")
  pub calls : reads (call 0 (exprs_of (A ∷ []))) (codes "p(A)")
  pub inputs : reads (input A (codes "q")) (codes "input(A, q)")
  pub displays : reads (display (exprs_of (A ∷ one ∷ []))) (codes "display(A, 1)")
  -- expressions
  pub negative : says (binary Minus (known minus_three) (known minus_three)) (codes "-3 - -3")
  pub sum_of_product : says (plus A (binary Times A one)) (codes "A + A * 1")
  pub product_of_sum : says (binary Times (plus A one) A) (codes "(A + 1) * A")
  pub difference_right : says (binary Minus A (binary Minus A one)) (codes "A - (A - 1)")
  pub items : says (listing
      (exprs_of (A ∷ both (exprs_of (A ∷ A ∷ []))
      ∷ known (list (of_items (num (pos 1) ∷ truth false ∷ []))) ∷ [])))
      (codes "<A, (A and A), <1,false>>")
  pub sizes : says (size (index L (plus A one))) (codes "|L[A + 1]|")
  pub one_of : says (both (exprs_of (either A A ∷ []))) (codes "A or A")
  pub none_of : says (both (exprs_of [])) (codes "true")
  pub chosen : says (negation (choice A one (invoke 0 (exprs_of (A ∷ [])))))
      (codes "not (if A then 1 else p(A))")
