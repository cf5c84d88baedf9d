-- Texts of some states and end lines, which tell how they are written.
use Rattle.std.specs.Prelude.{◌≡◌, ℕ, pos, true, false, List, [], ◌∷◌, ◌++◌, map, codes}
use Rattle.std.specs.List.{flat_map}
use Rattle.tp_value.specs.Tree.{num, truth, list, nil, cons}
use Rattle.tp_value.specs.Globals.{variable}
use Rattle.tp_value.specs.declared.path.Path.{Path}
use Rattle.tp_value.specs.declared.path.Fact.{Fact}
use Rattle.tp_store.specs.Known.{Variable, global_variable}
use Rattle.tp_value.specs.declared.value.Shape.{Shape}
use Rattle.tp_value.specs.declared.value.Shape.TheVariants.{Num, Truth, Items}
use Rattle.tp_kernel.specs.declared.fault.FaultKind.TheVariants.{WrongKind, ZeroDivisor, NoElement}
use Rattle.tp_kernel.specs.declared.fault.LimitKind.TheVariants as limit
use Rattle.tp_scene.specs.declared.answer.Cell.TheVariants.{Part, End}
use Rattle.tp_scene.specs.declared.answer.Clash.TheVariants.{Facts, Marks, False, NoValue}
use Rattle.tp_show.specs.Texts.{variable_fact_text, cell_text, end_line}
use Rattle.tp_show.specs.Line.{line_parts, spaced_text, show_line, told_lines}
use Rattle.tp_show.specs.declared.turn.Turn.{Turn}
use Rattle.tp_show.specs.declared.turn.Turn.TheVariants.{Went, Finished, Contradictory, Undetermined, StateLimit, InputMissing, Over}

-- the variables of the examples
abbrev names : List (List ℕ)
names = codes "L" ∷ codes "A" ∷ []

-- what is known of `L` at these indices, and of `A`
abbrev list_at : List ℕ → Shape → Fact
list_at at shape = record { path = record { var = variable (codes "L") 0; at = at }; shape = shape }

abbrev number_is : Shape → Fact
number_is shape = record { path = record { var = variable (codes "A") 1; at = [] }; shape = shape }

-- the variables of a store that has a local besides, and what is known of that
abbrev known : List Variable
known = map global_variable names ++ record { name = codes "Y"; lasting = false } ∷ []

abbrev local_at : List ℕ → Path
local_at at = record { var = variable (codes "Y") 2; at = at }

abbrev reads : List Fact → List ℕ → Type 0
reads facts text = flat_map (spaced_text names) (line_parts facts) ≡ text

abbrev is_told_as : Fact → List ℕ → Type 0
is_told_as fact text = variable_fact_text names known fact ≡ text

-- the end line of a run in which a state takes at most 1000 reductions
abbrev ends : Turn → List ℕ → Type 0
ends turn text = end_line names known 1000 turn ≡ text

-- how states are told, and variables in end lines
pub record LineExamples : Type 0 where
  pub nothing : reads [] []
  pub number : reads (number_is (Num (pos 7)) ∷ []) (codes " A=7")
  pub truth_value : reads (number_is (Truth false) ∷ []) (codes " A=false")
  pub whole_list : reads
      (list_at [] (Items 2) ∷ list_at (0 ∷ []) (Num (pos 1)) ∷ list_at (1 ∷ []) (Num (pos 2))
      ∷ number_is (Num (pos 7)) ∷ []) (codes " L=<1,2> A=7")
  pub no_items : reads (list_at [] (Items 0) ∷ []) (codes " L=<>")
  pub part_of_list : reads (list_at [] (Items 3) ∷ list_at (1 ∷ []) (Num (pos 5)) ∷ [])
      (codes " |L|=3 L[1]=5")
  pub length_alone : reads (list_at [] (Items 1) ∷ number_is (Num (pos 7)) ∷ [])
      (codes " |L|=1 A=7")
  pub item_alone : reads (list_at (1 ∷ []) (Num (pos 5)) ∷ []) (codes " L[1]=5")
  pub part_of_item : reads
      (list_at [] (Items 2) ∷ list_at (0 ∷ []) (Num (pos 7)) ∷ list_at (1 ∷ []) (Items 2)
      ∷ list_at (1 ∷ 0 ∷ []) (Truth true) ∷ []) (codes " |L|=2 L[0]=7 |L[1]|=2 L[1][0]=true")
  pub whole_item : reads
      (list_at [] (Items 2) ∷ list_at (1 ∷ []) (Items 1) ∷ list_at (1 ∷ 0 ∷ []) (Num (pos 3)) ∷ [])
      (codes " |L|=2 L[1]=<3>")
  pub nothing_shown : show_line [] ≡ codes "show\n"
  pub values_shown : show_line (num (pos 1) ∷ truth true ∷ list (cons (num (pos 2)) nil) ∷ [])
      ≡ codes "show 1 true <2>\n"
  pub nothing_told : told_lines names (record { state = 0; parts = []; shows = [] })
      ≡ codes "state 0:\n"
  pub state_told : told_lines names
      (record {
        state = 3;
        parts = line_parts (number_is (Num (pos 7)) ∷ []);
        shows = [] ∷ (num (pos 1) ∷ []) ∷ [];
      }) ≡ codes "state 3: A=7\nshow\nshow 1\n"
  pub global_told : is_told_as (list_at (1 ∷ []) (Num (pos 5))) (codes "L[1]=5")
  pub local_told : is_told_as (record { path = local_at []; shape = Num (pos 2) })
      (codes "local Y=2")
  pub local_length : is_told_as (record { path = local_at []; shape = Items 2 })
      (codes "|local Y|=2")
  pub global_cell : cell_text names known (Part (list_at (0 ∷ []) (Truth true)).path) ≡ codes "L[0]"
  pub local_cell : cell_text names known (Part (local_at (1 ∷ []))) ≡ codes "local Y[1]"

-- how a run's end is told
pub record EndLineExamples : Type 0 where
  pub goes_on : ends Went []
  pub finished : ends (Finished 3) (codes "finished: length 3\n")
  pub two_facts : ends (Contradictory 0 (Facts (number_is (Truth true)) (number_is (Num (pos 1)))))
      (codes "contradictory: state 0: A=1 and A=true\n")
  pub lesser_first : ends
      (Contradictory 0 (Facts (number_is (Num (pos 2))) (number_is (Num (pos 1)))))
      (codes "contradictory: state 0: A=1 and A=2\n")
  pub false_first : ends
      (Contradictory 0 (Facts (number_is (Truth true)) (number_is (Truth false))))
      (codes "contradictory: state 0: A=false and A=true\n")
  pub shorter_first : ends
      (Contradictory 4 (Facts (list_at (5 ∷ []) (Num (pos 1))) (list_at [] (Items 2))))
      (codes "contradictory: state 4: |L|=2 and L[5]=1\n")
  pub ends_and_goes_on : ends (Contradictory 0 (Marks 1))
      (codes "contradictory: state 0: ends and goes on at depth 1\n")
  pub never_true : ends (Contradictory 0 False) (codes "contradictory: state 0: false\n")
  pub wrong_kind : ends (Contradictory 0 (NoValue WrongKind))
      (codes "contradictory: state 0: no value: wrong kind\n")
  pub zero_divisor : ends (Contradictory 0 (NoValue ZeroDivisor))
      (codes "contradictory: state 0: no value: zero divisor\n")
  pub no_element : ends (Contradictory 0 (NoValue NoElement))
      (codes "contradictory: state 0: no value: no element\n")
  pub place_open : ends (Undetermined 1 (Part (list_at (0 ∷ []) (Items 0)).path))
      (codes "undetermined: state 1: L[0]\n")
  pub end_open : ends (Undetermined 0 (End 7 0)) (codes "undetermined: state 0: end at depth 0\n")
  pub state_limit : ends (StateLimit 3) (codes "state limit: 3\n")
  pub reduction_limit : ends (Over 0 limit.Reductions)
      (codes "reduction limit: state 0: 1000 reductions\n")
  pub number_limit : ends (Over 0 limit.Number) (codes "number limit: state 0\n")
  pub list_limit : ends (Over 0 limit.List) (codes "list limit: state 0\n")
  pub call_limit : ends (Over 0 limit.Calls) (codes "call limit: state 0\n")
  pub nest_limit : ends (Over 0 limit.Nest) (codes "nest limit: state 0\n")
  pub input_missing : ends (InputMissing 1 (codes "p")) (codes "input missing: state 1: port p\n")
