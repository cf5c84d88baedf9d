-- How paths, facts, cells and clashes are written, and the end line of a run.
use Rattle.std.specs.Prelude.{ℕ, nat_lt, nat_le, int_le, Bool, true, false, List, [], ◌++◌, length, slice_get, unwrap_or, if◌then◌else◌, codes}
use Rattle.std.specs.List.{flat_map}
use Rattle.std.specs.Fmt.{decimal, signed_decimal}
use Rattle.tp_value.specs.declared.path.VarId.{VarId}
use Rattle.tp_value.specs.declared.path.Path.{Path}
use Rattle.tp_value.specs.declared.path.Fact.{Fact}
use Rattle.tp_value.specs.declared.value.Shape.{Shape}
use Rattle.tp_value.specs.declared.value.Shape.TheVariants.{Num, Truth, Items}
use Rattle.tp_store.specs.Known.{Variable, name_of}
use Rattle.tp_kernel.specs.declared.fault.FaultKind.{FaultKind}
use Rattle.tp_kernel.specs.declared.fault.FaultKind.TheVariants.{WrongKind, ZeroDivisor, NoElement}
use Rattle.tp_scene.specs.declared.answer.Cell.{Cell}
use Rattle.tp_scene.specs.declared.answer.Cell.TheVariants.{Part, End}
use Rattle.tp_scene.specs.declared.answer.Clash.{Clash}
use Rattle.tp_scene.specs.declared.answer.Clash.TheVariants.{Facts, Marks, False, NoValue}
use Rattle.tp_kernel.specs.declared.fault.LimitKind.{LimitKind}
use Rattle.tp_kernel.specs.declared.fault.LimitKind.TheVariants as limit
use Rattle.tp_show.specs.declared.turn.Turn.{Turn}
use Rattle.tp_show.specs.declared.turn.Turn.TheVariants.{Went, Finished, Contradictory, Undetermined, StateLimit, InputMissing, Over}

-- the name of the global variable with that number; a number that no variable has is not written
abbrev pub global_name : List (List ℕ) → ℕ → List ℕ
global_name names number = unwrap_or (slice_get names number) []

abbrev pub index_text : ℕ → List ℕ
index_text i = codes "[" ++ decimal i ++ codes "]"

-- as L[1]
abbrev pub path_text : List (List ℕ) → Path → List ℕ
path_text names path = global_name names path.var.number ++ flat_map index_text path.at

abbrev pub truth_text : Bool → List ℕ
truth_text true = codes "true"
truth_text false = codes "false"

-- the place of a path has this shape, as A=1, A=true and |L|=2
abbrev pub shaped_text : List ℕ → Shape → List ℕ
shaped_text path (Num n) = path ++ codes "=" ++ signed_decimal n
shaped_text path (Truth b) = path ++ codes "=" ++ truth_text b
shaped_text path (Items n) = codes "|" ++ path ++ codes "|=" ++ decimal n

-- `globals` are the names of the globals, and `known` are the variables of a store, of which the
-- globals are the first
module _ (globals : List (List ℕ)) (known : List Variable) where
  -- a global by its name, and a local by `local ` and the name that the store keeps for it
  abbrev pub variable_text : VarId → List ℕ
  variable_text x =
      if nat_lt x.number (length globals) then global_name globals x.number
      else codes "local " ++ unwrap_or (name_of known x) []

  -- as L[1], and local Y[1]
  abbrev pub variable_path_text : Path → List ℕ
  variable_path_text path = variable_text path.var ++ flat_map index_text path.at

  -- as A=1, local Y=2 and |local Y|=2
  abbrev pub variable_fact_text : Fact → List ℕ
  variable_fact_text fact = shaped_text (variable_path_text fact.path) fact.shape

  abbrev pub cell_text : Cell → List ℕ
  cell_text (Part path) = variable_path_text path
  cell_text (End region depth) = codes "end at depth " ++ decimal depth

-- numbers before truth values before lengths, then the smaller, and `false` before `true`
abbrev pub shape_comes_first : Shape → Shape → Bool
shape_comes_first (Num a) (Num b) = int_le a b
shape_comes_first (Num a) (Truth b) = true
shape_comes_first (Num a) (Items b) = true
shape_comes_first (Truth a) (Num b) = false
shape_comes_first (Truth false) (Truth b) = true
shape_comes_first (Truth true) (Truth b) = b
shape_comes_first (Truth a) (Items b) = true
shape_comes_first (Items a) (Num b) = false
shape_comes_first (Items a) (Truth b) = false
shape_comes_first (Items a) (Items b) = nat_le a b

-- of two facts that clash the one with the shorter path comes first, else the one whose shape does
abbrev pub comes_first : Fact → Fact → Bool
comes_first a b =
    if nat_lt (length a.path.at) (length b.path.at) then true
    else (if nat_lt (length b.path.at) (length a.path.at) then false
    else shape_comes_first a.shape b.shape)

abbrev pub pair_text : List ℕ → List ℕ → List ℕ
pair_text first second = first ++ codes " and " ++ second

-- why an expression has no value
abbrev pub fault_text : FaultKind → List ℕ
fault_text WrongKind = codes "wrong kind"
fault_text ZeroDivisor = codes "zero divisor"
fault_text NoElement = codes "no element"

abbrev pub clash_text : (globals : List (List ℕ)) (known : List Variable) → Clash → List ℕ
clash_text globals known (Facts a b) =
    let first = variable_fact_text globals known a in
    let second = variable_fact_text globals known b in
    if comes_first a b then pair_text first second else pair_text second first
clash_text globals known (Marks depth) = codes "ends and goes on at depth " ++ decimal depth
clash_text globals known False = codes "false"
clash_text globals known (NoValue fault) = codes "no value: " ++ fault_text fault

-- ---- the end line of a run

-- a word for an end, and the state that it speaks of
abbrev pub state_text : List ℕ → ℕ → List ℕ
state_text word state = word ++ codes ": state " ++ decimal state

-- a state took so many reductions, and one more applies
abbrev pub reductions_text : (reductions state : ℕ) → List ℕ
reductions_text reductions state =
    state_text (codes "reduction limit") state ++ (codes ": " ++ decimal reductions)
    ++ codes " reductions"

-- a limit was met in this state
abbrev pub limit_text : (reductions state : ℕ) → LimitKind → List ℕ
limit_text reductions state limit.Reductions = reductions_text reductions state
limit_text reductions state limit.Number = state_text (codes "number limit") state
limit_text reductions state limit.List = state_text (codes "list limit") state
limit_text reductions state limit.Calls = state_text (codes "call limit") state
limit_text reductions state limit.Nest = state_text (codes "nest limit") state

-- What the end line says of a run with these globals, at whose end these variables are known, and
-- of which a state takes at most so many reductions; a run that goes on has none.
abbrev pub last_words : (globals : List (List ℕ)) (known : List Variable) (reductions : ℕ) → Turn
    → List ℕ
last_words globals known reductions Went = []
last_words globals known reductions (Finished length) = codes "finished: length " ++ decimal length
last_words globals known reductions (Contradictory state clash) =
    state_text (codes "contradictory") state ++ codes ": " ++ clash_text globals known clash
last_words globals known reductions (Undetermined state cell) =
    state_text (codes "undetermined") state ++ codes ": " ++ cell_text globals known cell
last_words globals known reductions (StateLimit states) = codes "state limit: " ++ decimal states
last_words globals known reductions (InputMissing state port) =
    state_text (codes "input missing") state ++ codes ": port " ++ port
last_words globals known reductions (Over state kind) = limit_text reductions state kind

abbrev pub end_line : (globals : List (List ℕ)) (known : List Variable) (reductions : ℕ) → Turn
    → List ℕ
end_line globals known reductions Went = []
end_line globals known reductions turn = last_words globals known reductions turn ++ codes "\n"
