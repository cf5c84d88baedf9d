-- What an end line tells of the end of its run: all of it, up to the numbers of locals and regions,
-- and up to which of two facts that clash was known first.
use Rattle.std.specs.Prelude.{◌≡◌, ℕ, ◌<◌, ◌≤◌, List, ◌++◌, map, length, All}
use Rattle.tp_value.specs.declared.path.VarId.{VarId}
use Rattle.tp_value.specs.declared.path.Path.{Path}
use Rattle.tp_value.specs.declared.path.Fact.{Fact}
use Rattle.tp_store.specs.Known.{Variable, IsVariableOf, global_variable, name_of}
use Rattle.tp_kernel.specs.declared.fault.FaultKind.{FaultKind}
use Rattle.tp_kernel.specs.declared.fault.LimitKind.{LimitKind}
use Rattle.tp_kernel.specs.declared.fault.LimitKind.TheVariants as limit
use Rattle.tp_scene.specs.declared.answer.Cell.{Cell}
use Rattle.tp_scene.specs.declared.answer.Cell.TheVariants.{Part, End}
use Rattle.tp_scene.specs.declared.answer.Clash.{Clash}
use Rattle.tp_scene.specs.declared.answer.Clash.TheVariants.{Facts, Marks, False, NoValue}
use Rattle.tp_show.specs.declared.turn.Turn.{Turn}
use Rattle.tp_show.specs.declared.turn.Turn.TheVariants.{Went, Finished, Contradictory, Undetermined, StateLimit, InputMissing, Over}
use Rattle.tp_show.specs.Line.{shape_part}
use Rattle.tp_show.specs.Told.{IsWord, AreNames, FitsIn64Bits, IsPartInRange}
use Rattle.tp_show.specs.Texts.{end_line}

-- The variables of a store are the globals and then locals, whose names are words; each is static
-- exactly where its name says so.
pub record AreStoreVariables (globals : List (List ℕ)) (known : List Variable) : Type 0 where
  pub locals : List (List ℕ)
  pub words : All IsWord locals
  pub all : known ≡ map global_variable (globals ++ locals)

-- ---- ends in numbers of 64 bits, and values of 128, of variables that are known

abbrev pub IsPlaceOf : (known : List Variable) → Path → Type 0
IsPlaceOf known path = IsVariableOf known path.var × All FitsIn64Bits path.at

abbrev pub IsFactOf : (known : List Variable) → Fact → Type 0
IsFactOf known fact =
    IsVariableOf known fact.path.var × IsPartInRange (shape_part fact.path fact.shape)

abbrev pub IsCellOf : (known : List Variable) → Cell → Type 0
IsCellOf known (Part path) = IsPlaceOf known path
IsCellOf known (End region depth) = FitsIn64Bits depth

abbrev pub IsClashOf : (known : List Variable) → Clash → Type 0
IsClashOf known (Facts kept new) = IsFactOf known kept × IsFactOf known new
IsClashOf known (Marks depth) = FitsIn64Bits depth
IsClashOf known False = Unit {0}
IsClashOf known (NoValue fault) = Unit {0}

abbrev pub IsTurnOf : (known : List Variable) → Turn → Type 0
IsTurnOf known Went = Unit {0}
IsTurnOf known (Finished length) = FitsIn64Bits length
IsTurnOf known (Contradictory state clash) = FitsIn64Bits state × IsClashOf known clash
IsTurnOf known (Undetermined state cell) = FitsIn64Bits state × IsCellOf known cell
IsTurnOf known (StateLimit states) = FitsIn64Bits states
IsTurnOf known (InputMissing state port) = FitsIn64Bits state
IsTurnOf known (Over state kind) = FitsIn64Bits state

-- ---- what two ends have in common that have one text, with what is known at the one and the other

-- one global, or two locals with one name, of which both are static or none is
pub data VariablesToldAlike (globals : List (List ℕ)) (known other : List Variable)
    : VarId → VarId → Type 0 where
  global : (x : VarId) → x.number < length globals → VariablesToldAlike globals known other x x
  local : (x y : VarId) → length globals ≤ x.number → length globals ≤ y.number
      → x.lasting ≡ y.lasting → name_of known x ≡ name_of other y
      → VariablesToldAlike globals known other x y

-- with the same indices
pub record PlacesToldAlike (globals : List (List ℕ)) (known other : List Variable) (p q : Path)
    : Type 0 where
  pub variables : VariablesToldAlike globals known other p.var q.var
  pub indices : p.at ≡ q.at

-- with the same number, truth value or length
pub record FactsToldAlike (globals : List (List ℕ)) (known other : List Variable) (f g : Fact)
    : Type 0 where
  pub places : PlacesToldAlike globals known other f.path g.path
  pub shapes : f.shape ≡ g.shape

-- alike places, or ends of regions of one depth
pub data CellsToldAlike (globals : List (List ℕ)) (known other : List Variable)
    : Cell → Cell → Type 0 where
  part : (p q : Path) → PlacesToldAlike globals known other p q
      → CellsToldAlike globals known other (Part p) (Part q)
  end : (region second depth : ℕ)
      → CellsToldAlike globals known other (End region depth) (End second depth)

-- Two alike facts, whichever of them was known first; or the same clash.
pub data ClashesToldAlike (globals : List (List ℕ)) (known other : List Variable)
    : Clash → Clash → Type 0 where
  in_order : (a b c d : Fact) → FactsToldAlike globals known other a c
      → FactsToldAlike globals known other b d
      → ClashesToldAlike globals known other (Facts a b) (Facts c d)
  turned : (a b c d : Fact) → FactsToldAlike globals known other a d
      → FactsToldAlike globals known other b c
      → ClashesToldAlike globals known other (Facts a b) (Facts c d)
  marks : (depth : ℕ) → ClashesToldAlike globals known other (Marks depth) (Marks depth)
  is_false : ClashesToldAlike globals known other False False
  no_value : (fault : FaultKind)
      → ClashesToldAlike globals known other (NoValue fault) (NoValue fault)

-- the same end, of alike clashes or cells
pub data EndsToldAlike (globals : List (List ℕ)) (known other : List Variable)
    : Turn → Turn → Type 0 where
  went : EndsToldAlike globals known other Went Went
  finished : (n : ℕ) → EndsToldAlike globals known other (Finished n) (Finished n)
  contradictory : (state : ℕ) (c d : Clash) → ClashesToldAlike globals known other c d
      → EndsToldAlike globals known other (Contradictory state c) (Contradictory state d)
  undetermined : (state : ℕ) (c d : Cell) → CellsToldAlike globals known other c d
      → EndsToldAlike globals known other (Undetermined state c) (Undetermined state d)
  state_limit : (states : ℕ)
      → EndsToldAlike globals known other (StateLimit states) (StateLimit states)
  input_missing : (state : ℕ) (port : List ℕ)
      → EndsToldAlike globals known other (InputMissing state port) (InputMissing state port)
  over : (state : ℕ) (kind : LimitKind)
      → EndsToldAlike globals known other (Over state kind) (Over state kind)

-- the end is at the limit of reductions
abbrev pub IsAtReductions : Turn → Type 0
IsAtReductions turn = (state : ℕ) × (turn ≡ Over state limit.Reductions)

-- What one end line, of two runs of one program, says of both: their ends are told alike, and at
-- the limit of reductions that limit is the same.
abbrev pub EndLinesTell : Type 0
EndLinesTell =
    (globals : List (List ℕ)) → AreNames globals → (known other : List Variable)
    → AreStoreVariables globals known → AreStoreVariables globals other
    → (reductions most : ℕ) → FitsIn64Bits reductions → FitsIn64Bits most
    → (turn last : Turn) → IsTurnOf known turn → IsTurnOf other last
    → end_line globals known reductions turn ≡ end_line globals other most last
    → EndsToldAlike globals known other turn last
    × (IsAtReductions turn → reductions ≡ most)
