-- What the text of a run tells, and that it can be read back in one way only.
use Rattle.std.specs.Prelude.{◌≡◌, ◌<◌, ◌^◌, ℕ, suc, nat_le, ◌==◌, ◌&&◌, ◌||◌, Bool, IsTrue, List, [], ◌∷◌, map, length, All, Some}
use Rattle.tp_value.specs.Tree.{Tree}
use Rattle.tp_value.specs.Range.{HasMachineNumbers}
use Rattle.tp_value.specs.Shape.{shape_at_path, item_at}
use Rattle.tp_value.specs.declared.value.Shape.TheVariants.{Items}
use Rattle.tp_meaning.specs.Course.{Course, Shows, blank, ◌⊕◌, shown_at}
use Rattle.tp_store.specs.Known.{Variable, IsVariableOf, global_variable}
use Rattle.tp_show.specs.declared.turn.Picture.{Picture}
use Rattle.tp_show.specs.declared.turn.Turn.{Turn}
use Rattle.tp_show.specs.declared.turn.Turn.TheVariants.{Went, Finished, Contradictory, Undetermined, StateLimit, InputMissing, Over}
use Rattle.tp_show.specs.Texts.{global_name, end_line}
use Rattle.tp_show.specs.Line.{LinePartTree, valued, measured, ToldState, told_of}

-- a letter, a digit, `_` or `-`: the bytes of names and of numbers
abbrev pub is_word_byte : ℕ → Bool
is_word_byte c =
    (nat_le 48 c && nat_le c 57) || (nat_le 65 c && nat_le c 90) || (nat_le 97 c && nat_le c 122)
    || (c == 95) || (c == 45)

abbrev pub IsWord : List ℕ → Type 0
IsWord [] = Unit {0}
IsWord (c ∷ cs) = IsTrue (is_word_byte c) × IsWord cs

-- names of variables: each is a word, and none stands twice
pub record AreNames (names : List (List ℕ)) : Type 0 where
  pub words : (i : ℕ) → i < length names → IsWord (global_name names i)
  pub apart : (i j : ℕ) → i < length names → j < length names
      → global_name names i ≡ global_name names j → i ≡ j

abbrev pub FitsIn64Bits : ℕ → Type 0
FitsIn64Bits n = n < 2 ^ 64

-- what is told is told in numbers of 64 bits
abbrev pub IsPartInRange : LinePartTree → Type 0
IsPartInRange (valued p t) = All FitsIn64Bits p.at × HasMachineNumbers t
IsPartInRange (measured p n) = All FitsIn64Bits p.at × FitsIn64Bits n

abbrev pub ArePartsInRange : List LinePartTree → Type 0
ArePartsInRange parts = All IsPartInRange parts

abbrev pub AreShowsInRange : List (List Tree) → Type 0
AreShowsInRange shows = All (All HasMachineNumbers) shows

pub record IsToldInRange (told : ToldState) : Type 0 where
  pub state : FitsIn64Bits told.state
  pub parts : ArePartsInRange told.parts
  pub shows : AreShowsInRange told.shows

abbrev pub IsPictureInRange : Picture → Type 0
IsPictureInRange picture = IsToldInRange (told_of picture)

-- the part is of one of the variables with these names
abbrev pub IsPartOf : (names : List (List ℕ)) → LinePartTree → Type 0
IsPartOf names (valued p t) = IsVariableOf (map global_variable names) p.var
IsPartOf names (measured p n) = IsVariableOf (map global_variable names) p.var

-- a state that a text can tell of the variables with these names
pub record IsToldOf (names : List (List ℕ)) (told : ToldState) : Type 0 where
  pub range : IsToldInRange told
  pub variables : All (IsPartOf names) told.parts

-- the variables' values are such as a part tells: this value stands there, or a list of this length
abbrev pub HasPart : (values : ℕ → Tree) → LinePartTree → Type 0
HasPart values (valued p t) = item_at p.at (values p.var.number) ≡ Some t
HasPart values (measured p n) = shape_at_path p.at (values p.var.number) ≡ Some (Items n)

-- each state from position a on has the parts that are told of its turn
abbrev pub AgreesWithTold : Course → ℕ → List ToldState → Type 0
AgreesWithTold s a [] = Unit {0}
AgreesWithTold s a (told ∷ more) =
    All (HasPart (s a).values) told.parts × AgreesWithTold s (suc a) more

-- what is told to be shown, from position a on
abbrev pub told_shows : ℕ → List ToldState → Shows
told_shows a [] = blank
told_shows a (told ∷ more) = shown_at a told.shows ⊕ told_shows (suc a) more

-- the run ends with this answer
abbrev pub IsLastTurn : Turn → Type 0
IsLastTurn Went = ⊥
IsLastTurn (Finished length) = Unit {0}
IsLastTurn (Contradictory state clash) = Unit {0}
IsLastTurn (Undetermined state cell) = Unit {0}
IsLastTurn (StateLimit states) = Unit {0}
IsLastTurn (InputMissing state port) = Unit {0}
IsLastTurn (Over state limit) = Unit {0}

-- the end line of a run with these globals: of some last answer, some variables that are known
-- then, and some limit of reductions
abbrev pub IsEndLine : (globals : List (List ℕ)) → List ℕ → Type 0
IsEndLine globals line =
    (known : List Variable) × (reductions : ℕ) × (turn : Turn) × IsLastTurn turn
    × (line ≡ end_line globals known reductions turn)
