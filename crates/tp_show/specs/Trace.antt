-- Which bytes are a trace, which facts its lines give, and which line is the first that isn't
-- allowed.
use Rattle.std.specs.Prelude.{ℕ, Bool, false, ◌&&◌, ◌||◌, List, [], ◌∷◌, map, ◌≡◌, ◌≤◌, true, ◌++◌, length, slice_index, codes, nat_eq, suc, ◌<◌}
use Rattle.std.specs.List.{flat_map, list_any, starts_with}
use Rattle.std.specs.Str.{bytes_eq}
use Rattle.tp_value.specs.Tree.{Tree}
use Rattle.tp_value.specs.declared.path.VarId.{VarId}
use Rattle.tp_value.specs.declared.path.Path.{Path}
use Rattle.tp_value.specs.declared.path.Fact.{Fact}
use Rattle.tp_value.specs.declared.value.Shape.TheVariants.{Items}
use Rattle.tp_store.specs.Facts.{fact, facts_at, clash}
use Rattle.tp_show.specs.declared.named_fact.NamedFact.{NamedFact}
use Rattle.tp_show.specs.declared.turn.Picture.{Picture}
use Rattle.tp_show.specs.Texts.{global_name}
use Rattle.std.specs.Char.{is_ascii_alphabetic}
use Rattle.std.specs.Fmt.{decimal}
use Rattle.tp_value.specs.Limits.{index_limit, path_limit, length_limit, IsWithinLimits}
use Rattle.tp_value.specs.Spelling.{AreDigits, decimal_value, Spells}
use Rattle.tp_lex.specs.Bytes.{is_name_byte, name_limit}
use Rattle.tp_lex.specs.Pieces.{IsNoWord}
use Rattle.std.specs.Str.Lines.{lines}

-- ---- the facts that the line of a state gives

-- a part of a state's line: the value at the path of a name and indices, or the length of the list
-- there
pub data TracePart : Type 0 where
  has_value : (name at : List ℕ) → Tree → TracePart
  has_length : (name at : List ℕ) → ℕ → TracePart

-- facts of one name are taken as facts of one variable
abbrev pub some_variable : VarId
some_variable = record { number = 0; lasting = false }

abbrev pub path_in : VarId → (at : List ℕ) → Path
path_in x at = record { var = x; at = at }

-- the fact, told of a variable by its name
abbrev pub fact_named : List ℕ → Fact → NamedFact
fact_named name f = record { name = name; at = f.path.at; shape = f.shape }

-- The facts of the value, a list's length before the facts of its items and these in order; or the
-- one fact that tells the length.
abbrev pub part_facts : TracePart → List NamedFact
part_facts (has_value name at t) = map (fact_named name) (facts_at (path_in some_variable at) t)
part_facts (has_length name at n) = fact_named name (fact (path_in some_variable at) (Items n)) ∷ []

abbrev pub parts_facts : List TracePart → List NamedFact
parts_facts parts = flat_map part_facts parts

-- Two facts of one name clash where they clash as facts of one variable.
abbrev pub fact_in : VarId → NamedFact → Fact
fact_in x f = fact (path_in x f.at) f.shape

abbrev pub names_clash : NamedFact → NamedFact → Bool
names_clash f g =
    bytes_eq f.name g.name && clash (fact_in some_variable f) (fact_in some_variable g)

-- some two of the facts clash
abbrev pub have_clash : List NamedFact → Bool
have_clash [] = false
have_clash (f ∷ fs) = list_any (names_clash f) fs || have_clash fs

-- the fact, told of its variable by the variable's name
abbrev pub named_fact : (names : List (List ℕ)) → Fact → NamedFact
named_fact names f = fact_named (global_name names f.path.var.number) f

-- the facts of a picture, each under its variable's name
abbrev pub named_facts : (names : List (List ℕ)) → Picture → List NamedFact
named_facts names picture = map (named_fact names) picture.facts

-- ---- the lines of a trace

-- letters, digits and `_` alone
abbrev pub AreNameBytes : List ℕ → Type 0
AreNameBytes [] = Unit {0}
AreNameBytes (b ∷ z) = (is_name_byte b ≡ true) × AreNameBytes z

-- the name of a variable: a letter, and then letters, digits and `_`; it isn't too long and is no
-- word
pub record IsVariableName (name : List ℕ) : Type 0 where
  pub letter : is_ascii_alphabetic (slice_index name 0) ≡ true
  pub bytes : AreNameBytes name
  pub short : length name ≤ name_limit
  pub no_word : IsNoWord name

-- indices in brackets, one after another, as [1][02]
pub data SpellsIndices : List ℕ → List ℕ → Type 0 where
  none : SpellsIndices [] []
  index : (ds z is : List ℕ) → AreDigits ds → decimal_value ds ≤ index_limit → SpellsIndices z is
      → SpellsIndices (codes "[" ++ (ds ++ (codes "]" ++ z))) (decimal_value ds ∷ is)

-- a path: a name, and indices, which aren't too many, as L[1][2]
pub record SpellsPath (text name at : List ℕ) : Type 0 where
  pub variable_name : IsVariableName name
  pub indices : List ℕ
  pub split : text ≡ name ++ indices
  pub spelled : SpellsIndices indices at
  pub few : length at ≤ path_limit

-- a part: a value as L[1]=<1, 2>, or a length as |L[1]|=2
pub data SpellsPart : List ℕ → TracePart → Type 0 where
  value : (path name at v : List ℕ) (t : Tree) → SpellsPath path name at → Spells v t
      → IsWithinLimits t → SpellsPart (path ++ (codes "=" ++ v)) (has_value name at t)
  list_length : (path name at ds : List ℕ) → SpellsPath path name at → AreDigits ds
      → decimal_value ds ≤ length_limit
      → SpellsPart ((codes "|" ++ (path ++ codes "|")) ++ (codes "=" ++ ds))
      (has_length name at (decimal_value ds))

-- parts, each after one space
pub data SpellsParts : List ℕ → List TracePart → Type 0 where
  none : SpellsParts [] []
  part : (s z : List ℕ) (p : TracePart) (ps : List TracePart) → SpellsPart s p → SpellsParts z ps
      → SpellsParts (codes " " ++ (s ++ z)) (p ∷ ps)

-- what the line of the state with this number begins with
abbrev pub state_opening : ℕ → List ℕ
state_opening number = codes "state " ++ (decimal number ++ codes ":")

-- the line of the state with this number, as state 2: A=1 |L|=2; its parts give these facts, of
-- which no two clash
pub record IsStateLine (number : ℕ) (line : List ℕ) (facts : List NamedFact) : Type 0 where
  pub rest : List ℕ
  pub opening : line ≡ state_opening number ++ rest
  pub parts : List TracePart
  pub spelled : SpellsParts rest parts
  pub given : facts ≡ parts_facts parts
  pub no_clash : have_clash facts ≡ false

-- the line begins with one of these
abbrev pub opens_with_one : List (List ℕ) → List ℕ → Bool
opens_with_one openings line = list_any (λ opening. starts_with nat_eq line opening) openings

-- what a line begins with that is passed over
abbrev pub passed_openings : List (List ℕ)
passed_openings = codes "show" ∷ codes "reductions " ∷ codes "residual: " ∷ []

abbrev pub is_passed_over : List ℕ → Bool
is_passed_over line = opens_with_one passed_openings line

-- what the line begins with that ends the text of a run
abbrev pub run_end_openings : List (List ℕ)
run_end_openings =
    codes "finished:" ∷ codes "contradictory:" ∷ codes "undetermined:" ∷ codes "state limit:"
    ∷ codes "reduction limit:" ∷ codes "number limit:" ∷ codes "list limit:"
    ∷ codes "call limit:" ∷ codes "nest limit:" ∷ codes "input missing:" ∷ []

-- or that tells why there was no run
abbrev pub refusal_openings : List (List ℕ)
refusal_openings =
    codes "source refused:" ∷ codes "inputs refused:" ∷ codes "too long:" ∷ codes "read fault:"
    ∷ codes "words refused" ∷ []

-- the line that ends a trace
abbrev pub ends_trace : List ℕ → Bool
ends_trace line = opens_with_one run_end_openings line || opens_with_one refusal_openings line

-- ---- the whole trace

-- What may come behind the lines of so many states, with the facts of the states that come: nothing
-- more, the line of the next state, or, behind a state, a line that is passed over, or the line
-- that ends the trace.
pub data GoesOnWith : (states : ℕ) → List (List ℕ) → List (List NamedFact) → Type 0 where
  stop : {n : ℕ} → GoesOnWith n [] []
  state : {n : ℕ} {line : List ℕ} {texts : List (List ℕ)} {facts : List NamedFact} {states : List
      (List NamedFact)} → IsStateLine n line facts → GoesOnWith (suc n) texts states
      → GoesOnWith n (line ∷ texts) (facts ∷ states)
  passed : {n : ℕ} {line : List ℕ} {texts : List (List ℕ)} {states : List (List NamedFact)}
      → is_passed_over line ≡ true → GoesOnWith (suc n) texts states
      → GoesOnWith (suc n) (line ∷ texts) states
  end : {n : ℕ} {line : List ℕ} → ends_trace line ≡ true → GoesOnWith (suc n) (line ∷ []) []

-- the lines are a trace of one or more states, of which these are the facts
pub record IsTrace (texts : List (List ℕ)) (states : List (List NamedFact)) : Type 0 where
  pub lines_told : GoesOnWith 0 texts states
  pub some_state : 0 < length states

-- The bytes are a trace. A line ends with a line feed, or with a carriage return and a line feed,
-- which the last may lack.
abbrev pub IsTraceText : List ℕ → List (List NamedFact) → Type 0
IsTraceText bytes states = IsTrace (lines bytes) states

-- a trace begins with these lines
abbrev pub BeginsTrace : List (List ℕ) → Type 0
BeginsTrace texts =
    (more : List (List ℕ)) × (states : List (List NamedFact)) × IsTrace (texts ++ more) states

-- The line with this number, from 1, is the first that isn't allowed where it stands: a trace
-- begins with the lines before it, and none with these and the line. Where there is no line it is
-- the first.
pub data IsFirstBadLine : List (List ℕ) → ℕ → Type 0 where
  no_line : IsFirstBadLine [] 1
  not_allowed : (before : List (List ℕ)) (line : List ℕ) (after : List (List ℕ))
      → BeginsTrace before → ¬ BeginsTrace (before ++ line ∷ [])
      → IsFirstBadLine (before ++ line ∷ after) (suc (length before))
