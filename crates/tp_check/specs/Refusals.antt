-- The rules that phrases keep where they stand, and that a refusal names the first phrase that
-- breaks one.
use Rattle.std.specs.Prelude.{◌≡◌, ◌≢◌, ◌<◌, ◌≤◌, ◌⊎◌, ℕ, zero, suc, ◌&&◌, ◌||◌, Bool, true, false, if◌then◌else◌, List, [], ◌∷◌, ◌++◌, length, map, Option, Some, None, Err, Ok, slice_get}
use Rattle.tp_tree.specs.declared.operator.Op.TheVariants as op
use Rattle.tp_tree.specs.declared.operator.Form.{Form}
use Rattle.tp_tree.specs.declared.operator.Form.TheVariants as f
use Rattle.tp_tree.specs.Tree.{PhraseTree, phrase, KindTree, number, truth, name, list, size, index, minus, next, negation, binary, conjunction, choice, choice_else, while, repeat, for, forall, exists, bare, form, call, PhraseTrees, no_phrase, phrase_then, SourceTree}
use Rattle.tp_meaning.specs.Value.{is_upper}
use Rattle.tp_meaning.specs.Interval.{ProgramTree}
use Rattle.tp_check.specs.declared.refusal.CheckRefusal.{CheckRefusal}
use Rattle.tp_check.specs.declared.refusal.CheckRefusal.TheVariants.{Twice, Unknown, WrongCount, NotExpression, NotPlace, NotPort, NotExecutable, NoMemory}
use Rattle.tp_scope.specs.Scope.{Names, Signature, Called, called_of}
use Rattle.tp_scope.specs.Names.{has_repeat, twice_defined, signatures_of, calls_state, AreStates}
use Rattle.tp_scope.specs.Phrases.{is_state_operator, is_state_phrase, is_place_phrase, is_place_kind, is_port_kind, takes, phrase_count, nexts_of, behind_nexts}
use Rattle.tp_check.specs.Program.{ChecksTo}

-- ---- where phrases stand

-- what is due where a phrase stands
pub data Position : Type 0 where
  formula : Position
  expression : Position
  place : Position
  port : Position

-- a phrase where it stands
pub record Placed : Type 0 where
  pub position : Position
  pub phrase : PhraseTree

abbrev pub as_formula : PhraseTree → Placed
as_formula p = record { position = formula; phrase = p }

abbrev pub as_expression : PhraseTree → Placed
as_expression p = record { position = expression; phrase = p }

abbrev pub as_place : PhraseTree → Placed
as_place p = record { position = place; phrase = p }

abbrev pub as_port : PhraseTree → Placed
as_port p = record { position = port; phrase = p }

abbrev pub as_formulas : PhraseTrees → List Placed
as_formulas no_phrase = []
as_formulas (phrase_then p ps) = as_formula p ∷ as_formulas ps

abbrev pub as_expressions : PhraseTrees → List Placed
as_expressions no_phrase = []
as_expressions (phrase_then p ps) = as_expression p ∷ as_expressions ps

-- the operands of a call: places for upper-case parameters, expressions for lower-case ones
abbrev pub as_arguments : PhraseTrees → (parameters : Names) → List Placed
as_arguments (phrase_then p ps) (x ∷ xs) =
    (if is_upper x then as_place p else as_expression p) ∷ as_arguments ps xs
as_arguments no_phrase xs = []
as_arguments (phrase_then p ps) [] = []

abbrev pub arguments_of : Option Called → PhraseTrees → List Placed
arguments_of (Some c) ps = as_arguments ps c.signature.parameters
arguments_of None ps = []

-- The right side of an equation, with so many `next` in front of the left one: it is without the
-- `next` in front of it, unless the left side has one.
abbrev pub right_side : (left_nexts : ℕ) → PhraseTree → PhraseTree
right_side zero r = behind_nexts r
right_side (suc n) r = r

-- The operands of a phrase where an expression or a place is due, from left to right; of a phrase
-- that is refused there whatever stands in it there are none.
abbrev pub operands_of_expression : List Signature → KindTree → List Placed
operands_of_expression definitions (list ps) = as_expressions ps
operands_of_expression definitions (size p) = as_expression p ∷ []
operands_of_expression definitions (index p i) = as_expression p ∷ as_expression i ∷ []
operands_of_expression definitions (minus p) = as_expression p ∷ []
operands_of_expression definitions (negation p) = as_expression p ∷ []
operands_of_expression definitions (binary o l r) = as_expression l ∷ as_expression r ∷ []
operands_of_expression definitions (conjunction ps) = as_expressions ps
operands_of_expression definitions (choice_else b p q) =
    as_expression b ∷ as_expression p ∷ as_expression q ∷ []
operands_of_expression definitions (call x ps) = arguments_of (called_of definitions x) ps
-- these have none
operands_of_expression definitions (number n) = []
operands_of_expression definitions (truth b) = []
operands_of_expression definitions (name x) = []
-- these are no expressions
operands_of_expression definitions (next p) = []
operands_of_expression definitions (choice b p) = []
operands_of_expression definitions (while b p) = []
operands_of_expression definitions (repeat p b) = []
operands_of_expression definitions (for x e p) = []
operands_of_expression definitions (forall x e p) = []
operands_of_expression definitions (exists xs p) = []
operands_of_expression definitions (bare word) = []
operands_of_expression definitions (form word ps) = []

-- those of a phrase where a formula is due
abbrev pub operands_of_formula : List Signature → KindTree → List Placed
operands_of_formula definitions (conjunction ps) = as_formulas ps
operands_of_formula definitions (binary op.Chop l r) = as_formula l ∷ as_formula r ∷ []
operands_of_formula definitions (binary op.Proj l r) = as_formula l ∷ as_formula r ∷ []
operands_of_formula definitions (binary op.Equal l r) =
    as_expression (behind_nexts l) ∷ as_expression (right_side (nexts_of l) r) ∷ []
operands_of_formula definitions (binary op.Gets l r) = as_place l ∷ as_expression r ∷ []
operands_of_formula definitions (binary op.Arrow l r) = as_place l ∷ as_expression r ∷ []
operands_of_formula definitions (binary op.Becomes l r) = as_place l ∷ as_expression r ∷ []
operands_of_formula definitions (next w) = as_formula w ∷ []
operands_of_formula definitions (form f.Always (phrase_then w no_phrase)) = as_formula w ∷ []
operands_of_formula definitions (form f.Keep (phrase_then w no_phrase)) = as_formula w ∷ []
operands_of_formula definitions (form f.Fin (phrase_then w no_phrase)) = as_formula w ∷ []
operands_of_formula definitions (form f.Halt (phrase_then b no_phrase)) = as_expression b ∷ []
operands_of_formula definitions (form f.Stable (phrase_then p no_phrase)) = as_place p ∷ []
operands_of_formula definitions (form f.Len (phrase_then e no_phrase)) = as_expression e ∷ []
operands_of_formula definitions (form f.List (phrase_then l (phrase_then e no_phrase))) =
    as_place l ∷ as_expression e ∷ []
operands_of_formula definitions (form f.Input (phrase_then x (phrase_then p no_phrase))) =
    as_place x ∷ as_port p ∷ []
operands_of_formula definitions (form f.Display ps) = as_expressions ps
-- `sometimes` isn't run
operands_of_formula definitions (form f.Sometimes ps) = []
-- and these have a wrong number of operands
operands_of_formula definitions (form f.Always ps) = []
operands_of_formula definitions (form f.Keep ps) = []
operands_of_formula definitions (form f.Fin ps) = []
operands_of_formula definitions (form f.Halt ps) = []
operands_of_formula definitions (form f.Stable ps) = []
operands_of_formula definitions (form f.Len ps) = []
operands_of_formula definitions (form f.List ps) = []
operands_of_formula definitions (form f.Input ps) = []
operands_of_formula definitions (choice b w) = as_expression b ∷ as_formula w ∷ []
operands_of_formula definitions (choice_else b w v) =
    as_expression b ∷ as_formula w ∷ as_formula v ∷ []
operands_of_formula definitions (while b w) = as_expression b ∷ as_formula w ∷ []
operands_of_formula definitions (repeat w b) = as_formula w ∷ as_expression b ∷ []
operands_of_formula definitions (for x e w) = as_expression e ∷ as_formula w ∷ []
operands_of_formula definitions (forall x e w) = as_expression e ∷ as_formula w ∷ []
operands_of_formula definitions (exists xs w) = as_formula w ∷ []
-- these have none
operands_of_formula definitions (number n) = []
operands_of_formula definitions (truth b) = []
operands_of_formula definitions (name x) = []
operands_of_formula definitions (bare word) = []
-- and these have those that they have as expressions
operands_of_formula definitions (binary op.Or l r) =
    operands_of_expression definitions (binary op.Or l r)
operands_of_formula definitions (binary op.Differs l r) =
    operands_of_expression definitions (binary op.Differs l r)
operands_of_formula definitions (binary op.Less l r) =
    operands_of_expression definitions (binary op.Less l r)
operands_of_formula definitions (binary op.LessEqual l r) =
    operands_of_expression definitions (binary op.LessEqual l r)
operands_of_formula definitions (binary op.Greater l r) =
    operands_of_expression definitions (binary op.Greater l r)
operands_of_formula definitions (binary op.GreaterEqual l r) =
    operands_of_expression definitions (binary op.GreaterEqual l r)
operands_of_formula definitions (binary op.Plus l r) =
    operands_of_expression definitions (binary op.Plus l r)
operands_of_formula definitions (binary op.Minus l r) =
    operands_of_expression definitions (binary op.Minus l r)
operands_of_formula definitions (binary op.Times l r) =
    operands_of_expression definitions (binary op.Times l r)
operands_of_formula definitions (binary op.Div l r) =
    operands_of_expression definitions (binary op.Div l r)
operands_of_formula definitions (binary op.Mod l r) =
    operands_of_expression definitions (binary op.Mod l r)
operands_of_formula definitions (list ps) = operands_of_expression definitions (list ps)
operands_of_formula definitions (size p) = operands_of_expression definitions (size p)
operands_of_formula definitions (index p i) = operands_of_expression definitions (index p i)
operands_of_formula definitions (minus p) = operands_of_expression definitions (minus p)
operands_of_formula definitions (negation p) = operands_of_expression definitions (negation p)
operands_of_formula definitions (call x ps) = operands_of_expression definitions (call x ps)

abbrev pub operands_by : List Signature → Position → KindTree → List Placed
operands_by definitions formula kind = operands_of_formula definitions kind
operands_by definitions expression kind = operands_of_expression definitions kind
operands_by definitions place kind = operands_of_expression definitions kind
-- nothing stands in a port
operands_by definitions port kind = []

abbrev pub kind_there : PhraseTree → KindTree
kind_there (phrase at kind) = kind

abbrev pub operands_there : List Signature → Placed → List Placed
operands_there definitions p = operands_by definitions p.position (kind_there p.phrase)

-- The one is the other, or it stands in it by this path: which of the operands is taken at each
-- step, from 0.
abbrev pub StandsIn : List Signature → Placed → (path : List ℕ) → Placed → Type 0
StandsIn definitions p [] q = p ≡ q
StandsIn definitions p (i ∷ path) q =
    (r : Placed) × (slice_get (operands_there definitions p) i ≡ Some r)
    × StandsIn definitions r path q

-- it stands among these, where the path says first in which
abbrev pub StandsAmong : List Signature → List Placed → (path : List ℕ) → Placed → Type 0
StandsAmong definitions ps [] q = ⊥
StandsAmong definitions ps (i ∷ path) q =
    (p : Placed) × (slice_get ps i ≡ Some p) × StandsIn definitions p path q

-- The phrases of a source that stand in no other one, in order: the bodies of the definitions, and
-- the main phrase last. The body of a state definition is an expression besides, but then it breaks
-- no rule that it doesn't break as a formula.
abbrev pub outer_phrases : SourceTree → List Placed
outer_phrases source =
    map (λ d. as_formula d.body) source.definitions ++ as_formula source.main ∷ []

-- ---- the rules

-- the kinds that are expressions, where a call is one if it calls a state definition
abbrev pub is_expression_kind : List Signature → KindTree → Bool
is_expression_kind definitions (number n) = true
is_expression_kind definitions (truth b) = true
is_expression_kind definitions (name x) = true
is_expression_kind definitions (list ps) = true
is_expression_kind definitions (size p) = true
is_expression_kind definitions (index p i) = true
is_expression_kind definitions (minus p) = true
is_expression_kind definitions (negation p) = true
is_expression_kind definitions (binary o l r) = is_state_operator o
is_expression_kind definitions (conjunction ps) = true
is_expression_kind definitions (choice_else b p q) = true
is_expression_kind definitions (call x ps) = calls_state definitions x
is_expression_kind definitions (next p) = false
is_expression_kind definitions (choice b p) = false
is_expression_kind definitions (while b p) = false
is_expression_kind definitions (repeat p b) = false
is_expression_kind definitions (for x e p) = false
is_expression_kind definitions (forall x e p) = false
is_expression_kind definitions (exists xs p) = false
is_expression_kind definitions (bare w) = false
is_expression_kind definitions (form word ps) = false

-- the kinds that are run as formulas: `not` over places and state phrases, `or` over state phrases,
-- all other operators, all forms but `sometimes`, and all other kinds
abbrev pub is_run_kind : List Signature → KindTree → Bool
is_run_kind definitions (negation p) =
    is_place_phrase p || is_state_phrase (calls_state definitions) p
is_run_kind definitions (binary op.Or l r) =
    is_state_phrase (calls_state definitions) l && is_state_phrase (calls_state definitions) r
is_run_kind definitions (binary op.Chop l r) = true
is_run_kind definitions (binary op.Proj l r) = true
is_run_kind definitions (binary op.Equal l r) = true
is_run_kind definitions (binary op.Differs l r) = true
is_run_kind definitions (binary op.Less l r) = true
is_run_kind definitions (binary op.LessEqual l r) = true
is_run_kind definitions (binary op.Greater l r) = true
is_run_kind definitions (binary op.GreaterEqual l r) = true
is_run_kind definitions (binary op.Gets l r) = true
is_run_kind definitions (binary op.Arrow l r) = true
is_run_kind definitions (binary op.Becomes l r) = true
is_run_kind definitions (binary op.Plus l r) = true
is_run_kind definitions (binary op.Minus l r) = true
is_run_kind definitions (binary op.Times l r) = true
is_run_kind definitions (binary op.Div l r) = true
is_run_kind definitions (binary op.Mod l r) = true
is_run_kind definitions (form f.Sometimes ps) = false
is_run_kind definitions (form f.Always ps) = true
is_run_kind definitions (form f.Keep ps) = true
is_run_kind definitions (form f.Fin ps) = true
is_run_kind definitions (form f.Halt ps) = true
is_run_kind definitions (form f.Stable ps) = true
is_run_kind definitions (form f.Len ps) = true
is_run_kind definitions (form f.List ps) = true
is_run_kind definitions (form f.Input ps) = true
is_run_kind definitions (form f.Display ps) = true
is_run_kind definitions (number n) = true
is_run_kind definitions (truth b) = true
is_run_kind definitions (name x) = true
is_run_kind definitions (list ps) = true
is_run_kind definitions (size p) = true
is_run_kind definitions (index p i) = true
is_run_kind definitions (minus p) = true
is_run_kind definitions (next p) = true
is_run_kind definitions (conjunction ps) = true
is_run_kind definitions (choice b p) = true
is_run_kind definitions (choice_else b p q) = true
is_run_kind definitions (while b p) = true
is_run_kind definitions (repeat p b) = true
is_run_kind definitions (for x e p) = true
is_run_kind definitions (forall x e p) = true
is_run_kind definitions (exists xs p) = true
is_run_kind definitions (bare word) = true
is_run_kind definitions (call x ps) = true

-- A phrase breaks a rule where it stands, and this refusal names the rule and the phrase's place.
pub data Breaks (definitions : List Signature) : Position → PhraseTree → CheckRefusal → Type 0 where
  -- a call of no definition
  unknown : (position : Position) (at : ℕ) (x : List ℕ) (ps : PhraseTrees)
      → called_of definitions x ≡ None
      → Breaks definitions position (phrase at (call x ps)) (Unknown at)
  -- a call with another number of operands than what it calls has parameters
  call_count : (position : Position) (at : ℕ) (x : List ℕ) (ps : PhraseTrees) (c : Called)
      → called_of definitions x ≡ Some c → phrase_count ps ≢ length c.signature.parameters
      → Breaks definitions position (phrase at (call x ps)) (WrongCount at)
  -- a form with a number of operands that it doesn't take
  form_count : (position : Position) (at : ℕ) (word : Form) (ps : PhraseTrees)
      → takes word (phrase_count ps) ≡ false
      → Breaks definitions position (phrase at (form word ps)) (WrongCount at)
  -- an `exists` that binds a name twice
  twice : (position : Position) (at : ℕ) (xs : Names) (p : PhraseTree) → has_repeat xs ≡ true
      → Breaks definitions position (phrase at (exists xs p)) (Twice at)
  -- no expression where one is due
  no_expression : (at : ℕ) (kind : KindTree) → is_expression_kind definitions kind ≡ false
      → Breaks definitions expression (phrase at kind) (NotExpression at)
  -- no place where one is due
  no_place : (at : ℕ) (kind : KindTree) → is_place_kind kind ≡ false
      → Breaks definitions place (phrase at kind) (NotPlace at)
  -- no port where one is due
  no_port : (at : ℕ) (kind : KindTree) → is_port_kind kind ≡ false
      → Breaks definitions port (phrase at kind) (NotPort at)
  -- what isn't run where a formula is due
  isnt_run : (at : ℕ) (kind : KindTree) → is_run_kind definitions kind ≡ false
      → Breaks definitions formula (phrase at kind) (NotExecutable at)

-- ---- the first that is broken

-- the order of paths: a phrase before its operands, and these from left to right
abbrev pub IsBefore : List ℕ → List ℕ → Type 0
IsBefore [] [] = ⊥
IsBefore [] (j ∷ js) = Unit {0}
IsBefore (i ∷ is) [] = ⊥
IsBefore (i ∷ is) (j ∷ js) = (i < j) ⊎ ((i ≡ j) × IsBefore is js)

-- the order of the rules at one phrase
abbrev pub turn_of : CheckRefusal → ℕ
turn_of (Unknown at) = 0
turn_of (WrongCount at) = 1
turn_of (Twice at) = 2
turn_of (NotExpression at) = 3
turn_of (NotPlace at) = 3
turn_of (NotPort at) = 3
turn_of (NotExecutable at) = 3
turn_of NoMemory = 4

-- a rule that is broken by the phrase with this path doesn't come after another one, that with the
-- second path
abbrev pub IsNoLater : List ℕ → CheckRefusal → List ℕ → CheckRefusal → Type 0
IsNoLater path e path' e' = IsBefore path path' ⊎ ((path ≡ path') × (turn_of e ≤ turn_of e'))

-- The refusal names the first rule that is broken among these phrases and what stands in them.
pub record IsFirstBroken (definitions : List Signature) (ps : List Placed)
    (e : CheckRefusal) : Type 0 where
  pub path : List ℕ
  pub broken_by : Placed
  pub stands : StandsAmong definitions ps path broken_by
  pub breaks : Breaks definitions broken_by.position broken_by.phrase e
  pub first : (path' : List ℕ) (p : Placed) (e' : CheckRefusal) → StandsAmong definitions ps path' p
      → Breaks definitions p.position p.phrase e' → IsNoLater path e path' e'

-- none is broken
abbrev pub AreKept : List Signature → List Placed → Type 0
AreKept definitions ps =
    (path : List ℕ) (p : Placed) (e : CheckRefusal) → StandsAmong definitions ps path p
    → Breaks definitions p.position p.phrase e → ⊥

-- A source is refused for a definition's name or a parameter that is defined twice, or else for the
-- first rule that is broken.
abbrev pub RefusalsNameBroken : Type 0
RefusalsNameBroken =
    (source : SourceTree) (e : CheckRefusal) → ChecksTo source (Err e) →
    ((at : ℕ) × (twice_defined [] source.definitions ≡ Some at) × (e ≡ Twice at))
    ⊎ ((states : List Bool) × (twice_defined [] source.definitions ≡ None)
    × AreStates source.definitions states
    × IsFirstBroken (signatures_of source.definitions states) (outer_phrases source) e)

-- And what a program is made of breaks none.
abbrev pub ProgramsKeepRules : Type 0
ProgramsKeepRules =
    (source : SourceTree) (p : ProgramTree) → ChecksTo source (Ok p) →
    (states : List Bool) × (twice_defined [] source.definitions ≡ None)
    × AreStates source.definitions states
    × AreKept (signatures_of source.definitions states) (outer_phrases source)
