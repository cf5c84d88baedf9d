-- The names of a program's variables; names that stand twice; and which definitions of a source are
-- state definitions.
use Rattle.std.specs.Prelude.{◌≡◌, ℕ, List, [], ◌∷◌, ◌++◌, ◌||◌, Bool, false, if◌then◌else◌, fold, Option, Some, None, ◌↔◌, true, length, slice_get, map}
use Rattle.std.specs.List.{list_any, position}
use Rattle.std.specs.Str.{bytes_eq}
use Rattle.tp_value.specs.Globals.{with_name}
use Rattle.tp_tree.specs.declared.operator.Form.TheVariants as f
use Rattle.tp_tree.specs.Tree.{PhraseTree, phrase, KindTree, number, truth, name, list, size, index, minus, next, negation, binary, conjunction, choice, choice_else, while, repeat, for, forall, exists, bare, form, call, PhraseTrees, no_phrase, phrase_then, DefinitionTree, SourceTree}
use Rattle.tp_scope.specs.Scope.{Names, bound_in, binder_of, Signature, Called, called_of}
use Rattle.tp_scope.specs.Phrases.{is_state_phrase, calls_in}

-- whether one of these names stands there twice
abbrev pub has_repeat : Names → Bool
has_repeat [] = false
has_repeat (x ∷ xs) = list_any (bytes_eq x) xs || has_repeat xs

-- none of them stands there twice
abbrev pub AreApart : Names → Type 0
AreApart xs = has_repeat xs ≡ false

-- the place of the first definition that has the name of one before it or has a parameter twice,
-- where these names stand before
abbrev pub twice_defined : Names → List DefinitionTree → Option ℕ
twice_defined before [] = None
twice_defined before (d ∷ ds) =
    if list_any (bytes_eq d.name) before || has_repeat d.parameters then Some d.at
    else twice_defined (before ++ d.name ∷ []) ds

-- the names, and behind them those of the others that are not yet there, each once and in the order
-- of their first occurrences
abbrev pub names_with : Names → Names → Names
names_with names others = fold with_name names others

-- a name that has a binder is no variable
abbrev pub unless_bound : Option ℕ → List ℕ → Names
unless_bound (Some i) x = []
unless_bound None x = x ∷ []

-- The names of variables in a phrase that stands in this scope, in the order of the text. A port is
-- no variable, so an `input` has the names of its first operand alone. An `exists` that binds a
-- name twice is refused, so what stands in it plays no part.
abbrev mutual
  pub names_in : (scope : Names) → PhraseTree → Names
  names_in scope (phrase at kind) = names_in_kind scope kind

  pub names_in_kind : (scope : Names) → KindTree → Names
  names_in_kind scope (number n) = []
  names_in_kind scope (truth b) = []
  names_in_kind scope (name x) = unless_bound (binder_of scope x) x
  names_in_kind scope (list ps) = names_in_all scope ps
  names_in_kind scope (size p) = names_in scope p
  names_in_kind scope (index p i) = names_in scope p ++ names_in scope i
  names_in_kind scope (minus p) = names_in scope p
  names_in_kind scope (next p) = names_in scope p
  names_in_kind scope (negation p) = names_in scope p
  names_in_kind scope (binary o l r) = names_in scope l ++ names_in scope r
  names_in_kind scope (conjunction ps) = names_in_all scope ps
  names_in_kind scope (choice b p) = names_in scope b ++ names_in scope p
  names_in_kind scope (choice_else b p q) =
      (names_in scope b ++ names_in scope p) ++ names_in scope q
  names_in_kind scope (while b p) = names_in scope b ++ names_in scope p
  names_in_kind scope (repeat p b) = names_in scope p ++ names_in scope b
  names_in_kind scope (for x e p) = names_in scope e ++ names_in (x ∷ scope) p
  names_in_kind scope (forall x e p) = names_in scope e ++ names_in (x ∷ scope) p
  names_in_kind scope (exists xs p) = if has_repeat xs then [] else names_in (bound_in scope xs) p
  names_in_kind scope (bare w) = []
  names_in_kind scope (form f.Input ps) = names_in_first scope ps
  names_in_kind scope (form word ps) = names_in_all scope ps
  names_in_kind scope (call x ps) = names_in_all scope ps

  pub names_in_all : (scope : Names) → PhraseTrees → Names
  names_in_all scope no_phrase = []
  names_in_all scope (phrase_then p ps) = names_in scope p ++ names_in_all scope ps

  pub names_in_first : (scope : Names) → PhraseTrees → Names
  names_in_first scope no_phrase = []
  names_in_first scope (phrase_then p ps) = names_in scope p

-- those in the bodies of definitions, where the parameters are bound
abbrev pub names_in_bodies : List DefinitionTree → Names
names_in_bodies [] = []
names_in_bodies (d ∷ ds) = names_in (bound_in [] d.parameters) d.body ++ names_in_bodies ds

-- the names of a source's variables, each once and in the order of their first occurrences
abbrev pub names_of : SourceTree → Names
names_of source = names_with [] (names_in_bodies source.definitions ++ names_in [] source.main)

-- what calls know of definitions, where `states` says of each whether it is a state definition
abbrev pub signatures_of : List DefinitionTree → (states : List Bool) → List Signature
signatures_of (d ∷ ds) (b ∷ bs) =
    record { name = d.name; parameters = d.parameters; is_state = b } ∷ signatures_of ds bs
signatures_of [] bs = []
signatures_of (d ∷ ds) [] = []

-- whether a call of this name calls a state definition
abbrev pub is_state_called : Option Called → Bool
is_state_called (Some c) = c.signature.is_state
is_state_called None = false

abbrev pub calls_state : List Signature → List ℕ → Bool
calls_state definitions x = is_state_called (called_of definitions x)

-- The body of the definition with the number i calls the one with the number j, which is the first
-- of its name.
pub record CallsDefinition (ds : List DefinitionTree) (i j : ℕ) : Type 0 where
  pub caller : DefinitionTree
  pub name : List ℕ
  pub place : ℕ
  pub is_caller : slice_get ds i ≡ Some caller
  pub calls : slice_get (calls_in caller.body) place ≡ Some name
  pub is_called : position (bytes_eq name) (map (λ d. d.name) ds) ≡ Some j

-- it is reached from there by calls, by none as well
pub data Reaches (ds : List DefinitionTree) : (from to : ℕ) → Type 0 where
  itself : (i : ℕ) → Reaches ds i i
  by_call : (i j k : ℕ) → CallsDefinition ds i j → Reaches ds j k → Reaches ds i k

-- A state definition: each body that is reached from it says something of one state, whatever it
-- calls.
abbrev pub IsStateDefinition : List DefinitionTree → ℕ → Type 0
IsStateDefinition ds i =
    (j : ℕ) (d : DefinitionTree) → Reaches ds i j → slice_get ds j ≡ Some d
    → is_state_phrase (λ x. true) d.body ≡ true

-- `states` says of each of the definitions whether it is a state definition
pub record AreStates (ds : List DefinitionTree) (states : List Bool) : Type 0 where
  pub each : length states ≡ length ds
  pub right : (i : ℕ) (b : Bool) → slice_get states i ≡ Some b → (b ≡ true) ↔ IsStateDefinition ds i
