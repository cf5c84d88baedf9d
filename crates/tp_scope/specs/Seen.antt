-- What the code knows of names, as plain lists.
use Rattle.std.specs.Prelude.{◌≡◌, ℕ, ◌+◌, Bool, true, List, [], length, map, Option, Some, None, if◌then◌else◌}
use Rattle.tp_tree.specs.declared.phrase.Definitions.{Definitions}
use Rattle.tp_scope.specs.Scope.{Names, Called, VisibleNames, bound_in, binder_of}
use Rattle.tp_scope.specs.Scope as plain
use Rattle.tp_scope.specs.Names.{has_repeat, calls_state}
use Rattle.tp_scope.specs.declared.directory.Signature.{Signature}
use Rattle.tp_scope.specs.declared.directory.Callee.{Callee}
use Rattle.tp_scope.specs.declared.directory.Directory.{Directory}
use Rattle.tp_scope.specs.declared.phrases.Callable.{Callable}
use Rattle.tp_scope.specs.declared.phrases.Callable.TheVariants.{Every, StatesOf}
use Rattle.tp_scope.specs.declared.scope.Scope.{Scope}
use Rattle.tp_scope.specs.declared.scope.Scope.TheOpen.{Scope-F}
use Rattle.tp_scope.specs.declared.scope.Scope.TheFolds.{fold-Scope}
use Rattle.tp_scope.specs.declared.scope.Visible.{Visible}

-- these names, where none of them stands twice
abbrev pub apart : Names → Option Names
apart xs = if has_repeat xs then None else Some xs

-- the number of a name's binder among some that are bound together, by its place there, or else
-- among those outside of them
abbrev pub binder_among : (outer : Names) → List ℕ → (place : Option ℕ) → Option ℕ
binder_among outer x (Some i) = Some (length outer + i)
binder_among outer x None = binder_of outer x

-- names that are bound together, with the names outside of them already seen
abbrev pub scope_step : Scope-F Names → Names
scope_step Scope-F.Outermost = []
scope_step (Scope-F.Inner binders outer) = bound_in outer.now binders.now

-- the names of a scope
abbrev pub names_bound : Scope → Names
names_bound = fold-Scope Names scope_step

-- what calls know of definitions
abbrev pub signature_seen : List ℕ → Signature → plain.Signature
signature_seen name s = record { name = name; parameters = s.parameters.now; is_state = s.is_state }

abbrev pub signatures_seen : Directory → List plain.Signature
signatures_seen d = map (λ e. signature_seen e.0 e.1) d.signatures.entries

-- what is called, but for its name
abbrev pub IsCallee : Callee → Called → Type 0
IsCallee c d =
    (c.number ≡ d.number) × (c.signature.parameters.now ≡ d.signature.parameters)
    × (c.signature.is_state ≡ d.signature.is_state)

-- what a call of some name calls, if it calls a definition
abbrev pub IsFound : Option Called → Option Callee → Type 0
IsFound (Some d) (Some c) = IsCallee c d
IsFound None None = Unit {0}
IsFound (Some d) None = ⊥
IsFound None (Some c) = ⊥

abbrev pub names_of_definitions : Definitions → Names
names_of_definitions ds = map (λ d. d.name) ds.items.items

-- what may be called from a state phrase
abbrev pub may_call : Callable → List ℕ → Bool
may_call Every x = true
may_call (StatesOf directory) x = calls_state (signatures_seen directory.now) x

-- what can be read
abbrev pub names_seen : Visible → VisibleNames
names_seen names =
    record {
      definitions = signatures_seen names.directory.now;
      globals = names.globals.now;
      scope = names_bound names.scope.now;
    }
