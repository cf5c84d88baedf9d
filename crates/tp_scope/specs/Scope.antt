-- What a name stands for where it is read, and what a call calls.
use Rattle.std.specs.Prelude.{ℕ, suc, Bool, List, [], ◌∷◌, length, Option, Some, None, if◌then◌else◌}
use Rattle.std.specs.Str.{bytes_eq}
use Rattle.tp_value.specs.declared.path.VarId.{VarId}
use Rattle.tp_value.specs.Globals.{variable_of}
use Rattle.tp_meaning.specs.Syntax.{ExprTree, bound, global}

abbrev pub Names : Type 0
Names = List (List ℕ)

-- what a call can know of a definition: its name, its parameters' names, and whether it is a state
-- definition
pub record Signature : Type 0 where
  pub name : List ℕ
  pub parameters : Names
  pub is_state : Bool

-- What can be read where a phrase stands: the definitions, the names of the program's variables,
-- each by its number, and its scope, which is the names that are bound there, the innermost first.
-- One name may be bound more than once.
pub record VisibleNames : Type 0 where
  pub definitions : List Signature
  pub globals : Names
  pub scope : Names

-- inside of what binds one name more
abbrev pub with_binder : List ℕ → VisibleNames → VisibleNames
with_binder x names =
    record { definitions = names.definitions; globals = names.globals; scope = x ∷ names.scope }

-- a scope inside of what binds these names, of which each later one is the inner
abbrev pub bound_in : Names → Names → Names
bound_in scope [] = scope
bound_in scope (x ∷ xs) = bound_in (x ∷ scope) xs

abbrev pub with_binders : Names → VisibleNames → VisibleNames
with_binders xs names =
    record {
      definitions = names.definitions;
      globals = names.globals;
      scope = bound_in names.scope xs;
    }

-- The innermost binder of this name in a scope, if there is one. Its number is how many binders
-- stand outside of it.
abbrev pub binder_of : Names → List ℕ → Option ℕ
binder_of [] x = None
binder_of (y ∷ outer) x = if bytes_eq x y then Some (length outer) else binder_of outer x

-- a bound name, or else a variable, as an expression
abbrev pub bound_or_global : Option ℕ → Option VarId → Option ExprTree
bound_or_global (Some i) v = Some (bound i)
bound_or_global None (Some v) = Some (global v)
bound_or_global None None = None

-- what a name stands for: its innermost binder, or else the variable of that name, if there is one
abbrev pub referent_of : VisibleNames → List ℕ → Option ExprTree
referent_of names x = bound_or_global (binder_of names.scope x) (variable_of names.globals x)

-- the definition that a call calls, with its number
pub record Called : Type 0 where
  pub number : ℕ
  pub signature : Signature

-- the first of this name, where the first of all has the number i
abbrev pub called_from : (i : ℕ) → List Signature → List ℕ → Option Called
called_from i [] x = None
called_from i (d ∷ ds) x =
    if bytes_eq x d.name then Some (record { number = i; signature = d })
    else called_from (suc i) ds x

-- what a call of this name calls, if it is a definition's
abbrev pub called_of : List Signature → List ℕ → Option Called
called_of = called_from 0
