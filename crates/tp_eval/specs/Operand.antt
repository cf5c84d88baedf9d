-- The values and places that names have.
use Rattle.std.specs.Prelude.{◌≡◌, List, [], Option, Some, None, slice_get}
use Rattle.std.specs.Option.{option_and_then}
use Rattle.tp_value.specs.Tree.{Tree}
use Rattle.tp_meaning.specs.Syntax.{ExprTree, bound, global, BindingTree, place_binding, known_binding}
use Rattle.tp_value.specs.declared.path.Path.{Path}
use Rattle.tp_value.specs.declared.path.Fact.{Fact}
use Rattle.tp_store.specs.Known.{full, value}
use Rattle.tp_eval.specs.declared.operand.Name.{Name}
use Rattle.tp_eval.specs.declared.operand.Name.TheVariants.{Bound, Whole}

-- the value that a binding is, where it is a known one
abbrev pub known_value : BindingTree → Option Tree
known_value (known_binding t) = Some t
known_value (place_binding p) = None

-- the value that an expression is bound to, where it is a bound name that stands for a known one
abbrev pub bound_value : ExprTree → List BindingTree → Option Tree
bound_value (bound i) env = option_and_then known_value (slice_get env i)
bound_value e env = None

-- the place that a binding is
abbrev pub bound_path : BindingTree → Option Path
bound_path (place_binding p) = Some p
bound_path (known_binding t) = None

-- the place that an expression is by its name alone: a variable, or what a bound name stands for
abbrev pub named_path : ExprTree → List BindingTree → Option Path
named_path (global x) env = Some (record { var = x; at = [] })
named_path (bound i) env = option_and_then bound_path (slice_get env i)
named_path e env = None

-- the path of the place that a name stands for
abbrev pub path_named : Name → Path
path_named (Bound p) = p.now
path_named (Whole x) = record { var = x; at = [] }

-- there is such a place, and the facts say that this is its value
abbrev pub IsNamedValue : List Fact → Option Path → Tree → Type 0
IsNamedValue facts o t = (p : Path) × (o ≡ Some p) × (full facts p ≡ value t)
