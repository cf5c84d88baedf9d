-- What is remembered of a variable's value beside its facts.
use Rattle.std.specs.Prelude.{◌≡◌, ◌≢◌, ◌⊎◌, ℕ, suc, true, Bool, List, [], ◌++◌, Option, Some, None}
use Rattle.std.specs.declared.rc.Rc.{Rc}
use Rattle.std.specs.declared.alloc.Global.{Global}
use Rattle.tp_value.specs.Tree.{Tree}
use Rattle.tp_value.specs.Limits.{is_within_list_limit}
use Rattle.tp_value.specs.declared.value.Value.{Value}
use Rattle.tp_value.specs.Read.{tree}
use Rattle.tp_value.specs.declared.path.VarId.{VarId}
use Rattle.tp_value.specs.declared.path.Path.{Path}
use Rattle.tp_value.specs.declared.path.Fact.{Fact}
use Rattle.tp_store.specs.declared.fact_map.Remembered.{Remembered}
use Rattle.tp_store.specs.Facts.{facts_at}
use Rattle.tp_store.specs.Known.{known, whole, deepest}
use Rattle.tp_store.specs.Changes.{HaveSameShapes}
use Rattle.tp_store.specs.Nodes.{path_along, ArePlainBelow}

-- the facts say that this is the whole of what stands at the path
abbrev pub SayWhole : List Fact → Path → Tree → Type 0
SayWhole fs p t = whole (suc (deepest fs)) fs p ≡ known t

-- The value that is kept of a variable, where one is, is what its facts say of it, and may be read.
abbrev pub IsSaid : Option (Rc Value Global) → VarId → List Fact → Type 0
IsSaid None x fs = Unit {0}
IsSaid (Some v) x fs =
    SayWhole fs (path_along x []) (tree v.value) × (is_within_list_limit (tree v.value) ≡ true)

-- it is so once facts are added
abbrev pub IsSaidWith : Option (Rc Value Global) → VarId → (kept news : List Fact) → Type 0
IsSaidWith value x kept news =
    (fs : List Fact) → HaveSameShapes fs (kept ++ news) → IsSaid value x fs

-- The facts are those of the value, where there is one, of the whole variable; it may be read.
abbrev pub AreOfValue : VarId → List Fact → Option (Rc Value Global) → Type 0
AreOfValue x fs None = Unit {0}
AreOfValue x fs (Some v) =
    (fs ≡ facts_at (path_along x []) (tree v.value))
    × (is_within_list_limit (tree v.value) ≡ true)

-- What is remembered of a variable: how many of its items, from the first on, are numbers and
-- truths, and its value, where one is kept.
pub record IsRemembered (r : Remembered) (x : VarId) (fs : List Fact) : Type 0 where
  pub plain : ArePlainBelow r.plain x fs
  pub said : IsSaid r.value x fs

-- what is found of a variable by its number is remembered of it, where it is of this kind
abbrev pub AreRemembered : (found : ℕ → Option Remembered) → (lasting : Bool) → List Fact → Type 0
AreRemembered found b fs =
    (v : ℕ) (r : Remembered) → found v ≡ Some r
    → IsRemembered r (record { number = v; lasting = b }) fs

-- so many are remembered of the variable with this number; none where nothing is
abbrev pub CountsPlain : (found : ℕ → Option Remembered) → (number count : ℕ) → Type 0
CountsPlain found n count =
    (count ≡ 0) ⊎ ((r : Remembered) × (found n ≡ Some r) × (r.plain ≡ count))

-- What is found of the variable with this number is this, or nothing, and of others what was.
abbrev pub Replaces : (old : ℕ → Option Remembered) → (number : ℕ) → Remembered
    → (new : ℕ → Option Remembered) → Type 0
Replaces old n now new =
    (v : ℕ) (r : Remembered) → new v ≡ Some r
    → ((v ≡ n) × (r ≡ now)) ⊎ ((v ≢ n) × (old v ≡ Some r))
