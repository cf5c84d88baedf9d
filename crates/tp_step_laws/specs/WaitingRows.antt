-- What goes on waiting where more is known, but not of what it waits for.
use Rattle.std.specs.Prelude.{◌≡◌, false, List, Option, Some, None}
use Rattle.tp_value.specs.declared.path.Path.{Path}
use Rattle.tp_value.specs.declared.path.Fact.{Fact}
use Rattle.tp_meaning.specs.Syntax.{ExprTree, Definition}
use Rattle.tp_store.specs.Facts.{kept_shape, is_excluded}
use Rattle.tp_store.specs.Known.{NoClash}
use Rattle.tp_eval.specs.Outcome.{outcome, place_outcome}
use Rattle.tp_scene.specs.declared.answer.Cell.{Cell}
use Rattle.tp_scene.specs.declared.answer.Cell.TheVariants.{Part, End}
use Rattle.tp_scene.specs.Scene.{Bindings, Side, Leaf, Holder, Region, Place}
use Rattle.tp_scene.specs.Step.{PickOutcome, reduces, waits, rests, clashes, misses, passes, Numbers, leaf_step, holder_step}
use Rattle.tp_scene.specs.Pick.{Setting}
use Rattle.tp_scene.specs.Fits.{IsCalm}
use Rattle.tp_step_laws.specs.Outcomes.{KnowsMore}
use Rattle.tp_step_laws.specs.Rows.{Grows}
use Rattle.tp_eval.specs.Outcome as found

-- the path has no shape, and isn't excluded
abbrev pub IsUndecided : List Fact → Path → Type 0
IsUndecided facts p = (kept_shape facts p ≡ None) × (is_excluded facts p ≡ false)

-- An expression that waits for a path waits for it until the path is decided, and so does a place.
abbrev pub OutcomesWait : Type 0
OutcomesWait = (fs gs : List Fact) → NoClash fs → NoClash gs → KnowsMore fs gs
    → (defs : List Definition) (e : ExprTree) (env : Bindings) (p : Path) → IsUndecided gs p
    → (outcome fs defs e env ≡ found.wait p → outcome gs defs e env ≡ found.wait p)
    × (place_outcome fs defs e env ≡ found.other (found.wait p)
    → place_outcome gs defs e env ≡ found.other (found.wait p))

-- The cell isn't decided as far as is seen in a region of this place: its path is undecided; or,
-- where it is the end of this region, neither side of the region's status is known.
abbrev pub IsUndecidedAt : List Fact → Place → Cell → Type 0
IsUndecidedAt facts p (Part path) = IsUndecided facts path
IsUndecidedAt facts p (End region depth) = p.region ≡ region → (z : Side) → p.is z ≡ false

abbrev pub AreUndecidedAt : List Fact → Place → (first : Cell) → (other : Option Cell) → Type 0
AreUndecidedAt facts p first other = IsUndecidedAt facts p first
    × ((cell : Cell) → other ≡ Some cell → IsUndecidedAt facts p cell)

-- What waits goes on waiting for the same cells, where none of them is decided, and what rests
-- rests on; nothing is said of what isn't idle.
abbrev pub StaysIdle : List Fact → Place → PickOutcome → PickOutcome → Type 0
StaysIdle facts p (reduces r) o = Unit {0}
StaysIdle facts p (waits first other) o = AreUndecidedAt facts p first other → o ≡ waits first other
StaysIdle facts p rests o = o ≡ rests
StaysIdle facts p (clashes c) o = Unit {0}
StaysIdle facts p (misses port) o = Unit {0}
StaysIdle facts p (passes k) o = Unit {0}

-- Formulas do so where more is known of facts and of status, whatever numbers new items take.
abbrev pub LeafRowsWait : Type 0
LeafRowsWait = (w : Setting) (fs gs : List Fact) → NoClash fs → NoClash gs → KnowsMore fs gs
    → (l : Leaf) (p q : Place) (n m : Numbers) → Grows p q
    → StaysIdle gs q (leaf_step w.defs w.inputs w.state fs l p n)
    (leaf_step w.defs w.inputs w.state gs l q m)

-- Holders do so where more is known of the status of the region that they hold, whatever stands in
-- it and in the second one.
abbrev pub HolderRowsWait : Type 0
HolderRowsWait = (w : Setting) (fs gs : List Fact) (k : Holder) (p q : Place) (n m : Numbers)
    → Grows p q → IsCalm q → (held second held' second' : Region)
    → StaysIdle gs q (holder_step w.defs w.inputs w.state fs k held second p n)
    (holder_step w.defs w.inputs w.state gs k held' second' q m)
