-- What is within the limits on items: kept lengths, bound values, and the values that are found.
use Rattle.std.specs.Prelude.{◌≡◌, ℕ, ◌∷◌, ◌≤◌, List, [], Some}
use Rattle.tp_value.specs.Tree.{Tree}
use Rattle.tp_value.specs.Limits.{length_limit}
use Rattle.tp_value.specs.Room.{IsWithinListLimit}
use Rattle.tp_value.specs.declared.value.Shape.TheVariants.{Items}
use Rattle.tp_value.specs.declared.path.Path.{Path}
use Rattle.tp_value.specs.declared.path.Fact.{Fact}
use Rattle.tp_meaning.specs.Syntax.{ExprTree, Definition, BindingTree, place_binding, known_binding}
use Rattle.tp_inputs.specs.Within.{InputsWithin}
use Rattle.tp_store.specs.Facts.{kept_shape}
use Rattle.tp_eval.specs.Outcome.{outcome, place_outcome}
use Rattle.tp_scene.specs.Scene.{Bindings, Leaf, Do, Later, Shown, Holder, Split, SplitProject, Closed, Opened, Running, Entries, none, leaf, node, Place}
use Rattle.tp_scene.specs.Step.{Reduction, Numbers, reduces}
use Rattle.tp_scene.specs.Pick.{Setting, pick, put}
use Rattle.tp_eval.specs.Outcome as found

-- no kept list is longer than a length may be that is set
abbrev pub LengthsAreWithin : List Fact → Type 0
LengthsAreWithin gs = (p : Path) (n : ℕ) → kept_shape gs p ≡ Some (Items n) → n ≤ length_limit

-- A value that is bound is within the limits on items and depth; so is each of some bindings, of an
-- item, and of all items of a region.
abbrev pub BindingWithin : BindingTree → Type 0
BindingWithin (place_binding p) = Unit {0}
BindingWithin (known_binding t) = IsWithinListLimit t

abbrev pub BindingsWithin : Bindings → Type 0
BindingsWithin [] = Unit {0}
BindingsWithin (b ∷ env) = BindingWithin b × BindingsWithin env

abbrev pub LeafWithin : Leaf → Type 0
LeafWithin (Do f env) = BindingsWithin env
LeafWithin (Later f env) = BindingsWithin env
LeafWithin (Shown vs) = Unit {0}

abbrev pub HolderWithin : Holder → Type 0
HolderWithin (Split f env) = BindingsWithin env
HolderWithin (SplitProject f env) = BindingsWithin env
HolderWithin Closed = Unit {0}
HolderWithin (Opened f env) = BindingsWithin env
HolderWithin (Running f env) = BindingsWithin env

-- a holder without a second region has no entries there
abbrev pub SecondIsOwn : Holder → Entries → Type 0
SecondIsOwn (Split f env) s = s ≡ none
SecondIsOwn (SplitProject f env) s = Unit {0}
SecondIsOwn Closed s = s ≡ none
SecondIsOwn (Opened f env) s = s ≡ none
SecondIsOwn (Running f env) s = Unit {0}

abbrev pub EntriesWithin : Entries → Type 0
EntriesWithin none = Unit {0}
EntriesWithin (leaf id l rest) = LeafWithin l × EntriesWithin rest
EntriesWithin (node id k h held g second rest) = HolderWithin k × EntriesWithin held
    × EntriesWithin second × EntriesWithin rest × SecondIsOwn k second

-- The value that is found of an expression, and where a place is an element of a bound value that
-- element, are within the limits.
pub record FoundWithin (facts : List Fact) (defs : List Definition) (e : ExprTree)
    (env : Bindings) : Type 0 where
  pub value : (v : Tree) → outcome facts defs e env ≡ found.value v → IsWithinListLimit v
  pub of_place : (v : Tree) → place_outcome facts defs e env ≡ found.other (found.value v)
      → IsWithinListLimit v

-- They are so under bindings that are.
abbrev pub ValuesWithin : Type 0
ValuesWithin = (facts : List Fact) (defs : List Definition) (e : ExprTree) (env : Bindings)
    → BindingsWithin env → FoundWithin facts defs e env

-- Picking an item in such entries, with such inputs and kept lengths, leaves such entries, and
-- gives facts of lists that are within the limits.
abbrev pub PicksStayWithin : Type 0
PicksStayWithin = (w : Setting) (facts : List Fact) (t : ℕ) (es : Entries) (p : Place) (n : Numbers)
    (r : Reduction)
    → InputsWithin w.inputs → LengthsAreWithin facts → EntriesWithin es
    → pick w facts t es p n ≡ reduces r
    → LengthsAreWithin r.facts × EntriesWithin (put t r.mark r.news es)
