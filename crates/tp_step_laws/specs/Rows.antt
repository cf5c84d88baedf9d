-- What more facts and more status leave of what an item becomes.
use Rattle.std.specs.Prelude.{◌≡◌, ◌++◌, true, List, [], Some}
use Rattle.tp_value.specs.declared.value.Shape.{Shape}
use Rattle.tp_value.specs.declared.path.Path.{Path}
use Rattle.tp_value.specs.declared.path.Fact.{Fact}
use Rattle.tp_store.specs.Changes.{HaveSameShapes}
use Rattle.tp_store.specs.Facts.{kept_shape}
use Rattle.tp_store.specs.Known.{NoClash}
use Rattle.tp_scene.specs.Scene.{Head, Leaf, Do, Holder, Split, SplitProject, Closed, Opened, Running, Entries, none, leaf, Place, Side, new_head, closed_then, opened_then, running_then}
use Rattle.tp_scene.specs.Step.{Reduction, PickOutcome, reduces, waits, rests, clashes, misses, passes, Numbers, leaf_step, holder_step}
use Rattle.tp_scene.specs.Pick.{Setting}
use Rattle.tp_scene.specs.Fits.{IsCalm}
use Rattle.tp_meaning.specs.Syntax.{more}
use Rattle.tp_step_laws.specs.Outcomes.{KnowsMore}
use Rattle.tp_step_laws.specs.Within.{LengthsAreWithin}

-- a place of the same region at the same depth, of at least that status
pub record Grows (p q : Place) : Type 0 where
  pub region : q.region ≡ p.region
  pub depth : q.depth ≡ p.depth
  pub sides : (z : Side) → p.is z ≡ true → q.is z ≡ true

-- nothing comes of the state: a clash, a missing input or a passed limit
abbrev pub IsFailure : PickOutcome → Type 0
IsFailure (reduces r) = ⊥
IsFailure (waits first other) = ⊥
IsFailure rests = ⊥
IsFailure (clashes c) = Unit {0}
IsFailure (misses port) = Unit {0}
IsFailure (passes k) = Unit {0}

-- Where `gs` is kept, with `more` the same is known as with `news`, each of these too, and nothing
-- clashes.
pub record SameFacts (gs news more : List Fact) : Type 0 where
  pub shapes : HaveSameShapes (gs ++ more) (gs ++ news)
  pub each : (p : Path) (sh : Shape) → kept_shape news p ≡ Some sh
      → kept_shape (gs ++ more) p ≡ Some sh
  pub apart : NoClash (gs ++ more)

-- The same reduction but for facts, where `gs` is kept.
pub record SameReduction (gs : List Fact) (r s : Reduction) : Type 0 where
  pub news : s.news ≡ r.news
  pub items : s.items ≡ r.items
  pub regions : s.regions ≡ r.regions
  pub local : s.local ≡ r.local
  pub mark : s.mark ≡ r.mark
  pub facts : SameFacts gs r.facts s.facts

-- a reduction stays the same, or fails
abbrev pub StillReduces : List Fact → Reduction → PickOutcome → Type 0
StillReduces gs r (reduces s) = SameReduction gs r s
StillReduces gs r (waits first other) = ⊥
StillReduces gs r rests = ⊥
StillReduces gs r (clashes c) = Unit {0}
StillReduces gs r (misses port) = Unit {0}
StillReduces gs r (passes k) = Unit {0}

-- A reduction stays the same, or fails; what fails goes on to fail; what waits or rests may become
-- anything.
abbrev pub GrownTo : List Fact → PickOutcome → PickOutcome → Type 0
GrownTo gs (reduces r) o = StillReduces gs r o
GrownTo gs (waits first other) o = Unit {0}
GrownTo gs rests o = Unit {0}
GrownTo gs (clashes c) o = IsFailure o
GrownTo gs (misses port) o = IsFailure o
GrownTo gs (passes k) o = IsFailure o

-- Formulas do so where more is known of facts and of status, and lengths are within the limit.
abbrev pub LeafRowsGrow : Type 0
LeafRowsGrow = (w : Setting) (fs gs : List Fact) → NoClash fs → NoClash gs → KnowsMore fs gs
    → LengthsAreWithin gs
    → (l : Leaf) (p q : Place) (n : Numbers) → Grows p q → IsCalm q
    → GrownTo gs (leaf_step w.defs w.inputs w.state fs l p n)
    (leaf_step w.defs w.inputs w.state gs l q n)

-- what a holder that has a step becomes, of the regions that it holds
abbrev pub holder_make : Holder → Numbers → Head → Entries → Head → Entries → Entries
holder_make (Split f env) n h i g s = closed_then (n.item 0) (record { head = h; entries = i })
    (leaf (n.item 1) (Do f env) none)
holder_make (SplitProject f env) n h i g s = closed_then (n.item 0)
    (record { head = h; entries = i })
    (opened_then (n.item 1) (record { head = g; entries = s }) f env none)
holder_make (Opened f env) n h i g s =
    running_then (n.item 2)
    (record {
      head = new_head n.region;
      entries = leaf (n.item 0) (Do f env) (leaf (n.item 1) (Do more env) none);
    })
    (record { head = h; entries = i }) f env none
holder_make Closed n h i g s = none
holder_make (Running f env) n h i g s = none

-- A holder that has a step keeps it, of the regions as they then are; it has no facts, and never
-- fails. Where it rests it rests on.
abbrev pub HolderGrown : Holder → Numbers → Head → Entries → Head → Entries → PickOutcome
    → PickOutcome
    → Type 0
HolderGrown k n h i g s (reduces r) o =
    (o ≡ reduces (record r { news = holder_make k n h i g s }))
    × (r.facts ≡ [])
HolderGrown k n h i g s (waits first other) o = Unit {0}
HolderGrown k n h i g s rests o = o ≡ rests
HolderGrown k n h i g s (clashes c) o = ⊥
HolderGrown k n h i g s (misses port) o = ⊥
HolderGrown k n h i g s (passes limit) o = ⊥

-- Holders do so where more is known of the status of the region that they hold.
abbrev pub HolderRowsGrow : Type 0
HolderRowsGrow = (w : Setting) (fs gs : List Fact) (k : Holder) (n : Numbers) (p q : Place)
    → Grows p q → IsCalm q
    → (h : Head) (i : Entries) (g : Head) (s : Entries) (h' : Head) (i' : Entries) (g' : Head)
    (s' : Entries)
    → HolderGrown k n h' i' g' s'
    (holder_step w.defs w.inputs w.state fs k
    (record { head = h; entries = i }) (record { head = g; entries = s }) p n)
    (holder_step w.defs w.inputs w.state gs k
    (record { head = h'; entries = i' }) (record { head = g'; entries = s' }) q n)
