-- One-to-one maps of the numbers of items, regions and locals, and what they leave of outcomes and
-- of picks.
use Rattle.std.specs.Prelude.{◌≡◌, ℕ, ◌≤◌, ◌<◌, List, Some, Bool, Option, None, zero, suc, map, length}
use Rattle.tp_value.specs.declared.path.Path.{Path}
use Rattle.tp_value.specs.declared.path.Fact.{Fact}
use Rattle.tp_meaning.specs.Syntax.{ExprTree, Definition, BindingTree, place_binding, known_binding}
use Rattle.tp_store.specs.Facts.{kept_shape}
use Rattle.tp_store.specs.Known.{NoClash, Variable}
use Rattle.tp_eval.specs.Outcome.{outcome, place_outcome, PlaceOutcome}
use Rattle.tp_scene.specs.Scene.{Bindings, Head, Leaf, Do, Later, Shown, Holder, Split, SplitProject, Closed, Opened, Running, Entries, none, leaf, node, Place, Region}
use Rattle.tp_scene.specs.Step.{Reduction, PickOutcome, reduces, waits, rests, clashes, misses, passes, Numbers}
use Rattle.tp_scene.specs.Pick.{Setting, pick}
use Rattle.tp_meaning.specs.Fits.{ExprFits, DefinitionsFit}
use Rattle.tp_scene.specs.declared.answer.Cell.{Cell}
use Rattle.tp_scene.specs.declared.answer.Clash.{Clash}
use Rattle.tp_scene.specs.declared.answer.Clash.TheVariants.{Facts, Marks, False, NoValue}
use Rattle.tp_scene.specs.Fits.{EntriesFit}
use Rattle.tp_eval.specs.Outcome as found
use Rattle.tp_step_laws.specs.Maps.{Permutation, Renaming, FixesBelow, renamed_path, renamed_cell}

-- each number from this one on is its own
abbrev pub FixesFrom : ℕ → Permutation → Type 0
FixesFrom n π = (i : ℕ) → n ≤ i → π.to i ≡ i

-- Each number in a variable, a path, a fact, an item, a region, a place or an outcome is replaced
-- by the one that it is mapped to.
module _ (ρ : Renaming) where
  abbrev pub renamed_fact : Fact → Fact
  renamed_fact f = record { path = renamed_path ρ f.path; shape = f.shape }

  abbrev pub renamed_facts : List Fact → List Fact
  renamed_facts fs = map renamed_fact fs

  abbrev pub renamed_binding : BindingTree → BindingTree
  renamed_binding (place_binding p) = place_binding (renamed_path ρ p)
  renamed_binding (known_binding t) = known_binding t

  abbrev pub renamed_bindings : Bindings → Bindings
  renamed_bindings env = map renamed_binding env

  abbrev pub renamed_leaf : Leaf → Leaf
  renamed_leaf (Do f env) = Do f (renamed_bindings env)
  renamed_leaf (Later f env) = Later f (renamed_bindings env)
  renamed_leaf (Shown vs) = Shown vs

  abbrev pub renamed_holder : Holder → Holder
  renamed_holder (Split f env) = Split f (renamed_bindings env)
  renamed_holder (SplitProject f env) = SplitProject f (renamed_bindings env)
  renamed_holder Closed = Closed
  renamed_holder (Opened f env) = Opened f (renamed_bindings env)
  renamed_holder (Running f env) = Running f (renamed_bindings env)

  abbrev pub renamed_head : Head → Head
  renamed_head h = record { number = ρ.region.to h.number; ends = h.ends; goes = h.goes }

  -- a second region has a number of its own only where the holder has one
  abbrev pub renamed_second : Holder → Head → Head
  renamed_second (Split f env) g = g
  renamed_second (SplitProject f env) g = renamed_head g
  renamed_second Closed g = g
  renamed_second (Opened f env) g = g
  renamed_second (Running f env) g = renamed_head g

  abbrev pub renamed_entries : Entries → Entries
  renamed_entries none = none
  renamed_entries (leaf id l rest) = leaf (ρ.item.to id) (renamed_leaf l) (renamed_entries rest)
  renamed_entries (node id k h held g second rest) =
      node (ρ.item.to id) (renamed_holder k) (renamed_head h) (renamed_entries held)
      (renamed_second k g) (renamed_entries second) (renamed_entries rest)

  abbrev pub renamed_region : Region → Region
  renamed_region r = record { head = renamed_head r.head; entries = renamed_entries r.entries }

  abbrev pub renamed_place : Place → Place
  renamed_place p = record { region = ρ.region.to p.region; depth = p.depth; is = p.is }

  abbrev pub renamed_numbers : Numbers → Numbers
  renamed_numbers n = record {
    item = λ i. ρ.item.to (n.item i);
    region = ρ.region.to n.region;
    local = ρ.local.to n.local;
  }

  abbrev pub renamed_if : Option Cell → Option Cell
  renamed_if None = None
  renamed_if (Some c) = Some (renamed_cell ρ c)

  abbrev pub renamed_clash : Clash → Clash
  renamed_clash (Facts kept new) = Facts (renamed_fact kept) (renamed_fact new)
  renamed_clash (Marks d) = Marks d
  renamed_clash False = False
  renamed_clash (NoValue k) = NoValue k

  abbrev pub renamed_reduction : Reduction → Reduction
  renamed_reduction r = record r { news = renamed_entries r.news; facts = renamed_facts r.facts }

  abbrev pub renamed_outcome : PickOutcome → PickOutcome
  renamed_outcome (reduces r) = reduces (renamed_reduction r)
  renamed_outcome (waits first other) = waits (renamed_cell ρ first) (renamed_if other)
  renamed_outcome rests = rests
  renamed_outcome (clashes c) = clashes (renamed_clash c)
  renamed_outcome (misses port) = misses port
  renamed_outcome (passes k) = passes k

  abbrev pub renamed_found : found.Outcome → found.Outcome
  renamed_found (found.value t) = found.value t
  renamed_found (found.wait p) = found.wait (renamed_path ρ p)
  renamed_found (found.fault k) = found.fault k
  renamed_found (found.over k) = found.over k

  abbrev pub renamed_place_found : PlaceOutcome → PlaceOutcome
  renamed_place_found (found.path p) = found.path (renamed_path ρ p)
  renamed_place_found (found.other o) = found.other (renamed_found o)

-- The facts are the same, of the renamed paths.
abbrev pub FactsAlike : Renaming → List Fact → List Fact → Type 0
FactsAlike ρ fs gs = (p : Path) → kept_shape gs (renamed_path ρ p) ≡ kept_shape fs p

-- Outcomes of expressions that name globals alone are renamed, and steps are; the numbers that are
-- handed in are renamed with them.
abbrev pub OutcomesRename : Type 0
OutcomesRename = (ρ : Renaming) (defs : List Definition) (kinds : List Bool)
    → DefinitionsFit defs kinds → FixesBelow (length kinds) ρ.local
    → (fs gs : List Fact) → NoClash fs → NoClash gs → FactsAlike ρ fs gs
    → (e : ExprTree) (env : Bindings) → ExprFits defs kinds e (length env)
    → (outcome gs defs e (renamed_bindings ρ env) ≡ renamed_found ρ (outcome fs defs e env))
    × (place_outcome gs defs e (renamed_bindings ρ env) ≡ renamed_place_found ρ
    (place_outcome fs defs e env))

-- Numbers for new items, regions and locals are renamed as far as a reduction takes them.
module _ (ρ : Renaming) (n n' : Numbers) where
  abbrev pub IfRegion : ℕ → Type 0
  IfRegion zero = Unit {0}
  IfRegion (suc k) = n'.region ≡ ρ.region.to n.region

  abbrev pub IfLocal : Option Variable → Type 0
  IfLocal None = Unit {0}
  IfLocal (Some x) = n'.local ≡ ρ.local.to n.local

  pub record NumbersRenamed (r : Reduction) : Type 0 where
    pub items : (i : ℕ) → i < r.items → n'.item i ≡ ρ.item.to (n.item i)
    pub region : IfRegion r.regions
    pub local : IfLocal r.local

  -- a reduction is renamed where its numbers are; anything else is in any case
  abbrev pub Renamed : PickOutcome → PickOutcome → Type 0
  Renamed (reduces r) o = NumbersRenamed r → o ≡ renamed_outcome ρ (reduces r)
  Renamed (waits first other) o = o ≡ renamed_outcome ρ (waits first other)
  Renamed rests o = o ≡ rests
  Renamed (clashes c) o = o ≡ renamed_outcome ρ (clashes c)
  Renamed (misses port) o = o ≡ misses port
  Renamed (passes k) o = o ≡ passes k

-- So is what picking an item gives.
abbrev pub PicksRename : Type 0
PicksRename = (ρ : Renaming) (w : Setting) (kinds : List Bool) → DefinitionsFit w.defs kinds
    → FixesBelow (length kinds) ρ.local
    → (fs gs : List Fact) → NoClash fs → NoClash gs → FactsAlike ρ fs gs
    → (variables : List Variable) (es : Entries) (p : Place)
    → EntriesFit w.defs kinds variables es p → (t : ℕ) (n n' : Numbers)
    → Renamed ρ n n' (pick w fs t es p n)
    (pick w gs (ρ.item.to t) (renamed_entries ρ es) (renamed_place ρ p) n')
