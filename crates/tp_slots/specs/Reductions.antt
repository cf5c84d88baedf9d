-- The reductions of items, by what they make.
use Rattle.std.specs.Prelude.{◌≡◌, ℕ, ◌+◌, false, List, [], ◌∷◌, length, Option, Some, None}
use Rattle.tp_meaning.specs.Syntax.{FormulaTree, more}
use Rattle.tp_store.specs.Known.{Contents}
use Rattle.tp_scene.specs.Scene as S
use Rattle.tp_scene.specs.Scene.{Side, Bindings, Leaf, Entries, none, leaf, node, no_region, split_then, opened_then}
use Rattle.tp_scene.specs.Step.{Reduction, reduces, region_of}
use Rattle.tp_scene.specs.Pick.{Setting, outcome_of, scene_after}
use Rattle.tp_slots.specs.Plain.{What, bare, holds, gone, has_second}

abbrev pub leaf_in : What → Leaf
leaf_in (bare l) = l
leaf_in (holds k r q) = S.Shown []
leaf_in (gone by) = S.Shown []

abbrev pub IsBare : What → Type 0
IsBare (bare l) = Unit {0}
IsBare (holds k r q) = ⊥
IsBare (gone by) = ⊥

-- items that hold no region
abbrev pub AreBare : List What → Type 0
AreBare [] = Unit {0}
AreBare (w ∷ ws) = IsBare w × AreBare ws

-- leaves with the numbers from n on
abbrev pub leaves_from : ℕ → List What → Entries
leaves_from n [] = none
leaves_from n (w ∷ ws) = leaf n (leaf_in w) (leaves_from (n + 1) ws)

-- these items stand in the item's place, and its region is marked so
abbrev pub becomes_leaves : S.Scene → List What → Option Side → Reduction
becomes_leaves s ws m =
    record {
      news = leaves_from s.next_item ws;
      items = length ws;
      regions = 0;
      local = None;
      mark = m;
      facts = [];
    }

-- two items and a region, with no local, mark or fact
abbrev pub begins_region : Entries → Reduction
begins_region news =
    record { news = news; items = 2; regions = 1; local = None; mark = None; facts = [] }

-- a left region with one item, and what follows it
abbrev pub becomes_split : S.Scene → (left : FormulaTree) → Bindings → (after : FormulaTree)
    → Bindings → Reduction
becomes_split s f e g env =
    let inner = region_of s.next_region (0 + s.next_item) f e in
    begins_region (split_then (1 + s.next_item) inner g env none)

-- an outer region with one item, and the piece that is to run in it
abbrev pub becomes_opened : S.Scene → (outer : FormulaTree) → Bindings → (piece : FormulaTree)
    → Bindings → Reduction
becomes_opened s f e g env =
    let inner = region_of s.next_region (0 + s.next_item) f e in
    begins_region (opened_then (1 + s.next_item) inner g env none)

-- it holds the region with this number, and no other one
abbrev pub HoldsOne : (region : ℕ) → What → Type 0
HoldsOne r w = (k : S.Holder) × (w ≡ holds k r None) × (has_second k ≡ false)

-- what holds this region
abbrev pub holder_then : (id : ℕ) → What → S.Region → Entries
holder_then id (bare l) r = none
holder_then id (holds k p o) r = node id k r.head r.entries no_region none none
holder_then id (gone by) r = none

-- a region with one item, and what holds it
abbrev pub becomes_holder : S.Scene → (first : FormulaTree) → Bindings → What → Reduction
becomes_holder s f e w =
    let inner = region_of s.next_region (0 + s.next_item) f e in
    begins_region (holder_then (1 + s.next_item) w inner)

-- the item t is reduced, whatever is known
abbrev pub IsReduced : S.Scene → (t : ℕ) → Type 0
IsReduced s t = (w : Setting) × (k : Contents) × (r : Reduction) × (outcome_of w k s t ≡ reduces r)

-- and this scene is what its reduction leaves
abbrev pub IsAfter : (t : ℕ) → (old new : S.Scene) → Type 0
IsAfter t old new =
    (w : Setting) (k : Contents) (r : Reduction) → outcome_of w k old t ≡ reduces r
    → new ≡ scene_after t r old

-- an item that can be reduced to what follows its region, or to its next piece
abbrev pub CanMove : What → Type 0
CanMove (bare l) = ⊥
CanMove (holds (S.Split f env) p None) = Unit {0}
CanMove (holds (S.Split f env) p (Some q)) = ⊥
CanMove (holds (S.SplitProject f env) p None) = ⊥
CanMove (holds (S.SplitProject f env) p (Some q)) = Unit {0}
CanMove (holds S.Closed p o) = ⊥
CanMove (holds (S.Opened f env) p None) = Unit {0}
CanMove (holds (S.Opened f env) p (Some q)) = ⊥
CanMove (holds (S.Running f env) p o) = ⊥
CanMove (gone by) = ⊥

-- the items of the new region that it then begins
abbrev pub moved_inner : What → List What
moved_inner (bare l) = []
moved_inner (holds (S.Split f env) p o) = []
moved_inner (holds (S.SplitProject f env) p o) = []
moved_inner (holds S.Closed p o) = []
moved_inner (holds (S.Opened f env) p o) = bare (S.Do f env) ∷ bare (S.Do more env) ∷ []
moved_inner (holds (S.Running f env) p o) = []
moved_inner (gone by) = []

-- and those that stand in its place, where the new region has this number
abbrev pub moved_outs : What → (region : ℕ) → List What
moved_outs (bare l) r = []
moved_outs (holds (S.Split f env) p o) r = holds S.Closed p None ∷ bare (S.Do f env) ∷ []
moved_outs (holds (S.SplitProject f env) p None) r = []
moved_outs (holds (S.SplitProject f env) p (Some q)) r =
    holds S.Closed p None ∷ holds (S.Opened f env) q None ∷ []
moved_outs (holds S.Closed p o) r = []
moved_outs (holds (S.Opened f env) p o) r = holds (S.Running f env) r (Some p) ∷ []
moved_outs (holds (S.Running f env) p o) r = []
moved_outs (gone by) r = []

-- a scene with one item
abbrev pub begins_with : FormulaTree → Bindings → S.Scene
begins_with f env = record { root = region_of 0 0 f env; next_item = 1; next_region = 1 }
