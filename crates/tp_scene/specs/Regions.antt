-- The live regions of a scene.
use Rattle.std.specs.Prelude.{ℕ}
use Rattle.tp_meaning.specs.Syntax.{FormulaTree}
use Rattle.tp_scene.specs.Scene.{Bindings, Head, Leaf, Holder, Split, SplitProject, Closed, Opened, Running, Entries, leaf, node, Scene}

-- What a live region is to the item that holds it: the left region of a `Split` or a
-- `SplitProject`, the region of a `Closed`, the inner region of a `Running`, or an outer region,
-- which is that of an `Opened` or the second one of a `Running`.
pub data Role : Type 0 where
  left_region : Role
  closed_region : Role
  inner_region : Role
  outer_region : Role

-- One of the items holds a live region in this role, with this head and these entries. The second
-- region of a `SplitProject` sleeps, so no item holds it as a live one.
pub data HoldsRegion : Entries → Role → Head → Entries → Type 0 where
  by_split : {id : ℕ} {f : FormulaTree} {env : Bindings} {h g : Head} {held second rest : Entries}
      → HoldsRegion (node id (Split f env) h held g second rest) left_region h held
  by_split_project : {id : ℕ} {f : FormulaTree} {env : Bindings} {h g : Head} {held second
      rest : Entries}
      → HoldsRegion (node id (SplitProject f env) h held g second rest) left_region h held
  by_closed : {id : ℕ} {h g : Head} {held second rest : Entries}
      → HoldsRegion (node id Closed h held g second rest) closed_region h held
  by_opened : {id : ℕ} {f : FormulaTree} {env : Bindings} {h g : Head} {held second rest : Entries}
      → HoldsRegion (node id (Opened f env) h held g second rest) outer_region h held
  by_running : {id : ℕ} {f : FormulaTree} {env : Bindings} {h g : Head} {held second rest : Entries}
      → HoldsRegion (node id (Running f env) h held g second rest) inner_region h held
  by_running_second : {id : ℕ} {f : FormulaTree} {env : Bindings} {h g : Head} {held second
      rest : Entries}
      → HoldsRegion (node id (Running f env) h held g second rest) outer_region g second
  past_leaf : {id : ℕ} {l : Leaf} {rest : Entries} {role : Role} {h : Head} {held : Entries}
      → HoldsRegion rest role h held → HoldsRegion (leaf id l rest) role h held
  past_node : {id : ℕ} {k : Holder} {i g : Head} {first second
      rest : Entries} {role : Role} {h : Head} {held : Entries}
      → HoldsRegion rest role h held → HoldsRegion (node id k i first g second rest) role h held

-- A live region with this head and these entries, by the way to it: it is the root, or an item of a
-- live region holds it. Two ways are two regions, also where these look alike.
pub data LiveRegion (s : Scene) : Head → Entries → Type 0 where
  the_root : LiveRegion s s.root.head s.root.entries
  the_held : {h : Head} {es : Entries} {role : Role} {i : Head} {held : Entries}
      → (around : LiveRegion s h es) → HoldsRegion es role i held → LiveRegion s i held

-- These entries are those from one of their items on.
pub data IsTail : (tail es : Entries) → Type 0 where
  all_entries : {es : Entries} → IsTail es es
  after_leaf : {id : ℕ} {l : Leaf} {rest es : Entries} → IsTail (leaf id l rest) es → IsTail rest es
  after_node : {id : ℕ} {k : Holder} {h g : Head} {held second rest es : Entries}
      → IsTail (node id k h held g second rest) es → IsTail rest es
