-- What is asked of the step of each kind of item, and what its proof may assume.
use Rattle.std.proofs.Common.{◌≡◌, ℕ, suc, ◌≤◌, Bool, List, length}
use Rattle.tp_meaning.specs.Course.{Course}
use Rattle.tp_meaning.specs.Fits.{DefinitionsFit}
use Rattle.tp_store.specs.Known.{Contents, NoClash}
use Rattle.tp_eval.specs.Evaluate.{depth_limit}
use Rattle.tp_eval.specs.Right.{OutcomesMean}
use Rattle.tp_eval.specs.Bound.{PlacesMean}
use Rattle.tp_scene.specs.Scene.{Head, Leaf, Holder, Entries, Place, held_place}
use Rattle.tp_scene.specs.Says.{LeafSays, HolderSays, RegionSays}
use Rattle.tp_scene.specs.Step.{Numbers, leaf_step, holder_step}
use Rattle.tp_scene.specs.Pick.{Setting}
use Rattle.tp_scene.specs.StandsFor.{context_of}
use Rattle.tp_scene.specs.Fits.{LeafFits}
use Rattle.tp_scene.proofs.Below.{HolderBelow, IfSecond, Below}
use Rattle.tp_scene.proofs.Frame.{IsOf, region, Keeps}

module _ (w : Setting) (kinds : List Bool) (store : Contents) (n : Numbers) (e : ℕ) where
  -- `kinds` says of each global whether it is static. The store has no clash, the next local comes after its variables, the globals are among them, and `e` is beyond the depth of evaluation
  pub record Given : Type 0 where
    pub no_clash : NoClash store.facts
    pub local : n.local ≡ length store.variables
    pub globals_among : length kinds ≤ length store.variables
    pub deep : suc depth_limit ≤ e
    pub definitions : DefinitionsFit w.defs kinds
    pub outcomes : OutcomesMean
    pub places : PlacesMean

  -- each step of an item without a region keeps what the item says
  abbrev pub LeavesKeep : Type 0
  LeavesKeep = (l : Leaf) (p : Place) → LeafFits w.defs kinds store.variables l p → (s : Course) (a b : ℕ) → IsOf w.state p s a b
      → Keeps (context_of w) (length kinds) store.facts n.local e (leaf_step w.defs w.inputs w.state store.facts l p n) (LeafSays (context_of w) (length kinds) l) s a b

  -- and each step of one with a region
  abbrev pub HoldersKeep : Type 0
  HoldersKeep = (k : Holder) (h : Head) (held : Entries) (g : Head) (second : Entries) → HolderBelow n.local k → Below n.local held → IfSecond k (Below n.local second)
      → (p : Place) (s : Course) (a b : ℕ) → IsOf w.state p s a b
      → Keeps (context_of w) (length kinds) store.facts n.local e (holder_step w.defs w.inputs w.state store.facts k (region h held) (region g second) (held_place k h held p) n)
      (HolderSays (context_of w) (length kinds) k (RegionSays (context_of w) (length kinds) (region h held)) (RegionSays (context_of w) (length kinds) (region g second))) s a b
