-- The scenes with which states begin.
use Rattle.tp_scene.specs.Scene.{Leaf, Do, Later, Shown, Holder, Split, SplitProject, Closed, Opened, Running, Entries, none, leaf, node}

abbrev pub IsDue : Leaf → Type 0
IsDue (Do w env) = Unit {0}
IsDue (Later w env) = ⊥
IsDue (Shown vs) = ⊥

-- of a holder, where this is asked of its left region and of its outer one
abbrev pub IsSplit : Holder → (left outer : Type 0) → Type 0
IsSplit (Split w env) left outer = left
IsSplit (SplitProject w env) left outer = left × outer
IsSplit Closed left outer = ⊥
IsSplit (Opened w env) left outer = ⊥
IsSplit (Running w env) left outer = ⊥

-- The entries hold only `Do`, `Split` and `SplitProject`, those of the regions in them too: so a
-- state begins.
abbrev pub AreCarried : Entries → Type 0
AreCarried none = Unit {0}
AreCarried (leaf id l rest) = IsDue l × AreCarried rest
AreCarried (node id k h held g second rest) =
    IsSplit k (AreCarried held) (AreCarried second) × AreCarried rest
