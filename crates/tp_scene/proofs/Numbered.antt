-- A scene whose items and regions are numbered again says the same.
use Rattle.std.proofs.Common.{◌≡◌, ℕ, ◌+◌, refl}
use Rattle.std.specs.Prelude.{IsTrue}
use Rattle.tp_meaning.specs.Holds.{Context, Joined}
use Rattle.tp_scene.specs.Scene.{Side, Ending, Going, Head, marked, Holder, SplitProject, Running, Entries, none, leaf, node}
use Rattle.tp_scene.specs.Says.{IsSo, MarksHold, LeafSays, HolderSays, Says}
use Rattle.tp_scene.specs.Advance.{items_in, regions_in, regions_held, numbered_head, second_head, numbered}

marked_same : (n : ℕ) (h : Head) (z : Side) → marked z (numbered_head n h) ≡ marked z h
marked_same n h Ending = refl
marked_same n h Going = refl

marks_same : (n : ℕ) (h : Head) → MarksHold (numbered_head n h) ≡ MarksHold h
marks_same n h = λ t a b. (z : Side) → IsTrue (marked_same n h z t) → IsSo z a b

second_same : (k : Holder) (n : ℕ) (g : Head) → MarksHold (second_head k n g) ≡ MarksHold g
second_same (SplitProject f env) n g = marks_same n g
second_same (Running f env) n g = marks_same n g
second_same k n g = refl

pub says_numbered : (w : Context) (globals i r : ℕ) (es : Entries) → Says w globals (numbered i r es) ≡ Says w globals es
says_numbered w globals i r none = refl
says_numbered w globals i r (leaf id l rest) = λ t d locals s. Joined (LeafSays w globals l d locals s) (says_numbered w globals (i + 1) r rest t d locals s)
says_numbered w globals i r (node id k h held g second rest) =
    let at = i + items_in held in
    let outer = r + 1 + regions_in held in
    λ t d locals s. Joined
    (HolderSays w globals k (λ d' l' s' x y V. marks_same r h t x y × says_numbered w globals i (r + 1) held t d' l' s' x y V)
    (λ d' l' s' x y V. second_same k outer g t x y × says_numbered w globals (at + 1) (r + regions_held k + regions_in held) second t d' l' s' x y V) d locals s)
    (says_numbered w globals (at + 1 + items_in second) (r + regions_held k + regions_in held + regions_in second) rest t d locals s)
