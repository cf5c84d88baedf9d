-- The live items of entries.
use Rattle.std.specs.Prelude.{ℕ, List, [], ◌∷◌, ◌++◌}
use Rattle.tp_scene.specs.Scene.{Entries, none, leaf, node, second_lives, only_if}

-- The live items in walk order: the entries of a region in order; of a holder first the outer
-- region's items where it is live, then those of the region that it holds, then itself.
abbrev pub live_items : Entries → List ℕ
live_items none = []
live_items (leaf id l rest) = id ∷ live_items rest
live_items (node id k h held g second rest) =
    (only_if (second_lives k) (live_items second) ++ live_items held) ++ id ∷ live_items rest
