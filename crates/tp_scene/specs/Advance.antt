-- The next state.
use Rattle.std.specs.Prelude.{ℕ, suc, ◌+◌, List, [], ◌∷◌, ◌++◌, ◌≡◌}
use Rattle.tp_value.specs.Tree.{Tree}
use Rattle.tp_store.specs.Known.{Contents, lasting_facts, NoClash}
use Rattle.tp_scene.specs.Scene.{Head, new_head, Do, Later, Shown, Holder, Split, SplitProject, Closed, Opened, Running, Entries, none, leaf, node, Scene, second_lives, only_if}
use Rattle.tp_store.specs.Facts.{kept_shape}
use Rattle.tp_value.specs.declared.path.Path.{Path}

abbrev pub unmarked : Head → Head
unmarked h = new_head h.number

-- The entries of the next state, before items and regions are numbered again: what was due from
-- then on is due, what was shown and what has ended is gone, and the piece at hand and the
-- projection round it are split. Marks are dropped.
abbrev pub due : Entries → Entries
due none = none
due (leaf id (Do f env) rest) = due rest
due (leaf id (Later f env) rest) = leaf id (Do f env) (due rest)
due (leaf id (Shown vs) rest) = due rest
due (node id (Split f env) h held g second rest) =
    node id (Split f env) (unmarked h) (due held) g second (due rest)
due (node id (SplitProject f env) h held g second rest) =
    node id (SplitProject f env) (unmarked h) (due held) g second (due rest)
due (node id Closed h held g second rest) = due rest
due (node id (Opened f env) h held g second rest) = due rest
due (node id (Running f env) h held g second rest) =
    node id (SplitProject f env) (unmarked h) (due held) (unmarked g) (due second) (due rest)

-- how many items and regions stand in entries, dormant ones too
abbrev pub items_in : Entries → ℕ
items_in none = 0
items_in (leaf id l rest) = suc (items_in rest)
items_in (node id k h held g second rest) = suc (items_in held + items_in second + items_in rest)

-- a holder has its region, and `SplitProject` and `Running` have a second one
abbrev pub regions_held : Holder → ℕ
regions_held (Split f env) = 1
regions_held (SplitProject f env) = 2
regions_held Closed = 1
regions_held (Opened f env) = 1
regions_held (Running f env) = 2

abbrev pub regions_in : Entries → ℕ
regions_in none = 0
regions_in (leaf id l rest) = regions_in rest
regions_in (node id k h held g second rest) =
    regions_held k + regions_in held + regions_in second + regions_in rest

abbrev pub numbered_head : ℕ → Head → Head
numbered_head n h = record { number = n; ends = h.ends; goes = h.goes }

abbrev pub second_head : Holder → ℕ → Head → Head
second_head (Split f env) n h = h
second_head (SplitProject f env) n h = numbered_head n h
second_head Closed n h = h
second_head (Opened f env) n h = h
second_head (Running f env) n h = numbered_head n h

-- Numbered from item i and region r on, in walk order, the second region after its holder. A region
-- is numbered before those inside it.
abbrev pub numbered : (i r : ℕ) → Entries → Entries
numbered i r none = none
numbered i r (leaf id l rest) = leaf i l (numbered (i + 1) r rest)
numbered i r (node id k h held g second rest) =
    let at = i + items_in held in
    let outer = r + 1 + regions_in held in
    node at k (numbered_head r h) (numbered i (r + 1) held)
    (second_head k outer g) (numbered (at + 1) (r + regions_held k + regions_in held) second)
    (numbered (at + 1 + items_in second) (r + regions_held k + regions_in held + regions_in second)
    rest)

abbrev pub advanced : Scene → Scene
advanced s =
    let es = due s.root.entries in
    record {
      root = record { head = new_head 0; entries = numbered 0 1 es };
      next_item = items_in es;
      next_region = 1 + regions_in es;
    }

-- what is shown, in walk order
abbrev pub shown_in : Entries → List (List Tree)
shown_in none = []
shown_in (leaf id (Do f env) rest) = shown_in rest
shown_in (leaf id (Later f env) rest) = shown_in rest
shown_in (leaf id (Shown vs) rest) = vs ∷ shown_in rest
shown_in (node id k h held g second rest) =
    (only_if (second_lives k) (shown_in second) ++ shown_in held) ++ shown_in rest

-- The store of the next state keeps the facts of static variables alone, in any order, and its
-- variables.
abbrev pub next_store : Contents → Contents
next_store k = record { facts = lasting_facts k.facts; variables = k.variables }

-- the store of the next state: the facts of static variables are kept, in any order, and its
-- variables
pub record StoreGoesOn (old new : Contents) : Type 0 where
  pub kept : (p : Path) → kept_shape new.facts p ≡ kept_shape (lasting_facts old.facts) p
  pub no_clash : NoClash new.facts
  pub variables : new.variables ≡ old.variables
