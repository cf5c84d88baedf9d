-- Scenes: the regions of a state, and the items in them.
use Rattle.std.specs.Prelude.{ℕ, ◌+◌, Bool, true, false, ◌||◌, ◌&&◌, not, eqb, List, []}
use Rattle.tp_value.specs.Tree.{Tree}
use Rattle.tp_meaning.specs.Syntax.{FormulaTree, BindingTree}

-- what the bound names of a formula stand for
abbrev pub Bindings : Type 0
Bindings = List BindingTree

-- The two sides of a region's status: its interval ends with this state, or it goes on.
pub data Side : Type 0 where
  Ending : Side
  Going : Side

abbrev pub other_side : Side → Side
other_side Ending = Going
other_side Going = Ending

-- a region's number and its marks
pub record Head : Type 0 where
  pub number : ℕ
  pub ends : Bool
  pub goes : Bool

abbrev pub marked : Side → Head → Bool
marked Ending h = h.ends
marked Going h = h.goes

-- An item without a region: a formula that is to hold from this state on, or from the next one;
-- values that are shown.
pub data Leaf : Type 0 where
  Do : (what : FormulaTree) (env : Bindings) → Leaf
  Later : (what : FormulaTree) (env : Bindings) → Leaf
  Shown : (values : List Tree) → Leaf

-- An item that holds a region: `Split` its left region, and the formula that follows it;
-- `SplitProject` its left region, and besides the outer region of the projection that follows it,
-- with the piece; `Closed` its region, which has ended; `Opened` the outer region of a projection
-- whose next piece hasn't begun; `Running` the inner region, which is the piece at hand, and
-- besides the outer region.
pub data Holder : Type 0 where
  Split : (after : FormulaTree) (env : Bindings) → Holder
  SplitProject : (piece : FormulaTree) (env : Bindings) → Holder
  Closed : Holder
  Opened : (piece : FormulaTree) (env : Bindings) → Holder
  Running : (piece : FormulaTree) (env : Bindings) → Holder

-- The entries of a region in order: each has its item's number, and a holder has its region and a
-- second one, which is the outer region of `SplitProject` and of `Running` and is without entries
-- and marks for the others.
pub data Entries : Type 0 where
  none : Entries
  leaf : (id : ℕ) (item : Leaf) (rest : Entries) → Entries
  node : (id : ℕ) (item : Holder) (head : Head) (held : Entries) (second_head : Head)
      (second : Entries) (rest : Entries) → Entries

pub record Region : Type 0 where
  pub head : Head
  pub entries : Entries

-- a scene: its root, and the numbers that the next item and the next region take
pub record Scene : Type 0 where
  pub root : Region
  pub next_item : ℕ
  pub next_region : ℕ

-- a region that has no marks
abbrev pub new_head : ℕ → Head
new_head n = record { number = n; ends = false; goes = false }

abbrev pub no_region : Head
no_region = new_head 0

-- entries with one kind of item in front
abbrev pub split_then : (id : ℕ) → (left : Region) → (after : FormulaTree) → Bindings → Entries
    → Entries
split_then id left after env rest =
    node id (Split after env) left.head left.entries no_region none rest

abbrev pub closed_then : (id : ℕ) → (closed : Region) → Entries → Entries
closed_then id closed rest = node id Closed closed.head closed.entries no_region none rest

abbrev pub opened_then : (id : ℕ) → (outer : Region) → (piece : FormulaTree) → Bindings → Entries
    → Entries
opened_then id outer piece env rest =
    node id (Opened piece env) outer.head outer.entries no_region none rest

abbrev pub running_then : (id : ℕ) → (inner outer : Region) → (piece : FormulaTree) → Bindings
    → Entries → Entries
running_then id inner outer piece env rest =
    node id (Running piece env) inner.head inner.entries outer.head outer.entries rest

-- The second region is live: its items can be picked. That of `SplitProject` is dormant.
abbrev pub second_lives : Holder → Bool
second_lives (Split after env) = false
second_lives (SplitProject piece env) = false
second_lives Closed = false
second_lives (Opened piece env) = false
second_lives (Running piece env) = true

abbrev pub only_if : {A : Type 0} → Bool → List A → List A
only_if true xs = xs
only_if false xs = []

-- an item with this number is live
abbrev pub has : ℕ → Entries → Bool
has t none = false
has t (leaf id l rest) = eqb id t || has t rest
has t (node id k h held g second rest) =
    eqb id t || ((second_lives k && has t second) || (has t held || has t rest))

-- it is an item of the region itself
abbrev pub has_here : ℕ → Entries → Bool
has_here t none = false
has_here t (leaf id l rest) = eqb id t || has_here t rest
has_here t (node id k h held g second rest) =
    eqb id t || (not ((second_lives k && has t second) || has t held) && has_here t rest)

abbrev pub append : Entries → Entries → Entries
append none ys = ys
append (leaf id l rest) ys = leaf id l (append rest ys)
append (node id k h held g second rest) ys = node id k h held g second (append rest ys)

-- Status. A region is so where it is marked so, where a region that one of its items holds is so
-- and makes it so, and where the region around it is so and makes it so.

-- a left or inner region that goes makes the region around it go; an outer one makes it what it is
-- itself
abbrev pub rises : Holder → Side → Bool
rises (Opened piece env) z = true
rises (Split after env) Going = true
rises (SplitProject piece env) Going = true
rises (Running piece env) Going = true
rises (Split after env) Ending = false
rises (SplitProject piece env) Ending = false
rises (Running piece env) Ending = false
rises Closed z = false

-- a left or inner region ends where the region around it ends; an outer one is what that is
abbrev pub sinks : Holder → Side → Bool
sinks (Opened piece env) z = true
sinks (Split after env) Ending = true
sinks (SplitProject piece env) Ending = true
sinks (Running piece env) Ending = true
sinks (Split after env) Going = false
sinks (SplitProject piece env) Going = false
sinks (Running piece env) Going = false
sinks Closed z = false

-- a closed region ends
abbrev pub forced : Holder → Side → Bool
forced Closed Ending = true
forced Closed Going = false
forced (Split after env) z = false
forced (SplitProject piece env) z = false
forced (Opened piece env) z = false
forced (Running piece env) z = false

-- what rises from the regions that the items hold
abbrev pub risen : Side → Entries → Bool
risen z none = false
risen z (leaf id l rest) = risen z rest
risen z (node id k h held g second rest) =
    (rises k z && (marked z h || risen z held))
    || ((second_lives k && (marked z g || risen z second)) || risen z rest)

-- what a step can see of the region where an item stands: its number, its depth, and its status
pub record Place : Type 0 where
  pub region : ℕ
  pub depth : ℕ
  pub is : Side → Bool

abbrev pub root_place : Region → Place
root_place r =
    record { region = r.head.number; depth = 0; is = λ z. marked z r.head || risen z r.entries }

-- the place of the items of a holder's region, and of its second region where that is live, in a
-- region that is `p`
abbrev pub held_place : Holder → Head → Entries → Place → Place
held_place k h held p =
    record {
      region = h.number;
      depth = p.depth + 1;
      is = λ z. (sinks k z && p.is z) || (forced k z || (marked z h || risen z held));
    }

abbrev pub second_place : Head → Entries → Place → Place
second_place g second p =
    record {
      region = g.number;
      depth = p.depth + 1;
      is = λ z. p.is z || (marked z g || risen z second);
    }
