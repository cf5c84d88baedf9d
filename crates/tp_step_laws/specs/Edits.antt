-- What a step replaces, as a map over entries. The regions that an item holds are handed to the
-- edit, so that they may have changed meanwhile.
use Rattle.std.specs.Prelude.{◌≡◌, ℕ, ◌||◌, true, false, List, Some, Bool, cond, eqb, Option, None}
use Rattle.tp_value.specs.declared.path.Fact.{Fact}
use Rattle.tp_scene.specs.Scene.{Head, Leaf, Holder, Entries, none, leaf, node, Place, Side, Ending, Going, marked, new_head, second_lives, append, risen, held_place, second_place}
use Rattle.tp_scene.specs.Step.{Reduction, reduces, Numbers}
use Rattle.tp_scene.specs.Pick.{Setting, pick, mark_at, put}
use Rattle.tp_step_laws.specs.Rows.{Grows, holder_make}

-- the mark for the item's region, and what comes in place of the item, by the regions that it holds
pub record Edit : Type 0 where
  pub mark : Option Side
  pub make : Head → Entries → Head → Entries → Entries

-- an edit for some of the items
abbrev pub Edits : Type 0
Edits = ℕ → Option Edit

-- the edit sets that mark
abbrev pub is_side : Side → Option Side → Bool
is_side z None = false
is_side Ending (Some Ending) = true
is_side Ending (Some Going) = false
is_side Going (Some Ending) = false
is_side Going (Some Going) = true

abbrev pub sets : Side → Option Edit → Bool
sets z None = false
sets z (Some e) = is_side z e.mark

-- an item of the region itself sets that mark
abbrev pub marks : Edits → Side → Entries → Bool
marks ρ z none = false
marks ρ z (leaf id l rest) = sets z (ρ id) || marks ρ z rest
marks ρ z (node id k h held g second rest) = sets z (ρ id) || marks ρ z rest

-- A region after edits of its items: its head, and its entries.
abbrev pub head_after : Edits → Entries → Head → Head
head_after ρ es h = record {
  number = h.number;
  ends = h.ends || marks ρ Ending es;
  goes = h.goes || marks ρ Going es;
}

abbrev pub leaf_after : Option Edit → ℕ → Leaf → Entries → Entries
leaf_after None id l rest = leaf id l rest
leaf_after (Some e) id l rest = append (e.make (new_head 0) none (new_head 0) none) rest

abbrev pub node_after : Option Edit → ℕ → Holder → Head → Entries → Head → Entries → Entries
    → Entries
node_after None id k h held g second rest = node id k h held g second rest
node_after (Some e) id k h held g second rest = append (e.make h held g second) rest

abbrev pub edited : Edits → Entries → Entries
edited ρ none = none
edited ρ (leaf id l rest) = leaf_after (ρ id) id l (edited ρ rest)
edited ρ (node id k h held g second rest) =
    node_after (ρ id) id k (head_after ρ held h) (edited ρ held) (head_after ρ second g)
    (edited ρ second) (edited ρ rest)

-- an edit of one item alone
abbrev pub single : ℕ → Edit → Edits
single t e = λ id. cond (eqb id t) (Some e) None

-- the edits reach through what `e` makes, to the regions that it carries, and mark nothing of what
-- it makes
pub record Natural (ρ : Edits) (e : Edit) : Type 0 where
  pub carried : (h : Head) (i : Entries) (g : Head) (s : Entries)
      → edited ρ (e.make h i g s)
      ≡ e.make (head_after ρ i h) (edited ρ i) (head_after ρ s g) (edited ρ s)
  pub unmarked : (h : Head) (i : Entries) (g : Head) (s : Entries) (z : Side)
      → marks ρ z (e.make h i g s) ≡ false

-- Edits of two items commute, in the entries and in the marks of their region.
abbrev pub EditsCommute : Type 0
EditsCommute = (t u : ℕ) (e f : Edit) → eqb t u ≡ false → Natural (single u f) e
    → Natural (single t e) f
    → (es : Entries) (h : Head)
    → (edited (single u f) (edited (single t e) es) ≡ edited (single t e) (edited (single u f) es))
    × (head_after (single u f) (edited (single t e) es) (head_after (single t e) es h)
    ≡ head_after (single t e) (edited (single u f) es) (head_after (single u f) es h))

-- What an item is, without the regions that it holds; of these, the place of the first.
pub data Thing : Type 0 where
  of_leaf : (l : Leaf) → Thing
  of_holder : (k : Holder) (held : Place) → Thing

-- the number stands somewhere, live or dormant
abbrev pub occurs : ℕ → Entries → Bool
occurs t none = false
occurs t (leaf id l rest) = eqb id t || occurs t rest
occurs t (node id k h held g second rest) =
    eqb id t || (occurs t held || (occurs t second || occurs t rest))

-- The item t, live, stands at one place alone: what it is and the place of its region's items, in
-- entries of a region of that place.
pub data At (t : ℕ) : Thing → Place → Entries → Place → Type 0 where
  this_leaf : {id : ℕ} {l : Leaf} {rest : Entries} {p : Place} → eqb id t ≡ true
      → occurs t rest ≡ false → At t (of_leaf l) p (leaf id l rest) p
  past_leaf : {x : Thing} {q : Place} {id : ℕ} {l : Leaf} {rest : Entries} {p : Place}
      → eqb id t ≡ false → At t x q rest p → At t x q (leaf id l rest) p
  this_node : {id : ℕ} {k : Holder} {h : Head} {held : Entries} {g : Head} {second rest :
      Entries} {p : Place}
      → eqb id t ≡ true → occurs t held ≡ false → occurs t second ≡ false → occurs t rest ≡ false
      → At t (of_holder k (held_place k h held p)) p (node id k h held g second rest) p
  in_first : {x : Thing} {q : Place} {id : ℕ} {k : Holder} {h : Head} {held : Entries} {g :
      Head} {second rest : Entries} {p : Place}
      → eqb id t ≡ false → At t x q held (held_place k h held p) → occurs t second ≡ false
      → occurs t rest ≡ false → At t x q (node id k h held g second rest) p
  in_second : {x : Thing} {q : Place} {id : ℕ} {k : Holder} {h : Head} {held : Entries} {g :
      Head} {second rest : Entries} {p : Place}
      → eqb id t ≡ false → second_lives k ≡ true → occurs t held ≡ false
      → At t x q second (second_place g second p) → occurs t rest ≡ false
      → At t x q (node id k h held g second rest) p
  past_node : {x : Thing} {q : Place} {id : ℕ} {k : Holder} {h : Head} {held : Entries} {g :
      Head} {second rest : Entries} {p : Place}
      → eqb id t ≡ false → occurs t held ≡ false → occurs t second ≡ false → At t x q rest p
      → At t x q (node id k h held g second rest) p

abbrev pub GrowsThing : Thing → Thing → Type 0
GrowsThing (of_leaf l) (of_leaf m) = m ≡ l
GrowsThing (of_leaf l) (of_holder k held) = ⊥
GrowsThing (of_holder k held) (of_leaf m) = ⊥
GrowsThing (of_holder k held) (of_holder k' held') = (k' ≡ k) × Grows held held'

-- where u stands afterwards: the same thing, of as much status or more
pub record Stays (u : ℕ) (y : Thing) (r : Place) (es : Entries) (p : Place) : Type 0 where
  pub thing : Thing
  pub place : Place
  pub at : At u thing place es p
  pub like : GrowsThing y thing
  pub more : Grows r place

-- What an edit owes of the item that it replaces: the status that rises from it, and the place of
-- what stands inside.
pub record CarriesRegions (u : ℕ) (e : Edit) (k : Holder) (held : Place) : Type 0 where
  pub dead : second_lives k ≡ false
  pub up : (h : Head) (i : Entries) (g : Head) (s rest : Entries) (z : Side)
      → ((marked z h || risen z i) ≡ true → held.is z ≡ true)
      → risen z (node 0 k h i g s rest) ≡ true → risen z (append (e.make h i g s) rest) ≡ true
  pub within : (y : Thing) (r : Place) (h : Head) (i : Entries) (g : Head) (s rest : Entries)
      (p q : Place)
      → At u y r i (held_place k h i p) → Grows p q → occurs u s ≡ false → occurs u rest ≡ false
      → Stays u y r (append (e.make h i g s) rest) q

abbrev pub Carry : ℕ → Edit → Thing → Type 0
Carry u e (of_leaf l) = Unit {0}
Carry u e (of_holder k held) = CarriesRegions u e k held

-- nothing that the edit makes has the number u
abbrev pub New : ℕ → Edit → Type 0
New u e = (h : Head) (i : Entries) (g : Head) (s : Entries) → occurs u i ≡ false
    → occurs u s ≡ false → occurs u (e.make h i g s) ≡ false

-- The other item stays live after an edit, the same thing, knowing as much or more.
abbrev pub Remains : Type 0
Remains = (t u : ℕ) (e : Edit) → eqb t u ≡ false → New u e
    → (es : Entries) (x : Thing) (q : Place) (y : Thing) (r : Place) (p p' : Place)
    → At t x q es p → Carry u e x → At u y r es p → Grows p p'
    → Stays u y r (edited (single t e) es) p'

-- the edit that a reduction of this thing is
abbrev pub edit_of : Thing → Numbers → Reduction → Edit
edit_of (of_leaf l) n r = record { mark = r.mark; make = λ h i g s. r.news }
edit_of (of_holder k held) n r = record { mark = None; make = holder_make k n }

-- A reduction of an item is that edit, in the entries and in the marks of their region.
abbrev pub PutIsEdit : Type 0
PutIsEdit = (w : Setting) (facts : List Fact) (t : ℕ) (n : Numbers) (r : Reduction) (es : Entries)
    (p : Place) (x : Thing) (q : Place)
    → At t x q es p → pick w facts t es p n ≡ reduces r
    → (put t r.mark r.news es ≡ edited (single t (edit_of x n r)) es)
    × ((h : Head) → mark_at t r.mark h es ≡ head_after (single t (edit_of x n r)) es h)
