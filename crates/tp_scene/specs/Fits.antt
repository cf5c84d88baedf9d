-- Scenes that fit: what a run's scenes are, beyond their form.
use Rattle.std.specs.Prelude.{◌≡◌, ◌≢◌, ℕ, ◌+◌, ◌≤◌, ◌<◌, Bool, false, List, [], ◌∷◌, ◌++◌, map, length, IsTrue, ◌⊎◌}
use Rattle.tp_meaning.specs.Syntax.{Definition, FormulaTree, more}
use Rattle.tp_meaning.specs.Fits.{FormulaFits}
use Rattle.tp_meaning.specs.BindingsFit.{BindingsFit}
use Rattle.tp_store.specs.Known.{Variable}
use Rattle.tp_scene.specs.Scene.{Ending, Going, Bindings, Head, Leaf, Do, Later, Shown, Holder, Split, SplitProject, Closed, Opened, Running, Entries, none, leaf, node, Place, root_place, held_place, second_place}
use Rattle.tp_scene.specs.Step.{region_limit}
use Rattle.tp_scene.specs.Pick.{Moment}

-- for each variable of a store whether it is static
abbrev pub kinds_in : List Variable → List Bool
kinds_in xs = map (λ x. x.lasting) xs

-- no number stands twice, and each is below this one
abbrev pub IsNew : ℕ → List ℕ → Type 0
IsNew n [] = Unit {0}
IsNew n (m ∷ ms) = (n ≢ m) × IsNew n ms

abbrev pub AreNumbers : (below : ℕ) → List ℕ → Type 0
AreNumbers below [] = Unit {0}
AreNumbers below (n ∷ ns) = (n < below) × IsNew n ns × AreNumbers below ns

-- the numbers of all items, and of all regions, dormant ones too
abbrev pub item_numbers : Entries → List ℕ
item_numbers none = []
item_numbers (leaf id l rest) = id ∷ item_numbers rest
item_numbers (node id k h held g second rest) =
    id ∷ (item_numbers held ++ (item_numbers second ++ item_numbers rest))

abbrev pub second_number : Holder → Head → List ℕ
second_number (Split f env) g = []
second_number (SplitProject f env) g = g.number ∷ []
second_number Closed g = []
second_number (Opened f env) g = []
second_number (Running f env) g = g.number ∷ []

abbrev pub region_numbers : Entries → List ℕ
region_numbers none = []
region_numbers (leaf id l rest) = region_numbers rest
region_numbers (node id k h held g second rest) =
    h.number ∷ (region_numbers held
    ++ (second_number k g ++ (region_numbers second ++ region_numbers rest)))

-- no region both ends and goes on
abbrev pub IsCalm : Place → Type 0
IsCalm p = IsTrue (p.is Ending) → IsTrue (p.is Going) → ⊥

-- a dormant region, and each in it, holds only `Do`, `Split` and `SplitProject` items and carries
-- no mark
abbrev pub Dormant : Head → Entries → Type 0
Dormant h none = (h.ends ≡ false) × (h.goes ≡ false)
Dormant h (leaf id (Do f env) rest) = Dormant h rest
Dormant h (leaf id (Later f env) rest) = ⊥
Dormant h (leaf id (Shown vs) rest) = ⊥
Dormant h (node id (Split f env) i held g second rest) = Dormant i held × Dormant h rest
Dormant h (node id (SplitProject f env) i held g second rest) =
    Dormant i held × Dormant g second × Dormant h rest
Dormant h (node id Closed i held g second rest) = ⊥
Dormant h (node id (Opened f env) i held g second rest) = ⊥
Dormant h (node id (Running f env) i held g second rest) = ⊥

-- a `More` is still to be picked
abbrev pub HasMore : Entries → Type 0
HasMore none = ⊥
HasMore (leaf id (Do more env) rest) = Unit {0}
HasMore (leaf id l rest) = HasMore rest
HasMore (node id k h held g second rest) = HasMore rest

-- `kinds` says of each global variable whether it is static
module _ (defs : List Definition) (kinds : List Bool) (variables : List Variable) where
  -- A formula names globals alone, and its bindings any variable of the store.
  abbrev pub PhraseFits : FormulaTree → Bindings → Type 0
  PhraseFits f env = FormulaFits defs kinds f (length env) × BindingsFit (kinds_in variables) env

  abbrev pub LeafFits : Leaf → Place → Type 0
  LeafFits (Do f env) p = PhraseFits f env
  LeafFits (Later f env) p = PhraseFits f env × IsTrue (p.is Going)
  LeafFits (Shown vs) p = Unit {0}

  -- `q` is the place of the items of the region that is held, and `second` is what is asked of the
  -- second one
  abbrev pub HolderFits : Holder → (held : Entries) → (q : Place) → (dormant live : Type 0) → Type 0
  HolderFits (Split f env) held q dormant live = PhraseFits f env
  HolderFits (SplitProject f env) held q dormant live = PhraseFits f env × dormant
  HolderFits Closed held q dormant live = Unit {0}
  HolderFits (Opened f env) held q dormant live = PhraseFits f env
  HolderFits (Running f env) held q dormant live = PhraseFits f env × live

  -- each formula fits its bindings, no region is too deep or both ends and goes, what holds a
  -- `Later` goes, and dormant regions are so
  abbrev pub EntriesFit : Entries → Place → Type 0
  EntriesFit none p = IsCalm p × (p.depth ≤ region_limit)
  EntriesFit (leaf id l rest) p = LeafFits l p × EntriesFit rest p
  EntriesFit (node id k h held g second rest) p =
      HolderFits k held (held_place k h held p)
      (Dormant g second × EntriesFit second
      (record { region = g.number; depth = p.depth + 1; is = λ z. false }))
      (EntriesFit second (second_place g second p))
      × EntriesFit held (held_place k h held p) × EntriesFit rest p

-- The inner region of a `Running` goes on or has a `More` to be picked.
abbrev pub InnersGo : Entries → Place → Type 0
InnersGo none p = Unit {0}
InnersGo (leaf id l rest) p = InnersGo rest p
InnersGo (node id (Running f env) h held g second rest) p =
    (IsTrue ((held_place (Running f env) h held p).is Going) ⊎ HasMore held)
    × InnersGo second (second_place g second p)
    × InnersGo held (held_place (Running f env) h held p) × InnersGo rest p
InnersGo (node id k h held g second rest) p =
    InnersGo held (held_place k h held p) × InnersGo rest p

-- The scene of a moment fits its store.
pub record MomentFits (defs : List Definition) (kinds : List Bool) (m : Moment) : Type 0 where
  pub entries : EntriesFit defs kinds m.store.variables m.scene.root.entries
      (root_place m.scene.root)
  pub items : AreNumbers m.scene.next_item (item_numbers m.scene.root.entries)
  pub regions : AreNumbers m.scene.next_region
      (m.scene.root.head.number ∷ region_numbers m.scene.root.entries)
  pub inners : InnersGo m.scene.root.entries (root_place m.scene.root)
