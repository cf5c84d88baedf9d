-- Scenes whose paths are of variables with numbers below a number.
use Rattle.std.proofs.Common.{◌≡◌, ℕ, zero, suc, ◌<◌, Bool, List, [], ◌∷◌, Some, length, slice_get, arith, refl, ap}
use Rattle.tp_meaning.specs.Syntax.{Definition, BindingTree, place_binding, known_binding}
use Rattle.tp_meaning.specs.BindingsFit.{BindingsFit}
use Rattle.tp_store.specs.Known.{Variable}
use Rattle.tp_scene.specs.Scene.{Bindings, Leaf, Do, Later, Shown, Holder, Split, SplitProject, Closed, Opened, Running, Entries, none, leaf, node, Place}
use Rattle.tp_scene.specs.Fits.{kinds_in, LeafFits, HolderFits, EntriesFit}

abbrev pub BindingBelow : ℕ → BindingTree → Type 0
BindingBelow n (place_binding p) = p.var.number < n
BindingBelow n (known_binding t) = Unit {0}

abbrev pub AllBelow : ℕ → Bindings → Type 0
AllBelow n [] = Unit {0}
AllBelow n (b ∷ env) = BindingBelow n b × AllBelow n env

abbrev pub LeafBelow : ℕ → Leaf → Type 0
LeafBelow n (Do f env) = AllBelow n env
LeafBelow n (Later f env) = AllBelow n env
LeafBelow n (Shown vs) = Unit {0}

abbrev pub HolderBelow : ℕ → Holder → Type 0
HolderBelow n (Split f env) = AllBelow n env
HolderBelow n (SplitProject f env) = AllBelow n env
HolderBelow n Closed = Unit {0}
HolderBelow n (Opened f env) = AllBelow n env
HolderBelow n (Running f env) = AllBelow n env

-- this much is asked where the holder has a second region
abbrev pub IfSecond : Holder → Type 0 → Type 0
IfSecond (Split f env) X = Unit {0}
IfSecond (SplitProject f env) X = X
IfSecond Closed X = Unit {0}
IfSecond (Opened f env) X = Unit {0}
IfSecond (Running f env) X = X

pub if_second : (k : Holder) (X Y : Type 0) → (X → Y) → IfSecond k X → IfSecond k Y
if_second (SplitProject f env) X Y go x = go x
if_second (Running f env) X Y go x = go x
if_second k X Y go x = tt

abbrev pub Below : ℕ → Entries → Type 0
Below n none = Unit {0}
Below n (leaf id l rest) = LeafBelow n l × Below n rest
Below n (node id k h held g second rest) = HolderBelow n k × Below n held × IfSecond k (Below n second) × Below n rest

pub variable_below : (xs : List Bool) (i : ℕ) (b : Bool) → slice_get xs i ≡ Some b → i < length xs
variable_below [] i b e = absurd (cc)
variable_below (x ∷ xs) zero b e = omega arith
variable_below (x ∷ xs) (suc i) b e = let q = variable_below xs i b e in omega (arith, q)

pub kinds_length : (xs : List Variable) → length (kinds_in xs) ≡ length xs
kinds_length [] = refl
kinds_length (x ∷ xs) = ap suc (kinds_length xs)

module _ (variables : List Variable) where
  pub bindings_below : (env : Bindings) → BindingsFit (kinds_in variables) env → AllBelow (length variables) env
  bindings_below [] h = tt
  bindings_below (place_binding p ∷ env) h = (let q = variable_below (kinds_in variables) p.var.number p.var.lasting h.0.0 in let k = kinds_length variables in omega (arith, q, k), bindings_below env h.1)
  bindings_below (known_binding t ∷ env) h = (tt, bindings_below env h.1)

  module _ (defs : List Definition) (kinds : List Bool) where
    pub leaf_below : (l : Leaf) (p : Place) → LeafFits defs kinds variables l p → LeafBelow (length variables) l
    leaf_below (Do f env) p h = bindings_below env h.1
    leaf_below (Later f env) p h = bindings_below env h.0.1
    leaf_below (Shown vs) p h = tt

    pub holder_below : (k : Holder) (held : Entries) (q : Place) (X Y : Type 0) → HolderFits defs kinds variables k held q X Y → HolderBelow (length variables) k
    holder_below (Split f env) held q X Y h = bindings_below env h.1
    holder_below (SplitProject f env) held q X Y h = bindings_below env h.0.1
    holder_below Closed held q X Y h = tt
    holder_below (Opened f env) held q X Y h = bindings_below env h.1
    holder_below (Running f env) held q X Y h = bindings_below env h.0.1

    -- what is asked of a second region
    pub second_fits : (k : Holder) (held : Entries) (q : Place) (X Y Z : Type 0) → (X → Z) → (Y → Z) → HolderFits defs kinds variables k held q X Y → IfSecond k Z
    second_fits (SplitProject f env) held q X Y Z x y h = x h.1
    second_fits (Running f env) held q X Y Z x y h = y h.1
    second_fits k held q X Y Z x y h = tt

    pub entries_below : (es : Entries) (p : Place) → EntriesFit defs kinds variables es p → Below (length variables) es
    entries_below none p h = tt
    entries_below (leaf id l rest) p h = (leaf_below l p h.0, entries_below rest p h.1)
    entries_below (node id k hd held g second rest) p h = (
      holder_below k held _ _ _ h.0,
      entries_below held _ h.1,
      second_fits k held _ _ _ (Below (length variables) second) (λ x. entries_below second _ x.1) (λ x. entries_below second _ x) h.0,
      entries_below rest p h.2,
    )
