-- Laws of the wider formulas.
use Rattle.std.specs.Prelude.{◌≡◌, ◌↔◌, ◌⊎◌, ℕ, ◌≤◌, [], ◌∷◌}
use Rattle.tp_meaning.specs.Course.{Course, Shows, blank}
use Rattle.tp_verdict.specs.Wide.{WideTree, WideHolds, empty, next, if_more, always, conjunction, chop, disjunction, negation, sometimes, wide_formulas_of}

-- A wider formula has no display, and shows nothing.
abbrev pub WideFormulasShowNothing : Type 0
WideFormulasShowNothing =
    (w : WideTree) (s : Course) (a b : ℕ) (S : Shows) → WideHolds w s a b S → S ≡ blank

-- On each interval it holds, or it doesn't.
abbrev pub WideFormulasAreDecided : Type 0
WideFormulasAreDecided =
    (w : WideTree) (s : Course) (a b : ℕ) → a ≤ b
    → WideHolds w s a b blank ⊎ ((S : Shows) → WideHolds w s a b S → ⊥)

-- Both hold on the same intervals, and show the same.
abbrev pub HoldAlike : WideTree → WideTree → Type 0
HoldAlike w v =
    (s : Course) (a b : ℕ) (S : Shows) → a ≤ b → WideHolds w s a b S ↔ WideHolds v s a b S

-- Where the first holds, the second does, and shows the same.
abbrev pub Entails : WideTree → WideTree → Type 0
Entails w v = (s : Course) (a b : ℕ) (S : Shows) → a ≤ b → WideHolds w s a b S → WideHolds v s a b S

-- (u ; v) ; w and u ; (v ; w)
abbrev pub ChopIsAssociative : Type 0
ChopIsAssociative = (u v w : WideTree) → HoldAlike (chop (chop u v) w) (chop u (chop v w))

-- empty ; w and w ; empty, and w
pub record EmptyIsUnitOfChop : Type 0 where
  pub first : (w : WideTree) → HoldAlike (chop empty w) w
  pub last : (w : WideTree) → HoldAlike (chop w empty) w

-- (u or v) ; w and u ; w or v ; w, and the same with w in front
pub record OrGoesThroughChop : Type 0 where
  pub first : (u v w : WideTree)
      → HoldAlike (chop (disjunction u v) w) (disjunction (chop u w) (chop v w))
  pub last : (u v w : WideTree)
      → HoldAlike (chop w (disjunction u v)) (disjunction (chop w u) (chop w v))

-- (next u) ; w and next (u ; w)
abbrev pub NextGoesOutOfChop : Type 0
NextGoesOutOfChop = (u w : WideTree) → HoldAlike (chop (next u) w) (next (chop u w))

-- w implies v; and w in the next state, if there is one
abbrev pub implication : WideTree → WideTree → WideTree
implication w v = disjunction (negation w) v

abbrev pub in_next : WideTree → WideTree
in_next w = if_more (next w)

-- Where w holds, and in each state it implies w in the next one, w holds always.
abbrev pub AlwaysByInduction : Type 0
AlwaysByInduction =
    (w : WideTree)
    → Entails (conjunction (wide_formulas_of (w ∷ always (implication w (in_next w)) ∷ [])))
    (always w)

-- not not w, and w
abbrev pub NotNot : Type 0
NotNot = (w : WideTree) → HoldAlike (negation (negation w)) w

-- sometimes(w) and not always(not w); always(w) and not sometimes(not w)
pub record SometimesAndAlways : Type 0 where
  pub sometimes_is : (w : WideTree) → HoldAlike (sometimes w) (negation (always (negation w)))
  pub always_is : (w : WideTree) → HoldAlike (always w) (negation (sometimes (negation w)))
