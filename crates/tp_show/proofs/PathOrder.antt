-- The order of paths: what stands inside of a path, and what comes behind all of that.
use Rattle.std.proofs.Common.{◌≡◌, ◌⊎◌, inl, inr, ◌<◌, ℕ, Bool, true, false, ◌&&◌, ◌||◌, eqb, ltb, List, [], ◌∷◌, ◌++◌, length, refl, sym, ap, ◌∙◌, subst, arith, tests, append-nil, length-append}
use Rattle.std.specs.List.{starts_with}
use Rattle.std.proofs.lemmas.Bool.{or_cases, and_parts}
use Rattle.std.proofs.lemmas.Bool.Decides.{Decides-eqb}
use Rattle.std.proofs.lemmas.Slice.Eq.{starts_is}
use Rattle.tp_value.specs.declared.path.Path.{Path}
use Rattle.tp_value.specs.declared.path.Fact.{Fact}
use Rattle.tp_store.specs.Facts.{same_variable}
use Rattle.tp_store.specs.Known.{is_lesser}
use Rattle.tp_store.proofs.Paths.{same_variable-decides}
use Rattle.tp_show.specs.Line.{is_before, is_deeper, is_inside}

-- the indices first differ at a place where these have the greater one
abbrev pub ArePast : List ℕ → List ℕ → Type 0
ArePast [] ys = ⊥
ArePast (x ∷ xs) [] = ⊥
ArePast (x ∷ xs) (y ∷ ys) = (x < y) ⊎ ((x ≡ y) × ArePast xs ys)

-- the path comes behind another one and all that is inside of that
abbrev pub IsPast : Path → Path → Type 0
IsPast p q = (p.var.number < q.var.number) ⊎ ((p.var.number ≡ q.var.number) × ArePast p.at q.at)

-- ---- indices

less_first : (x y : ℕ) (b : Bool) → x < y → (ltb x y || (eqb x y && b)) ≡ true
less_first x y b h = let l : ltb x y ≡ true = grind (arith, tests) in ap (λ c. c || (eqb x y && b)) l

same_first : (x y : ℕ) (b : Bool) → x ≡ y → b ≡ true → (ltb x y || (eqb x y && b)) ≡ true
same_first x y b e h = grind (arith, tests, e, h)

first_cases : (x y : ℕ) (b : Bool) → (ltb x y || (eqb x y && b)) ≡ true → (x < y) ⊎ ((x ≡ y) × (b ≡ true))
first_cases x y b h = elim (or_cases (ltb x y) (eqb x y && b) h) [
  | inl l ↦ inl (grind (arith, tests))
  | inr e ↦ (let both = and_parts (eqb x y) b e in inr (grind (arith, tests), both.1))
]

pub lesser_deeper : (a : List ℕ) (i : ℕ) (r : List ℕ) → is_lesser a (a ++ i ∷ r) ≡ true
lesser_deeper [] i r = refl
lesser_deeper (x ∷ a) i r = same_first x x (is_lesser a (a ++ i ∷ r)) refl (lesser_deeper a i r)

pub lesser_more : (a b r : List ℕ) → is_lesser a b ≡ true → is_lesser a (b ++ r) ≡ true
lesser_more [] [] r h = absurd cc
lesser_more [] (y ∷ b) r h = refl
lesser_more (x ∷ a) [] r h = absurd cc
lesser_more (x ∷ a) (y ∷ b) r h = elim (first_cases x y (is_lesser a b) h) [
  | inl l ↦ less_first x y (is_lesser a (b ++ r)) l
  | inr e ↦ same_first x y (is_lesser a (b ++ r)) e.0 (lesser_more a b r e.1)
]

pub past_lesser : (a b r s : List ℕ) → ArePast a b → is_lesser (a ++ r) (b ++ s) ≡ true
past_lesser [] b r s h = absurd h
past_lesser (x ∷ a) [] r s h = absurd h
past_lesser (x ∷ a) (y ∷ b) r s (inl l) = less_first x y (is_lesser (a ++ r) (b ++ s)) l
past_lesser (x ∷ a) (y ∷ b) r s (inr e) = same_first x y (is_lesser (a ++ r) (b ++ s)) e.0 (past_lesser a b r s e.1)

past_more : (a b r : List ℕ) → ArePast a b → ArePast a (b ++ r)
past_more [] b r h = absurd h
past_more (x ∷ a) [] r h = absurd h
past_more (x ∷ a) (y ∷ b) r (inl l) = inl l
past_more (x ∷ a) (y ∷ b) r (inr e) = inr (e.0, past_more a b r e.1)

past_then : (a b c : List ℕ) → ArePast a b → is_lesser b c ≡ true → ArePast a c
past_then [] b c h k = absurd h
past_then (x ∷ a) [] c h k = absurd h
past_then (x ∷ a) (y ∷ b) [] h k = absurd cc
past_then (x ∷ a) (y ∷ b) (z ∷ c) h k = by (past_then a b c) h (first_cases y z (is_lesser b c) k)
  where
    by : (ArePast a b → is_lesser b c ≡ true → ArePast a c) → (x < y) ⊎ ((x ≡ y) × ArePast a b) → (y < z) ⊎ ((y ≡ z) × (is_lesser b c ≡ true)) → (x < z) ⊎ ((x ≡ z) × ArePast a c)
    by later (inl l) (inl m) = inl (omega (arith, l, m))
    by later (inl l) (inr e) = (let same : y ≡ z = e.0 in inl (omega (arith, l, same)))
    by later (inr f) (inl m) = (let same : x ≡ y = f.0 in inl (omega (arith, m, same)))
    by later (inr f) (inr e) = inr (f.0 ∙ e.0, later f.1 e.1)

pub later_item : (a : List ℕ) (j k : ℕ) → j < k → ArePast (a ++ j ∷ []) (a ++ k ∷ [])
later_item [] j k h = inl h
later_item (x ∷ a) j k h = inr (refl, later_item a j k h)

-- greater indices go on from these, or come behind all that does
deeper_or_past : (a b : List ℕ) → is_lesser a b ≡ true → ((i : ℕ) × (r : List ℕ) × (b ≡ a ++ i ∷ r)) ⊎ ArePast a b
deeper_or_past [] [] h = absurd cc
deeper_or_past [] (y ∷ b) h = inl (y, b, refl)
deeper_or_past (x ∷ a) [] h = absurd cc
deeper_or_past (x ∷ a) (y ∷ b) h = elim (first_cases x y (is_lesser a b) h) [
  | inl l ↦ inr (inl l)
  | inr e ↦ elim (deeper_or_past a b e.1) [
    | inl d ↦ (let same : x ≡ y = e.0 in inl (d.0, d.1, ap (λ z. z ∷ b) (sym same) ∙ ap (λ (z : List ℕ). x ∷ z) d.2))
    | inr p ↦ inr (inr (e.0, p))
  ]
]

deeper_is : (a : List ℕ) (i : ℕ) (r : List ℕ) → is_deeper a (a ++ i ∷ r) ≡ true
deeper_is a i r =
    let long = length-append a (i ∷ r) in
    let longer : ltb (length a) (length (a ++ i ∷ r)) ≡ true = grind (arith, tests, long) in
    let begins : starts_with eqb (a ++ i ∷ r) a ≡ true = (starts_is Decides-eqb (a ++ i ∷ r) a (starts_with eqb (a ++ i ∷ r) a) refl).1 (i ∷ r) refl in
    ap (λ c. c && starts_with eqb (a ++ i ∷ r) a) longer ∙ begins

-- ---- paths

pub is_past_more : (p q : Path) (r : List ℕ) → IsPast p q → IsPast p (record { var = q.var; at = q.at ++ r })
is_past_more p q r (inl l) = inl l
is_past_more p q r (inr e) = inr (e.0, past_more p.at q.at r e.1)

pub past_then_before : (p : Path) (g h : Fact) → IsPast p g.path → is_before g h ≡ true → IsPast p h.path
past_then_before p g h past before = by past (first_cases g.path.var.number h.path.var.number (is_lesser g.path.at h.path.at) before)
  where
    by : IsPast p g.path → (g.path.var.number < h.path.var.number) ⊎ ((g.path.var.number ≡ h.path.var.number) × (is_lesser g.path.at h.path.at ≡ true)) → IsPast p h.path
    by (inl l) (inl m) = inl (omega (arith, l, m))
    by (inl l) (inr e) = (let same : g.path.var.number ≡ h.path.var.number = e.0 in inl (omega (arith, l, same)))
    by (inr f) (inl m) = (let same : p.var.number ≡ g.path.var.number = f.0 in inl (omega (arith, m, same)))
    by (inr f) (inr e) = inr (f.0 ∙ e.0, past_then p.at g.path.at h.path.at f.1 e.1)

-- a fact behind another is behind its path, or inside of it
pub past_outside : (f g : Fact) → (f.path.var.number ≡ g.path.var.number → f.path.var ≡ g.path.var) → is_before f g ≡ true → is_inside f.path g.path ≡ false → IsPast f.path g.path
past_outside f g one before outside = elim (first_cases f.path.var.number g.path.var.number (is_lesser f.path.at g.path.at) before) [
  | inl l ↦ inl l
  | inr e ↦ elim (deeper_or_past f.path.at g.path.at e.1) [
    | inl d ↦ (let same : same_variable f.path.var g.path.var ≡ true = (same_variable-decides f.path.var g.path.var).1 (one e.0) in
        let deeper : is_deeper f.path.at g.path.at ≡ true = ap (is_deeper f.path.at) d.2 ∙ deeper_is f.path.at d.0 d.1 in
        let inside : is_inside f.path g.path ≡ true = ap (λ c. c && is_deeper f.path.at g.path.at) same ∙ deeper in
        absurd (cc (sym inside ∙ outside)))
    | inr p ↦ inr (e.0, p)
  ]
]

pub before_by : (f g : Fact) → f.path.var.number ≡ g.path.var.number → is_lesser f.path.at g.path.at ≡ true → is_before f g ≡ true
before_by f g e h = same_first f.path.var.number g.path.var.number (is_lesser f.path.at g.path.at) e h

pub before_more : (f g h : Fact) (r : List ℕ) → h.path ≡ record { var = g.path.var; at = g.path.at ++ r } → is_before f g ≡ true → is_before f h ≡ true
before_more f g h r e before =
    let q : Path = record { var = g.path.var; at = g.path.at ++ r } in
    let P : Path → Type 0 = λ x. (ltb f.path.var.number x.var.number || (eqb f.path.var.number x.var.number && is_lesser f.path.at x.at)) ≡ true in
    let there : P q = elim (first_cases f.path.var.number g.path.var.number (is_lesser f.path.at g.path.at) before) [
      | inl l ↦ less_first f.path.var.number g.path.var.number (is_lesser f.path.at (g.path.at ++ r)) l
      | inr s ↦ same_first f.path.var.number g.path.var.number (is_lesser f.path.at (g.path.at ++ r)) s.0 (lesser_more f.path.at g.path.at r s.1)
    ] in
    subst P (sym e) there

-- what is at a path or inside of it is before what is past the path
pub before_past : (p : Path) (f g : Fact) (r : List ℕ) → f.path ≡ record { var = p.var; at = p.at ++ r } → IsPast p g.path → is_before f g ≡ true
before_past p f g r e past =
    let q : Path = record { var = p.var; at = p.at ++ r } in
    let P : Path → Type 0 = λ x. (ltb x.var.number g.path.var.number || (eqb x.var.number g.path.var.number && is_lesser x.at g.path.at)) ≡ true in
    let there : P q = elim past [
      | inl l ↦ less_first p.var.number g.path.var.number (is_lesser (p.at ++ r) g.path.at) l
      | inr s ↦ same_first p.var.number g.path.var.number (is_lesser (p.at ++ r) g.path.at) s.0 (subst (λ (z : List ℕ). is_lesser (p.at ++ r) z ≡ true) (append-nil g.path.at) (past_lesser p.at g.path.at r [] s.1))
    ] in
    subst P (sym e) there
