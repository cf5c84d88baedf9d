-- Of the facts that clash with one, the first.
use Rattle.std.proofs.Common.{◌≡◌, inl, inr, ℕ, ◌<◌, ◌≤◌, Bool, true, false, ◌&&◌, ◌||◌, cond, eqb, ltb, List, [], ◌∷◌, length, Option, Some, None, refl, ap, ap₂, sym, ◌∙◌, arith}
use Rattle.std.proofs.lemmas.Bool.{both_ways, ltb-false, le-ltb, ltb-true, eqb-true, eq-eqb, or_cases, and_parts}
use Rattle.tp_value.specs.declared.path.Fact.{Fact}
use Rattle.tp_store.specs.Facts.{clash}
use Rattle.tp_store.specs.Known.{is_lesser, is_earlier, earlier_of, first_clash}
use Rattle.tp_store.proofs.Members.{In}

or_and_false : (a b c : Bool) → (a || (b && c)) ≡ false → (a ≡ false) × (b ≡ true → c ≡ false)
or_and_false true b c h = absurd (cc)
or_and_false false true c h = (refl, λ e. h)
or_and_false false false c h = (refl, λ e. absurd (cc))

false_or_and : (a b c : Bool) → a ≡ false → (b ≡ true → c ≡ false) → (a || (b && c)) ≡ false
false_or_and true b c h k = absurd (cc)
false_or_and false true c h k = k refl
false_or_and false false c h k = refl

record NotLesser (j k : ℕ) (js ks : List ℕ) : Type 0 where
  heads : k ≤ j
  tails : j ≡ k → is_lesser js ks ≡ false

not_lesser-parts : (j k : ℕ) (js ks : List ℕ) → is_lesser (j ∷ js) (k ∷ ks) ≡ false → NotLesser j k js ks
not_lesser-parts j k js ks h =
    let p = or_and_false (ltb j k) (eqb j k) (is_lesser js ks) h in
    record { heads = ltb-false j k p.0; tails = λ e. p.1 (eq-eqb j k e) }

not_lesser-from : (j k : ℕ) (js ks : List ℕ) → NotLesser j k js ks → is_lesser (j ∷ js) (k ∷ ks) ≡ false
not_lesser-from j k js ks h = false_or_and (ltb j k) (eqb j k) (is_lesser js ks) (le-ltb j k h.heads) (λ e. h.tails (eqb-true j k e))

not_lesser-trans : (a b c : List ℕ) → length a ≡ length b → length b ≡ length c → is_lesser b a ≡ false → is_lesser c b ≡ false → is_lesser c a ≡ false
not_lesser-trans [] [] [] l m h k = refl
not_lesser-trans [] [] (z ∷ c) l m h k = absurd (omega arith)
not_lesser-trans [] (y ∷ b) c l m h k = absurd (omega arith)
not_lesser-trans (x ∷ a) [] c l m h k = absurd (omega arith)
not_lesser-trans (x ∷ a) (y ∷ b) [] l m h k = absurd (omega arith)
not_lesser-trans (x ∷ a) (y ∷ b) (z ∷ c) l m h k =
    let p = not_lesser-parts y x b a h in
    let q = not_lesser-parts z y c b k in
    let ph : x ≤ y = p.heads in
    let qh : y ≤ z = q.heads in
    let tails : z ≡ x → is_lesser c a ≡ false = λ e. not_lesser-trans a b c (omega arith) (omega arith) (p.tails (omega arith)) (q.tails (omega arith)) in
    let heads : x ≤ z = omega arith in
    not_lesser-from z x c a (record { heads = heads; tails = tails })

not_lesser-same : (a b : List ℕ) → length a ≡ length b → is_lesser a b ≡ false → is_lesser b a ≡ false → a ≡ b
not_lesser-same [] [] l h k = refl
not_lesser-same [] (y ∷ b) l h k = absurd (omega arith)
not_lesser-same (x ∷ a) [] l h k = absurd (omega arith)
not_lesser-same (x ∷ a) (y ∷ b) l h k =
    let p = not_lesser-parts x y a b h in
    let q = not_lesser-parts y x b a k in
    let ph : y ≤ x = p.heads in
    let qh : x ≤ y = q.heads in
    let e : x ≡ y = omega arith in
    ap₂ (λ z c. z ∷ c) e (not_lesser-same a b (omega arith) (p.tails e) (q.tails (sym e)))

lesser-asym : (a b : List ℕ) → is_lesser a b ≡ true → is_lesser b a ≡ false
lesser-asym [] [] h = absurd (cc)
lesser-asym [] (y ∷ b) h = refl
lesser-asym (x ∷ a) [] h = absurd (cc)
lesser-asym (x ∷ a) (y ∷ b) h =
    elim (or_cases (ltb x y) (eqb x y && is_lesser a b) h) [
      | inl t ↦ (let lt : x < y = ltb-true x y t in not_lesser-from y x b a (record { heads = omega arith; tails = λ e. absurd (omega arith) }))
      | inr t ↦ (let r = and_parts (eqb x y) (is_lesser a b) t in let e : x ≡ y = eqb-true x y r.0 in not_lesser-from y x b a (record { heads = omega arith; tails = λ f. lesser-asym a b r.1 }))
    ]

lesser-irrefl : (a : List ℕ) → is_lesser a a ≡ false
lesser-irrefl [] = refl
lesser-irrefl (x ∷ a) = not_lesser-from x x a a (record { heads = omega arith; tails = λ e. lesser-irrefl a })

-- of two facts the first isn't earlier
record NotEarlier (f g : Fact) : Type 0 where
  lengths : length g.path.at ≤ length f.path.at
  indices : length f.path.at ≡ length g.path.at → is_lesser f.path.at g.path.at ≡ false

not_earlier-parts : (f g : Fact) → is_earlier f g ≡ false → NotEarlier f g
not_earlier-parts f g h =
    let m = length f.path.at in
    let n = length g.path.at in
    let p = or_and_false (ltb m n) (eqb m n) (is_lesser f.path.at g.path.at) h in
    record { lengths = ltb-false m n p.0; indices = λ e. p.1 (eq-eqb m n e) }

not_earlier-from : (f g : Fact) → NotEarlier f g → is_earlier f g ≡ false
not_earlier-from f g h =
    let m = length f.path.at in
    let n = length g.path.at in
    false_or_and (ltb m n) (eqb m n) (is_lesser f.path.at g.path.at) (le-ltb m n h.lengths) (λ e. h.indices (eqb-true m n e))

not_earlier-trans : (f g h : Fact) → is_earlier g f ≡ false → is_earlier h g ≡ false → is_earlier h f ≡ false
not_earlier-trans f g h a b =
    let p = not_earlier-parts g f a in
    let q = not_earlier-parts h g b in
    let pl : length f.path.at ≤ length g.path.at = p.lengths in
    let ql : length g.path.at ≤ length h.path.at = q.lengths in
    let indices : length h.path.at ≡ length f.path.at → is_lesser h.path.at f.path.at ≡ false = λ e. not_lesser-trans f.path.at g.path.at h.path.at (omega arith) (omega arith) (p.indices (omega arith)) (q.indices (omega arith)) in
    let lengths : length f.path.at ≤ length h.path.at = omega arith in
    not_earlier-from h f (record { lengths = lengths; indices = indices })

-- two facts of which neither is earlier have the same indices
pub not_earlier-same : (f g : Fact) → is_earlier f g ≡ false → is_earlier g f ≡ false → f.path.at ≡ g.path.at
not_earlier-same f g a b =
    let p = not_earlier-parts f g a in
    let q = not_earlier-parts g f b in
    let pl : length g.path.at ≤ length f.path.at = p.lengths in
    let ql : length f.path.at ≤ length g.path.at = q.lengths in
    let e : length f.path.at ≡ length g.path.at = omega arith in
    not_lesser-same f.path.at g.path.at e (p.indices e) (q.indices (sym e))

earlier-asym : (f g : Fact) → is_earlier f g ≡ true → is_earlier g f ≡ false
earlier-asym f g h =
    let m = length f.path.at in
    let n = length g.path.at in
    elim (or_cases (ltb m n) (eqb m n && is_lesser f.path.at g.path.at) h) [
      | inl t ↦ (let lt : m < n = ltb-true m n t in not_earlier-from g f (record { lengths = omega arith; indices = λ e. absurd (omega arith) }))
      | inr t ↦ (let r = and_parts (eqb m n) (is_lesser f.path.at g.path.at) t in let e : m ≡ n = eqb-true m n r.0 in not_earlier-from g f (record { lengths = omega arith; indices = λ q. lesser-asym f.path.at g.path.at r.1 }))
    ]

earlier-irrefl : (f : Fact) → is_earlier f f ≡ false
earlier-irrefl f = not_earlier-from f f (record { lengths = omega arith; indices = λ e. lesser-irrefl f.path.at })

-- the first fact of the list that clashes with f
pub record IsFirst (fs : List Fact) (f g : Fact) : Type 0 where
  pub kept : In g fs
  pub clashes : clash g f ≡ true
  pub earliest : (h : Fact) → In h fs → clash h f ≡ true → is_earlier h g ≡ false

abbrev pub FirstOf : List Fact → Fact → Option Fact → Type 0
FirstOf fs f None = (h : Fact) → In h fs → clash h f ≡ false
FirstOf fs f (Some g) = IsFirst fs f g

first_passes : (g : Fact) (gs : List Fact) (f : Fact) (o : Option Fact) → clash g f ≡ false → FirstOf gs f o → FirstOf (g ∷ gs) f o
first_passes g gs f None c h = λ x i. elim i [ inl e ↦ ap (λ y. clash y f) (sym e) ∙ c | inr j ↦ h x j ]
first_passes g gs f (Some r) c h = record {
  kept = inr h.kept;
  clashes = h.clashes;
  earliest = λ x i t. elim i [ inl e ↦ absurd (both_ways (clash g f) c (ap (λ y. clash y f) e ∙ t)) | inr j ↦ h.earliest x j t ];
}

first_takes : (g : Fact) (gs : List Fact) (f : Fact) (o : Option Fact) → clash g f ≡ true → FirstOf gs f o → IsFirst (g ∷ gs) f (earlier_of g o)
first_takes g gs f None c h = record {
  kept = inl refl;
  clashes = c;
  earliest = λ x i t. elim i [ inl e ↦ ap (λ y. is_earlier y g) (sym e) ∙ earlier-irrefl g | inr j ↦ absurd (both_ways (clash x f) (h x j) t) ];
}
first_takes g gs f (Some r) c h =
    let this : is_earlier r g ≡ false → IsFirst (g ∷ gs) f g = λ q. record {
      kept = inl refl;
      clashes = c;
      earliest = λ x i t. elim i [ inl e ↦ ap (λ y. is_earlier y g) (sym e) ∙ earlier-irrefl g | inr j ↦ not_earlier-trans g r x q (h.earliest x j t) ];
    } in
    let that : is_earlier r g ≡ true → IsFirst (g ∷ gs) f r = λ q. record {
      kept = inr h.kept;
      clashes = h.clashes;
      earliest = λ x i t. elim i [ inl e ↦ ap (λ y. is_earlier y r) (sym e) ∙ earlier-asym r g q | inr j ↦ h.earliest x j t ];
    } in
    let P : Bool → Type 0 = λ b. is_earlier r g ≡ b → IsFirst (g ∷ gs) f (cond b r g) in
    let cases : P (is_earlier r g) = elim (is_earlier r g) as P [ true ↦ that | false ↦ this ] in
    cases refl

pub first_is : (fs : List Fact) (f : Fact) → FirstOf fs f (first_clash fs f)
first_is [] f = λ h i. absurd i
first_is (g ∷ gs) f =
    let rest = first_is gs f in
    let P : Bool → Type 0 = λ b. clash g f ≡ b → FirstOf (g ∷ gs) f (cond b (Some (earlier_of g (first_clash gs f))) (first_clash gs f)) in
    let cases : P (clash g f) = elim (clash g f) as P [ true ↦ λ c. first_takes g gs f (first_clash gs f) c rest | false ↦ λ c. first_passes g gs f (first_clash gs f) c rest ] in
    cases refl
