-- Facts, variables and numbers where two steps change places.
use Rattle.std.proofs.Common.{◌≡◌, ◌⊎◌, inl, inr, ℕ, zero, suc, ◌+◌, ◌-◌, ◌<◌, ◌≤◌, nat_lt, List, [], ◌∷◌, ◌++◌, length, slice_get, refl, ap, ap₂, sym, ◌∙◌, subst, arith}
use Rattle.std.specs.Prelude.{Option, Some, None}
use Rattle.std.proofs.lemmas.Bool.{cases_Bool, ltb-true, ltb-false}
use Rattle.std.proofs.lemmas.Option.{slice_get_past}
use Rattle.std.proofs.lemmas.List.{length-append}
use Rattle.tp_value.specs.declared.value.Shape.{Shape}
use Rattle.tp_value.specs.declared.path.VarId.{VarId}
use Rattle.tp_value.specs.declared.path.Path.{Path}
use Rattle.tp_value.specs.declared.path.Fact.{Fact}
use Rattle.tp_store.specs.Changes.{HaveSameShapes}
use Rattle.tp_store.specs.Facts.{kept_shape, fact}
use Rattle.tp_store.specs.Known.{Variable, AreOfVariables, IsVariableOf}
use Rattle.tp_store.proofs.Members.{In, kept_in}
use Rattle.tp_scene.specs.Scene.{Scene}
use Rattle.tp_scene.specs.Step.{Reduction, Numbers}
use Rattle.tp_scene.specs.Pick.{Setting, Moment, numbers_of, with_local, Reduces}
use Rattle.tp_scene.specs.Fits.{kinds_in}
use Rattle.tp_scene.proofs.Below.{variable_below, kinds_length}
use Rattle.tp_step_laws.specs.Renaming.{renamed_fact, renamed_facts, FactsAlike, IfRegion, IfLocal, NumbersRenamed}
use Rattle.tp_step_laws.specs.Maps.{Renaming, FixesBelow, renamed_path}
use Rattle.tp_step_laws.proofs.FactsGrow.{kept_before, kept_after}
use Rattle.tp_step_laws.proofs.Swap.{swapped, swap, before, in_front, behind, beyond}

abbrev pub count_local : Option Variable → ℕ
count_local None = 0
count_local (Some x) = 1

pub locals_count : (o : Option Variable) (xs : List Variable) → length (with_local o xs) ≡ length xs + count_local o
locals_count None xs = omega arith
locals_count (Some x) xs = length-append xs (x ∷ [])

-- the numbers that two reductions of a moment take change places
abbrev pub block : Moment → (first second : Reduction) → Renaming
block m r s = record {
  item = swap m.scene.next_item r.items s.items;
  region = swap m.scene.next_region r.regions s.regions;
  local = swap (length m.store.variables) (count_local r.local) (count_local s.local);
}

if_region : (ρ : Renaming) (n n' : Numbers) (k : ℕ) → (0 < k → n'.region ≡ ρ.region.to n.region) → IfRegion ρ n n' k
if_region ρ n n' zero h = tt
if_region ρ n n' (suc k) h = h (omega arith)

if_local : (ρ : Renaming) (n n' : Numbers) (o : Option Variable) → (0 < count_local o → n'.local ≡ ρ.local.to n.local) → IfLocal ρ n n' o
if_local ρ n n' None h = tt
if_local ρ n n' (Some x) h = h (omega arith)

-- Numbers of a first reduction before and after a second one of another item.
module _ (w : Setting) (m : Moment) (u : ℕ) (r s : Reduction) (next : Moment) (step : Reduces w m u s next) where
  pub next_items : next.scene.next_item ≡ m.scene.next_item + s.items
  next_items = ap (λ (x : Scene). x.next_item) step.scene

  pub next_regions : next.scene.next_region ≡ m.scene.next_region + s.regions
  next_regions = ap (λ (x : Scene). x.next_region) step.scene

  pub next_locals : length next.store.variables ≡ length m.store.variables + count_local s.local
  next_locals = ap length step.store.variables ∙ locals_count s.local m.store.variables

  front : (a b c : ℕ) → 0 < a → c ≡ m.scene.next_region + b → c ≡ swapped m.scene.next_region a b m.scene.next_region
  front a b c h e = e ∙ sym (in_front m.scene.next_region a b m.scene.next_region (omega arith) (omega (arith, h)))

  pub renumbered : NumbersRenamed (block m r s) (numbers_of m.scene m.store.variables) (numbers_of next.scene next.store.variables) r
  renumbered = record {
    items = λ i h. let e = next_items in let q : i + next.scene.next_item ≡ (i + m.scene.next_item) + s.items = omega (arith, e) in
        q ∙ sym (in_front m.scene.next_item r.items s.items (i + m.scene.next_item) (omega arith) (omega (arith, h)));
    region = if_region (block m r s) (numbers_of m.scene m.store.variables) (numbers_of next.scene next.store.variables) r.regions (λ h. front r.regions s.regions next.scene.next_region h next_regions);
    local = if_local (block m r s) (numbers_of m.scene m.store.variables) (numbers_of next.scene next.store.variables) r.local (λ h. next_locals ∙ sym (in_front (length m.store.variables) (count_local r.local) (count_local s.local) (length m.store.variables) (omega arith) (omega (arith, h))));
  }

-- Facts of variables with lesser numbers stay as they are.
module _ (variables : List Variable) where
  variable_less : (x : VarId) → IsVariableOf variables x → x.number < length variables
  variable_less x h = let q = variable_below (kinds_in variables) x.number x.lasting h in let k = kinds_length variables in omega (arith, q, k)

  of_in : (fs : List Fact) → AreOfVariables variables fs → (f : Fact) → In f fs → f.path.var.number < length variables
  of_in [] h f i = absurd i
  of_in (g ∷ fs) h f (inl e) = subst (λ (x : Fact). x.path.var.number < length variables) e (variable_less g.path.var h.0)
  of_in (g ∷ fs) h f (inr i) = of_in fs h.1 f i

  pub kept_less : (fs : List Fact) → AreOfVariables variables fs → (p : Path) (sh : Shape) → kept_shape fs p ≡ Some sh → p.var.number < length variables
  kept_less fs h p sh e = of_in fs h (fact p sh) (kept_in fs p sh e)

  module _ (ρ : Renaming) (fixed : FixesBelow (length variables) ρ.local) where
    pub fixed_path : (p : Path) → p.var.number < length variables → renamed_path ρ p ≡ p
    fixed_path p h = λ j. record { var = record { number = fixed p.var.number h j; lasting = p.var.lasting }; at = p.at }

    fixed_fact : (f : Fact) → f.path.var.number < length variables → renamed_fact ρ f ≡ f
    fixed_fact f h = λ j. record { path = fixed_path f.path h j; shape = f.shape }

    pub fixed_facts : (fs : List Fact) → AreOfVariables variables fs → renamed_facts ρ fs ≡ fs
    fixed_facts [] h = refl
    fixed_facts (f ∷ fs) h = ap₂ (λ x xs. x ∷ xs) (fixed_fact f (variable_less f.path.var h.0)) (fixed_facts fs h.1)

    -- a greater number stays greater
    greater : (x : ℕ) → ρ.local.to x < length variables → x < length variables
    greater x h = subst (λ (y : ℕ). y < length variables) (sym (ρ.local.undone (ρ.local.to x)) ∙ ap ρ.local.back (fixed (ρ.local.to x) h) ∙ ρ.local.undone x) h

    -- two stores with the same shapes, of these variables, are alike
    pub alike_facts : (fs gs : List Fact) → HaveSameShapes fs gs → ((p : Path) (sh : Shape) → kept_shape fs p ≡ Some sh → p.var.number < length variables) → FactsAlike ρ fs gs
    alike_facts fs gs same of p = elim (cases_Bool (nat_lt p.var.number (length variables))) [
      | inl e ↦ ap (kept_shape gs) (fixed_path p (ltb-true _ _ e)) ∙ sym (same p)
      | inr e ↦ go (kept_shape gs (renamed_path ρ p)) (kept_shape fs p) refl refl (ltb-false _ _ e)
    ]
      where
        go : (a b : Option Shape) → kept_shape gs (renamed_path ρ p) ≡ a → kept_shape fs p ≡ b → length variables ≤ p.var.number → kept_shape gs (renamed_path ρ p) ≡ kept_shape fs p
        go None None x y h = x ∙ sym y
        go a (Some sh) x y h = absurd (let q = of p sh y in omega (arith, q, h))
        go (Some sh) None x y h = absurd (let q = greater p.var.number (of (renamed_path ρ p) sh (same (renamed_path ρ p) ∙ x)) in omega (arith, q, h))

-- what is kept of two lists one after the other is kept of one of them
pub either_kept : (xs ys : List Fact) (p : Path) (sh : Shape) → kept_shape (xs ++ ys) p ≡ Some sh → (kept_shape xs p ≡ Some sh) ⊎ (kept_shape ys p ≡ Some sh)
either_kept xs ys p sh e = go (kept_shape xs p) refl
  where
    go : (o : Option Shape) → kept_shape xs p ≡ o → (kept_shape xs p ≡ Some sh) ⊎ (kept_shape ys p ≡ Some sh)
    go None h = inr (sym (kept_after xs ys p h) ∙ e)
    go (Some x) h = inl (h ∙ (sym (kept_before xs ys p x h) ∙ e))

-- Three lists of facts, each of which a store knows, and from which all that it knows comes.
pub record KnowsThree (fs gs hs ks : List Fact) : Type 0 where
  pub one : (p : Path) (sh : Shape) → kept_shape fs p ≡ Some sh → kept_shape ks p ≡ Some sh
  pub two : (p : Path) (sh : Shape) → kept_shape gs p ≡ Some sh → kept_shape ks p ≡ Some sh
  pub three : (p : Path) (sh : Shape) → kept_shape hs p ≡ Some sh → kept_shape ks p ≡ Some sh
  pub from : (p : Path) (sh : Shape) → kept_shape ks p ≡ Some sh → (kept_shape fs p ≡ Some sh) ⊎ ((kept_shape gs p ≡ Some sh) ⊎ (kept_shape hs p ≡ Some sh))

pub same_three : (fs gs hs ks ls : List Fact) → KnowsThree fs gs hs ks → KnowsThree fs hs gs ls → HaveSameShapes ks ls
same_three fs gs hs ks ls a b p = go (kept_shape ks p) (kept_shape ls p) refl refl
  where
    go : (o u : Option Shape) → kept_shape ks p ≡ o → kept_shape ls p ≡ u → kept_shape ks p ≡ kept_shape ls p
    go (Some sh) u x y = x ∙ sym (elim (a.from p sh x) [ inl e ↦ b.one p sh e | inr e ↦ elim e [ inl d ↦ b.three p sh d | inr d ↦ b.two p sh d ] ])
    go None None x y = x ∙ sym y
    go None (Some sh) x y = elim (b.from p sh y) [ inl e ↦ a.one p sh e | inr e ↦ elim e [ inl d ↦ a.three p sh d | inr d ↦ a.two p sh d ] ] ∙ sym y

-- variables that were added in either order
pub get_left : (xs ys : List Variable) (i : ℕ) → i < length xs → slice_get (xs ++ ys) i ≡ slice_get xs i
get_left [] ys i h = absurd (omega arith)
get_left (x ∷ xs) ys zero h = refl
get_left (x ∷ xs) ys (suc i) h = get_left xs ys i (omega (arith, h))

pub get_next : (xs : List Variable) (y : Variable) (ys : List Variable) → slice_get (xs ++ y ∷ ys) (length xs) ≡ Some y
get_next [] y ys = refl
get_next (x ∷ xs) y ys = get_next xs y ys

none_moved : (n x : ℕ) → swapped n 0 0 x ≡ x
none_moved n x = elim (cases_Bool (nat_lt x n)) [ inl e ↦ before n 0 0 x (ltb-true x n e) | inr e ↦ beyond n 0 0 x (let q = ltb-false x n e in omega (arith, q)) ]

one_moved : (n x : ℕ) → swapped n 1 0 x ≡ x
one_moved n x = elim (cases_Bool (nat_lt x n)) [
  | inl e ↦ before n 1 0 x (ltb-true x n e)
  | inr e ↦ (let q = ltb-false x n e in elim (cases_Bool (nat_lt x (n + 1))) [
    | inl d ↦ (let z : x + 0 ≡ x = omega arith in in_front n 1 0 x q (ltb-true x (n + 1) d) ∙ z)
    | inr d ↦ (let k = ltb-false x (n + 1) d in beyond n 1 0 x (omega (arith, k)))
  ])
]

other_moved : (n x : ℕ) → swapped n 0 1 x ≡ x
other_moved n x = elim (cases_Bool (nat_lt x n)) [
  | inl e ↦ before n 0 1 x (ltb-true x n e)
  | inr e ↦ (let q = ltb-false x n e in elim (cases_Bool (nat_lt x (n + 0 + 1))) [
    | inl d ↦ (let z : x - 0 ≡ x = omega arith in behind n 0 1 x (omega (arith, q)) (ltb-true x (n + 0 + 1) d) ∙ z)
    | inr d ↦ (let k = ltb-false x (n + 0 + 1) d in beyond n 0 1 x k)
  ])
]

two_moved : (xs : List Variable) (a b : Variable) (i : ℕ) → slice_get ((xs ++ b ∷ []) ++ a ∷ []) (swapped (length xs) 1 1 i) ≡ slice_get ((xs ++ a ∷ []) ++ b ∷ []) i
two_moved xs a b i =
    let n = length xs in
    let la : length (xs ++ a ∷ []) ≡ n + 1 = length-append xs (a ∷ []) in
    let lb : length (xs ++ b ∷ []) ≡ n + 1 = length-append xs (b ∷ []) in
    let ka : length ((xs ++ a ∷ []) ++ b ∷ []) ≡ length (xs ++ a ∷ []) + 1 = length-append (xs ++ a ∷ []) (b ∷ []) in
    let kb : length ((xs ++ b ∷ []) ++ a ∷ []) ≡ length (xs ++ b ∷ []) + 1 = length-append (xs ++ b ∷ []) (a ∷ []) in
    elim (cases_Bool (nat_lt i n)) [
      | inl e ↦ (let l = ltb-true i n e in ap (slice_get ((xs ++ b ∷ []) ++ a ∷ [])) (before n 1 1 i l)
          ∙ get_left (xs ++ b ∷ []) (a ∷ []) i (omega (arith, l, lb)) ∙ get_left xs (b ∷ []) i l
          ∙ sym (get_left (xs ++ a ∷ []) (b ∷ []) i (omega (arith, l, la)) ∙ get_left xs (a ∷ []) i l))
      | inr e ↦ (let g = ltb-false i n e in elim (cases_Bool (nat_lt i (n + 1))) [
        | inl d ↦ (let l = ltb-true i (n + 1) d in let z : i ≡ n = omega (arith, g, l) in let y : i + 1 ≡ length (xs ++ b ∷ []) = omega (arith, z, lb) in
            ap (slice_get ((xs ++ b ∷ []) ++ a ∷ [])) (in_front n 1 1 i g l ∙ y) ∙ get_next (xs ++ b ∷ []) a []
            ∙ sym (get_left (xs ++ a ∷ []) (b ∷ []) i (omega (arith, l, la)) ∙ ap (slice_get (xs ++ a ∷ [])) z ∙ get_next xs a []))
        | inr d ↦ (let h = ltb-false i (n + 1) d in elim (cases_Bool (nat_lt i (n + 1 + 1))) [
          | inl c ↦ (let l = ltb-true i (n + 1 + 1) c in let z : i - 1 ≡ n = omega (arith, h, l) in let y : i ≡ length (xs ++ a ∷ []) = omega (arith, h, l, la) in
              ap (slice_get ((xs ++ b ∷ []) ++ a ∷ [])) (behind n 1 1 i h l ∙ z) ∙ get_left (xs ++ b ∷ []) (a ∷ []) n (omega (arith, lb)) ∙ get_next xs b []
              ∙ sym (ap (slice_get ((xs ++ a ∷ []) ++ b ∷ [])) y ∙ get_next (xs ++ a ∷ []) b []))
          | inr c ↦ (let k = ltb-false i (n + 1 + 1) c in
              ap (slice_get ((xs ++ b ∷ []) ++ a ∷ [])) (beyond n 1 1 i k) ∙ slice_get_past ((xs ++ b ∷ []) ++ a ∷ []) i (omega (arith, k, kb, lb)) ∙ sym (slice_get_past ((xs ++ a ∷ []) ++ b ∷ []) i (omega (arith, k, ka, la))))
        ])
      ])
    ]

pub locals_moved : (xs : List Variable) (a b : Option Variable) (i : ℕ) → slice_get (with_local a (with_local b xs)) (swapped (length xs) (count_local a) (count_local b) i) ≡ slice_get (with_local b (with_local a xs)) i
locals_moved xs None None i = ap (slice_get xs) (none_moved (length xs) i)
locals_moved xs (Some a) None i = ap (slice_get (xs ++ a ∷ [])) (one_moved (length xs) i)
locals_moved xs None (Some b) i = ap (slice_get (xs ++ b ∷ [])) (other_moved (length xs) i)
locals_moved xs (Some a) (Some b) i = two_moved xs a b i
