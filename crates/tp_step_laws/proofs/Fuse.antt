-- Two rounds of edits are one.
use Rattle.std.proofs.Common.{◌≡◌, ℕ, Bool, true, false, ◌||◌, eqb, refl, ap, sym, ◌∙◌, subst, inl, inr}
use Rattle.std.specs.Prelude.{Option, Some, None}
use Rattle.std.proofs.lemmas.Bool.{cases_Bool, eqb-true}
use Rattle.tp_scene.specs.Scene.{Side, Ending, Going, Head, Leaf, Holder, Entries, none, leaf, node, append, new_head}
use Rattle.tp_step_laws.specs.Edits.{Edit, Edits, sets, marks, head_after, leaf_after, node_after, edited, single, Natural, EditsCommute}

append_append : (xs ys zs : Entries) → append (append xs ys) zs ≡ append xs (append ys zs)
append_append none ys zs = refl
append_append (leaf id l rest) ys zs = ap (leaf id l) (append_append rest ys zs)
append_append (node id k h i g s rest) ys zs = ap (node id k h i g s) (append_append rest ys zs)

or_or : (a b c : Bool) → ((a || b) || c) ≡ (a || (b || c))
or_or true b c = refl
or_or false b c = refl

pub marks_append : (ρ : Edits) (z : Side) (xs ys : Entries) → marks ρ z (append xs ys) ≡ (marks ρ z xs || marks ρ z ys)
marks_append ρ z none ys = refl
marks_append ρ z (leaf id l rest) ys = ap (λ b. sets z (ρ id) || b) (marks_append ρ z rest ys) ∙ sym (or_or (sets z (ρ id)) (marks ρ z rest) (marks ρ z ys))
marks_append ρ z (node id k h i g s rest) ys = ap (λ b. sets z (ρ id) || b) (marks_append ρ z rest ys) ∙ sym (or_or (sets z (ρ id)) (marks ρ z rest) (marks ρ z ys))

leaf_after_append : (o : Option Edit) (id : ℕ) (l : Leaf) (xs ys : Entries) → leaf_after o id l (append xs ys) ≡ append (leaf_after o id l xs) ys
leaf_after_append None id l xs ys = refl
leaf_after_append (Some e) id l xs ys = sym (append_append (e.make (new_head 0) none (new_head 0) none) xs ys)

node_after_append : (o : Option Edit) (id : ℕ) (k : Holder) (h : Head) (i : Entries) (g : Head) (s xs ys : Entries) → node_after o id k h i g s (append xs ys) ≡ append (node_after o id k h i g s xs) ys
node_after_append None id k h i g s xs ys = refl
node_after_append (Some e) id k h i g s xs ys = sym (append_append (e.make h i g s) xs ys)

pub edited_append : (ρ : Edits) (xs ys : Entries) → edited ρ (append xs ys) ≡ append (edited ρ xs) (edited ρ ys)
edited_append ρ none ys = refl
edited_append ρ (leaf id l rest) ys = ap (leaf_after (ρ id) id l) (edited_append ρ rest ys) ∙ leaf_after_append (ρ id) id l (edited ρ rest) (edited ρ ys)
edited_append ρ (node id k h i g s rest) ys =
    ap (node_after (ρ id) id k (head_after ρ i h) (edited ρ i) (head_after ρ s g) (edited ρ s)) (edited_append ρ rest ys)
    ∙ node_after_append (ρ id) id k (head_after ρ i h) (edited ρ i) (head_after ρ s g) (edited ρ s) (edited ρ rest) (edited ρ ys)

abbrev pub first : Option Edit → Option Edit → Option Edit
first (Some a) b = Some a
first None b = b

abbrev pub both : Edits → Edits → Edits
both ρ τ = λ id. first (ρ id) (τ id)

module _ (ρ τ : Edits) (nat : (id : ℕ) (e : Edit) → ρ id ≡ Some e → Natural τ e) where
  leaf_marks : (z : Side) (o : Option Edit) (id : ℕ) (l : Leaf) (rest : Entries) (m n : Bool) → ((e : Edit) → o ≡ Some e → Natural τ e) → m ≡ (n || marks τ z rest) →
      (sets z (first o (τ id)) || m) ≡ ((sets z o || n) || marks τ z (leaf_after o id l rest))
  leaf_marks z None id l rest m n k e = ap (λ b. sets z (τ id) || b) e ∙ swap (sets z (τ id)) n (marks τ z rest)
    where
      swap : (a b c : Bool) → (a || (b || c)) ≡ (b || (a || c))
      swap true true c = refl
      swap b x c = refl
  leaf_marks z (Some e) id l rest m n k q =
      let u : marks τ z (append (e.make (new_head 0) none (new_head 0) none) rest) ≡ marks τ z rest =
      marks_append τ z (e.make (new_head 0) none (new_head 0) none) rest ∙ ap (λ b. b || marks τ z rest) ((k e refl).unmarked (new_head 0) none (new_head 0) none z) in
      ap (λ b. sets z (Some e) || b) q ∙ (sym (or_or (sets z (Some e)) n (marks τ z rest)) ∙ ap (λ b. (sets z (Some e) || n) || b) (sym u))

  node_marks : (z : Side) (o : Option Edit) (id : ℕ) (kind : Holder) (h : Head) (i : Entries) (g : Head) (s rest : Entries) (m n : Bool) → ((e : Edit) → o ≡ Some e → Natural τ e) → m ≡ (n || marks τ z rest) →
      (sets z (first o (τ id)) || m) ≡ ((sets z o || n) || marks τ z (node_after o id kind h i g s rest))
  node_marks z None id kind h i g s rest m n k e = ap (λ b. sets z (τ id) || b) e ∙ swap (sets z (τ id)) n (marks τ z rest)
    where
      swap : (a b c : Bool) → (a || (b || c)) ≡ (b || (a || c))
      swap true true c = refl
      swap b x c = refl
  node_marks z (Some e) id kind h i g s rest m n k q =
      let u : marks τ z (append (e.make h i g s) rest) ≡ marks τ z rest =
      marks_append τ z (e.make h i g s) rest ∙ ap (λ b. b || marks τ z rest) ((k e refl).unmarked h i g s z) in
      ap (λ b. sets z (Some e) || b) q ∙ (sym (or_or (sets z (Some e)) n (marks τ z rest)) ∙ ap (λ b. (sets z (Some e) || n) || b) (sym u))

  fuse_marks : (z : Side) (es : Entries) → marks (both ρ τ) z es ≡ (marks ρ z es || marks τ z (edited ρ es))
  fuse_marks z none = refl
  fuse_marks z (leaf id l rest) = leaf_marks z (ρ id) id l (edited ρ rest) (marks (both ρ τ) z rest) (marks ρ z rest) (nat id) (fuse_marks z rest)
  fuse_marks z (node id k h i g s rest) =
      node_marks z (ρ id) id k (head_after ρ i h) (edited ρ i) (head_after ρ s g) (edited ρ s) (edited ρ rest) (marks (both ρ τ) z rest) (marks ρ z rest) (nat id) (fuse_marks z rest)

  pub fuse_head : (es : Entries) (h : Head) → head_after τ (edited ρ es) (head_after ρ es h) ≡ head_after (both ρ τ) es h
  fuse_head es h = λ i. record {
    number = h.number;
    ends = (or_or h.ends (marks ρ Ending es) (marks τ Ending (edited ρ es)) ∙ ap (λ b. h.ends || b) (sym (fuse_marks Ending es))) i;
    goes = (or_or h.goes (marks ρ Going es) (marks τ Going (edited ρ es)) ∙ ap (λ b. h.goes || b) (sym (fuse_marks Going es))) i;
  }

  leaf_fuse : (o : Option Edit) (id : ℕ) (l : Leaf) (rest r : Entries) → ((e : Edit) → o ≡ Some e → Natural τ e) → edited τ rest ≡ r →
      edited τ (leaf_after o id l rest) ≡ leaf_after (first o (τ id)) id l r
  leaf_fuse None id l rest r k e = ap (leaf_after (τ id) id l) e
  leaf_fuse (Some f) id l rest r k e =
      edited_append τ (f.make (new_head 0) none (new_head 0) none) rest
      ∙ (λ i. append ((k f refl).carried (new_head 0) none (new_head 0) none i) (e i))

  node_fuse : (o : Option Edit) (id : ℕ) (kind : Holder) (h h' : Head) (a a' : Entries) (g g' : Head) (s s' rest r : Entries) → ((e : Edit) → o ≡ Some e → Natural τ e) →
      head_after τ a h ≡ h' → edited τ a ≡ a' → head_after τ s g ≡ g' → edited τ s ≡ s' → edited τ rest ≡ r →
      edited τ (node_after o id kind h a g s rest) ≡ node_after (first o (τ id)) id kind h' a' g' s' r
  node_fuse None id kind h h' a a' g g' s s' rest r k eh ea eg es er = λ i. node_after (τ id) id kind (eh i) (ea i) (eg i) (es i) (er i)
  node_fuse (Some f) id kind h h' a a' g g' s s' rest r k eh ea eg es er =
      edited_append τ (f.make h a g s) rest
      ∙ ((λ i. append ((k f refl).carried h a g s i) (er i)) ∙ (λ i. append (f.make (eh i) (ea i) (eg i) (es i)) r))

  pub fuse : (es : Entries) → edited τ (edited ρ es) ≡ edited (both ρ τ) es
  fuse none = refl
  fuse (leaf id l rest) = leaf_fuse (ρ id) id l (edited ρ rest) (edited (both ρ τ) rest) (nat id) (fuse rest)
  fuse (node id k h a g s rest) =
      node_fuse (ρ id) id k (head_after ρ a h) (head_after (both ρ τ) a h) (edited ρ a) (edited (both ρ τ) a) (head_after ρ s g) (head_after (both ρ τ) s g) (edited ρ s) (edited (both ρ τ) s) (edited ρ rest) (edited (both ρ τ) rest)
      (nat id) (fuse_head a h) (fuse a) (fuse_head s g) (fuse s) (fuse rest)

-- the same item under two numbers
pub apart : (id t u : ℕ) → eqb t u ≡ false → eqb id t ≡ true → eqb id u ≡ false
apart id t u ne e = let q = eqb-true id t e in rw q ne

single_only : (t : ℕ) (e f : Edit) (id : ℕ) → single t e id ≡ Some f → e ≡ f
single_only t e f id h =
    elim (cases_Bool (eqb id t)) [ inl y ↦ some (rw y at h) | inr y ↦ absurd (lost (rw y at h)) ]
  where
    some : Some e ≡ Some f → e ≡ f
    some z = cc

    lost : None ≡ Some f → ⊥
    lost z = cc

both_single : (t u : ℕ) (e f : Edit) → eqb t u ≡ false → (id : ℕ) → both (single t e) (single u f) id ≡ both (single u f) (single t e) id
both_single t u e f ne id =
    elim (cases_Bool (eqb id t)) [
      | inl y ↦ (let n = apart id t u ne y in rw (y, n) refl)
      | inr y ↦ elim (cases_Bool (eqb id u)) [ inl x ↦ rw (y, x) refl | inr x ↦ rw (y, x) refl ]
    ]

single_natural : (t : ℕ) (e : Edit) (τ : Edits) → Natural τ e → (id : ℕ) (f : Edit) → single t e id ≡ Some f → Natural τ f
single_natural t e τ n id f h = subst (λ x. Natural τ x) (single_only t e f id h) n

pub edits_commute : EditsCommute
edits_commute t u e f ne ne1 ne2 es h =
    let x = single_natural t e (single u f) ne1 in
    let y = single_natural u f (single t e) ne2 in
    let same : both (single t e) (single u f) ≡ both (single u f) (single t e) = λ i id. both_single t u e f ne id i in (
      fuse (single t e) (single u f) x es ∙ (ap (λ b. edited b es) same ∙ sym (fuse (single u f) (single t e) y es)),
      fuse_head (single t e) (single u f) x es h ∙ (ap (λ b. head_after b es h) same ∙ sym (fuse_head (single u f) (single t e) y es h)),
    )
