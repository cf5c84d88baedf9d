-- Two blocks of numbers change places; what a renaming leaves alone, and how it carries an edit along.
use Rattle.std.proofs.Common.{◌≡◌, inl, inr, ℕ, ◌+◌, ◌-◌, ◌<◌, ◌≤◌, nat_lt, Bool, true, false, cond, ◌||◌, eqb, [], ◌∷◌, ◌++◌, refl, ap, ap₂, sym, ◌∙◌, subst, arith}
use Rattle.std.specs.Prelude.{Some, None}
use Rattle.std.proofs.lemmas.Bool.{cases_Bool, ltb-true, ltb-false, cond-true, cond-false}
use Rattle.tp_value.specs.declared.path.VarId.{VarId}
use Rattle.tp_meaning.specs.Syntax.{BindingTree, place_binding, known_binding}
use Rattle.tp_scene.specs.Scene.{Bindings, Side, Ending, Going, Head, Leaf, Do, Later, Shown, Holder, Split, SplitProject, Closed, Opened, Running, Entries, none, leaf, node, new_head, append, Place}
use Rattle.tp_scene.specs.Fits.{AreNumbers, item_numbers, region_numbers, second_number}
use Rattle.tp_scene.proofs.Below.{BindingBelow, AllBelow, LeafBelow, HolderBelow, IfSecond, Below}
use Rattle.tp_step_laws.specs.Edits.{Edit, Edits, is_side, sets, marks, head_after, edited, single, Thing, of_leaf, of_holder, occurs, At, this_leaf, past_leaf, this_node, in_first, in_second, past_node}
use Rattle.tp_step_laws.specs.Within.{SecondIsOwn, EntriesWithin}
use Rattle.tp_step_laws.specs.Renaming.{renamed_binding, renamed_bindings, renamed_leaf, renamed_holder, renamed_head, renamed_second, renamed_entries}
use Rattle.tp_step_laws.specs.Maps.{Permutation, Renaming, FixesBelow, renamed_variable}
use Rattle.tp_step_laws.proofs.Stay.{absent}
use Rattle.tp_step_laws.proofs.RenameFacts.{eqb_to}
use Rattle.tp_step_laws.proofs.Where.{apart_parts}

-- from n on, the first a numbers and the next b change places
abbrev pub swapped : (n a b : ℕ) → ℕ → ℕ
swapped n a b x = cond (nat_lt x n) x (cond (nat_lt x (n + a)) (x + b) (cond (nat_lt x (n + a + b)) (x - a) x))

is_less : (x y : ℕ) → x < y → nat_lt x y ≡ true
is_less x y h = elim (cases_Bool (nat_lt x y)) [ inl e ↦ e | inr e ↦ absurd (let q = ltb-false x y e in omega (arith, q, h)) ]

isnt_less : (x y : ℕ) → y ≤ x → nat_lt x y ≡ false
isnt_less x y h = elim (cases_Bool (nat_lt x y)) [ inl e ↦ absurd (let q = ltb-true x y e in omega (arith, q, h)) | inr e ↦ e ]

module _ (n a b : ℕ) where
  pub before : (x : ℕ) → x < n → swapped n a b x ≡ x
  before x h = cond-true (nat_lt x n) _ _ (is_less x n h)

  pub in_front : (x : ℕ) → n ≤ x → x < n + a → swapped n a b x ≡ x + b
  in_front x h k = cond-false (nat_lt x n) _ _ (isnt_less x n h) ∙ cond-true (nat_lt x (n + a)) _ _ (is_less x (n + a) k)

  pub behind : (x : ℕ) → n + a ≤ x → x < n + a + b → swapped n a b x ≡ x - a
  behind x h k = cond-false (nat_lt x n) _ _ (isnt_less x n (omega (arith, h))) ∙ cond-false (nat_lt x (n + a)) _ _ (isnt_less x (n + a) h) ∙ cond-true (nat_lt x (n + a + b)) _ _ (is_less x (n + a + b) k)

  pub beyond : (x : ℕ) → n + a + b ≤ x → swapped n a b x ≡ x
  beyond x h = cond-false (nat_lt x n) _ _ (isnt_less x n (omega (arith, h))) ∙ cond-false (nat_lt x (n + a)) _ _ (isnt_less x (n + a) (omega (arith, h))) ∙ cond-false (nat_lt x (n + a + b)) _ _ (isnt_less x (n + a + b) h)

pub undone : (n a b x : ℕ) → swapped n b a (swapped n a b x) ≡ x
undone n a b x = elim (cases_Bool (nat_lt x n)) [
  | inl p ↦ (let l = ltb-true x n p in ap (swapped n b a) (before n a b x l) ∙ before n b a x l)
  | inr p ↦ (let l = ltb-false x n p in elim (cases_Bool (nat_lt x (n + a))) [
    | inl q ↦ (let m = ltb-true x (n + a) q in let e : (x + b) - b ≡ x = omega arith in
        ap (swapped n b a) (in_front n a b x l m) ∙ behind n b a (x + b) (omega (arith, l)) (omega (arith, m)) ∙ e)
    | inr q ↦ (let m = ltb-false x (n + a) q in elim (cases_Bool (nat_lt x (n + a + b))) [
      | inl r ↦ (let k = ltb-true x (n + a + b) r in let e : (x - a) + a ≡ x = omega (arith, m) in
          ap (swapped n b a) (behind n a b x m k) ∙ in_front n b a (x - a) (omega (arith, m)) (omega (arith, m, k)) ∙ e)
      | inr r ↦ (let k = ltb-false x (n + a + b) r in ap (swapped n b a) (beyond n a b x k) ∙ beyond n b a x (omega (arith, k)))
    ])
  ])
]

abbrev pub swap : (n a b : ℕ) → Permutation
swap n a b = record { to = swapped n a b; back = swapped n b a; undone = undone n a b; redone = undone n b a }

-- the other way round
abbrev pub inverse : Permutation → Permutation
inverse π = record { to = π.back; back = π.to; undone = π.redone; redone = π.undone }

abbrev pub inverted : Renaming → Renaming
inverted ρ = record { item = inverse ρ.item; region = inverse ρ.region; local = inverse ρ.local }

module _ (ρ : Renaming) where
  back_binding : (b : BindingTree) → renamed_binding ρ (renamed_binding (inverted ρ) b) ≡ b
  back_binding (place_binding p) = λ j. place_binding (record { var = record { number = ρ.local.redone p.var.number j; lasting = p.var.lasting }; at = p.at })
  back_binding (known_binding t) = refl

  back_bindings : (env : Bindings) → renamed_bindings ρ (renamed_bindings (inverted ρ) env) ≡ env
  back_bindings [] = refl
  back_bindings (b ∷ env) = ap₂ (λ x xs. x ∷ xs) (back_binding b) (back_bindings env)

  back_leaf : (l : Leaf) → renamed_leaf ρ (renamed_leaf (inverted ρ) l) ≡ l
  back_leaf (Do f env) = ap (Do f) (back_bindings env)
  back_leaf (Later f env) = ap (Later f) (back_bindings env)
  back_leaf (Shown vs) = refl

  back_head : (h : Head) → renamed_head ρ (renamed_head (inverted ρ) h) ≡ h
  back_head h = λ j. record { number = ρ.region.redone h.number j; ends = h.ends; goes = h.goes }

  pub back_entries : (es : Entries) → renamed_entries ρ (renamed_entries (inverted ρ) es) ≡ es
  back_entries none = refl
  back_entries (leaf id l rest) = λ j. leaf (ρ.item.redone id j) (back_leaf l j) (back_entries rest j)
  back_entries (node id (Split f env) h i g s rest) = λ j. node (ρ.item.redone id j) (Split f (back_bindings env j)) (back_head h j) (back_entries i j) g (back_entries s j) (back_entries rest j)
  back_entries (node id (SplitProject f env) h i g s rest) = λ j. node (ρ.item.redone id j) (SplitProject f (back_bindings env j)) (back_head h j) (back_entries i j) (back_head g j) (back_entries s j) (back_entries rest j)
  back_entries (node id Closed h i g s rest) = λ j. node (ρ.item.redone id j) Closed (back_head h j) (back_entries i j) g (back_entries s j) (back_entries rest j)
  back_entries (node id (Opened f env) h i g s rest) = λ j. node (ρ.item.redone id j) (Opened f (back_bindings env j)) (back_head h j) (back_entries i j) g (back_entries s j) (back_entries rest j)
  back_entries (node id (Running f env) h i g s rest) = λ j. node (ρ.item.redone id j) (Running f (back_bindings env j)) (back_head h j) (back_entries i j) (back_head g j) (back_entries s j) (back_entries rest j)

  -- what has lesser numbers stays as it is
  module _ (items regions locals : ℕ) (fi : FixesBelow items ρ.item) (fr : FixesBelow regions ρ.region) (fl : FixesBelow locals ρ.local) where
    pub fixed_variable : (x : VarId) → x.number < locals → renamed_variable ρ x ≡ x
    fixed_variable x h = λ j. record { number = fl x.number h j; lasting = x.lasting }

    fixed_binding : (b : BindingTree) → BindingBelow locals b → renamed_binding ρ b ≡ b
    fixed_binding (place_binding p) h = λ j. place_binding (record { var = fixed_variable p.var h j; at = p.at })
    fixed_binding (known_binding t) h = refl

    fixed_bindings : (env : Bindings) → AllBelow locals env → renamed_bindings ρ env ≡ env
    fixed_bindings [] h = refl
    fixed_bindings (b ∷ env) h = ap₂ (λ x xs. x ∷ xs) (fixed_binding b h.0) (fixed_bindings env h.1)

    pub fixed_leaf : (l : Leaf) → LeafBelow locals l → renamed_leaf ρ l ≡ l
    fixed_leaf (Do f env) h = ap (Do f) (fixed_bindings env h)
    fixed_leaf (Later f env) h = ap (Later f) (fixed_bindings env h)
    fixed_leaf (Shown vs) h = refl

    pub fixed_holder : (k : Holder) → HolderBelow locals k → renamed_holder ρ k ≡ k
    fixed_holder (Split f env) h = ap (Split f) (fixed_bindings env h)
    fixed_holder (SplitProject f env) h = ap (SplitProject f) (fixed_bindings env h)
    fixed_holder Closed h = refl
    fixed_holder (Opened f env) h = ap (Opened f) (fixed_bindings env h)
    fixed_holder (Running f env) h = ap (Running f) (fixed_bindings env h)

    pub fixed_head : (h : Head) → h.number < regions → renamed_head ρ h ≡ h
    fixed_head h l = λ j. record { number = fr h.number l j; ends = h.ends; goes = h.goes }

    fixed_second : (k : Holder) (g : Head) → AreNumbers regions (second_number k g) → renamed_second ρ k g ≡ g
    fixed_second (SplitProject f env) g h = fixed_head g h.0
    fixed_second (Running f env) g h = fixed_head g h.0
    fixed_second k g h = refl

    none_fixed : (s : Entries) → s ≡ none → renamed_entries ρ s ≡ s
    none_fixed s e = subst (λ (x : Entries). renamed_entries ρ x ≡ x) (sym e) refl

    own_fixed : (k : Holder) (s : Entries) → SecondIsOwn k s → IfSecond k (Below locals s) → (Below locals s → renamed_entries ρ s ≡ s) → renamed_entries ρ s ≡ s
    own_fixed (SplitProject f env) s e b up = up b
    own_fixed (Running f env) s e b up = up b
    own_fixed k s e b up = none_fixed s e

    pub fixed_entries : (es : Entries) → AreNumbers items (item_numbers es) → AreNumbers regions (region_numbers es) → Below locals es → EntriesWithin es → renamed_entries ρ es ≡ es
    fixed_entries none a b c d = refl
    fixed_entries (leaf id l rest) a b c d = λ j. leaf (fi id a.0 j) (fixed_leaf l c.0 j) (fixed_entries rest a.2 b c.1 d.1 j)
    fixed_entries (node id k h i g s rest) a b c d =
        let A = apart_parts items (item_numbers i) (item_numbers s ++ item_numbers rest) a.2 in
        let B = apart_parts items (item_numbers s) (item_numbers rest) A.right in
        let C = apart_parts regions (region_numbers i) _ b.2 in
        let D = apart_parts regions (second_number k g) _ C.right in
        let E = apart_parts regions (region_numbers s) (region_numbers rest) D.right in
        let si : renamed_entries ρ s ≡ s = own_fixed k s d.4 c.2 (λ x. fixed_entries s B.left E.left x d.2) in
        let ri = fixed_entries rest B.right E.right c.3 d.3 in
        let ii = fixed_entries i A.left C.left c.1 d.1 in
        λ j. node (fi id a.0 j) (fixed_holder k c.0 j) (fixed_head h b.0 j) (ii j) (fixed_second k g D.left j) (si j) (ri j)

  pub renamed_append : (xs ys : Entries) → renamed_entries ρ (append xs ys) ≡ append (renamed_entries ρ xs) (renamed_entries ρ ys)
  renamed_append none ys = refl
  renamed_append (leaf id l rest) ys = ap (leaf (ρ.item.to id) (renamed_leaf ρ l)) (renamed_append rest ys)
  renamed_append (node id k h i g s rest) ys = ap (node (ρ.item.to id) (renamed_holder ρ k) (renamed_head ρ h) (renamed_entries ρ i) (renamed_second ρ k g) (renamed_entries ρ s)) (renamed_append rest ys)

  occurs_to : (t : ℕ) (es : Entries) → occurs (ρ.item.to t) (renamed_entries ρ es) ≡ occurs t es
  occurs_to t none = refl
  occurs_to t (leaf id l rest) = ap₂ (λ a b. a || b) (eqb_to ρ.item id t) (occurs_to t rest)
  occurs_to t (node id k h i g s rest) = λ j. eqb_to ρ.item id t j || (occurs_to t i j || (occurs_to t s j || occurs_to t rest j))

  -- the edit of a thing, and what it is of the renamed one
  abbrev pub MadeAlike : Thing → Edit → Edit → Type 0
  MadeAlike (of_leaf l) e f = renamed_entries ρ (e.make (new_head 0) none (new_head 0) none) ≡ f.make (new_head 0) none (new_head 0) none
  MadeAlike (of_holder k held) e f = (h : Head) (i : Entries) (g : Head) (s : Entries) → renamed_entries ρ (e.make h i g s) ≡ f.make (renamed_head ρ h) (renamed_entries ρ i) (renamed_second ρ k g) (renamed_entries ρ s)

  module _ (t : ℕ) (e f : Edit) (mark : f.mark ≡ e.mark) where
    abbrev E : Edits
    E = single t e

    abbrev F : Edits
    F = single (ρ.item.to t) f

    sets_to : (z : Side) (id : ℕ) → sets z (F (ρ.item.to id)) ≡ sets z (E id)
    sets_to z id = ap (λ b. sets z (cond b (Some f) None)) (eqb_to ρ.item id t) ∙ go (eqb id t)
      where
        go : (b : Bool) → sets z (cond b (Some f) None) ≡ sets z (cond b (Some e) None)
        go true = ap (is_side z) mark
        go false = refl

    marks_to : (z : Side) (es : Entries) → marks F z (renamed_entries ρ es) ≡ marks E z es
    marks_to z none = refl
    marks_to z (leaf id l rest) = ap₂ (λ a b. a || b) (sets_to z id) (marks_to z rest)
    marks_to z (node id k h i g s rest) = ap₂ (λ a b. a || b) (sets_to z id) (marks_to z rest)

    pub head_to : (es : Entries) (h : Head) → renamed_head ρ (head_after E es h) ≡ head_after F (renamed_entries ρ es) (renamed_head ρ h)
    head_to es h = λ j. record { number = ρ.region.to h.number; ends = h.ends || sym (marks_to Ending es) j; goes = h.goes || sym (marks_to Going es) j }

    second_to : (k : Holder) (es : Entries) (g : Head) → renamed_second ρ k (head_after E es g) ≡ head_after F (renamed_entries ρ es) (renamed_second ρ k g)
    second_to (SplitProject x env) es g = head_to es g
    second_to (Running x env) es g = head_to es g
    second_to k es g = λ j. record { number = g.number; ends = g.ends || sym (marks_to Ending es) j; goes = g.goes || sym (marks_to Going es) j }

    -- where the item doesn't occur nothing is changed on either side
    both_absent : (es : Entries) → occurs t es ≡ false → renamed_entries ρ (edited E es) ≡ edited F (renamed_entries ρ es)
    both_absent es h = ap (renamed_entries ρ) (absent t e es h) ∙ sym (absent (ρ.item.to t) f (renamed_entries ρ es) (occurs_to t es ∙ h))

    pub edited_to : (es : Entries) (x : Thing) (q p : Place) → At t x q es p → MadeAlike x e f → renamed_entries ρ (edited E es) ≡ edited F (renamed_entries ρ es)
    edited_to none x q p at m = elim at [ ]
    edited_to (leaf id l rest) x q p (this_leaf a b) m =
        let a' : eqb (ρ.item.to id) (ρ.item.to t) ≡ true = eqb_to ρ.item id t ∙ a in
        let r = both_absent rest b in
        rw (a, a') (renamed_append (e.make (new_head 0) none (new_head 0) none) (edited E rest) ∙ ap₂ append m r)
    edited_to (leaf id l rest) x q p (past_leaf a at) m =
        let a' : eqb (ρ.item.to id) (ρ.item.to t) ≡ false = eqb_to ρ.item id t ∙ a in
        let r = edited_to rest x q p at m in
        rw (a, a') (ap (leaf (ρ.item.to id) (renamed_leaf ρ l)) r)
    edited_to (node id k h i g s rest) x q p (this_node a b c d) m =
        let a' : eqb (ρ.item.to id) (ρ.item.to t) ≡ true = eqb_to ρ.item id t ∙ a in
        let r = both_absent rest d in
        let ri = both_absent i b in
        let rs = both_absent s c in
        rw (a, a') (renamed_append (e.make (head_after E i h) (edited E i) (head_after E s g) (edited E s)) (edited E rest)
        ∙ ap₂ append (m (head_after E i h) (edited E i) (head_after E s g) (edited E s) ∙ (λ j. f.make (head_to i h j) (ri j) (second_to k s g j) (rs j))) r)
    edited_to (node id k h i g s rest) x q p (in_first a at c d) m =
        let a' : eqb (ρ.item.to id) (ρ.item.to t) ≡ false = eqb_to ρ.item id t ∙ a in
        let r = both_absent rest d in let ri = edited_to i x q _ at m in let rs = both_absent s c in
        rw (a, a') (λ j. node (ρ.item.to id) (renamed_holder ρ k) (head_to i h j) (ri j) (second_to k s g j) (rs j) (r j))
    edited_to (node id k h i g s rest) x q p (in_second a l b at d) m =
        let a' : eqb (ρ.item.to id) (ρ.item.to t) ≡ false = eqb_to ρ.item id t ∙ a in
        let r = both_absent rest d in let ri = both_absent i b in let rs = edited_to s x q _ at m in
        rw (a, a') (λ j. node (ρ.item.to id) (renamed_holder ρ k) (head_to i h j) (ri j) (second_to k s g j) (rs j) (r j))
    edited_to (node id k h i g s rest) x q p (past_node a b c at) m =
        let a' : eqb (ρ.item.to id) (ρ.item.to t) ≡ false = eqb_to ρ.item id t ∙ a in
        let r = edited_to rest x q p at m in let ri = both_absent i b in let rs = both_absent s c in
        rw (a, a') (λ j. node (ρ.item.to id) (renamed_holder ρ k) (head_to i h j) (ri j) (second_to k s g j) (rs j) (r j))
