-- Two paths whose values are equal: they have one shape, and the new items say the rest.
use Rattle.std.proofs.Common.{◌≡◌, ℕ, zero, suc, ◌+◌, ◌<◌, Option, Some, refl, ap, sym, ◌∙◌, subst, arith}
use Rattle.tp_value.specs.Tree.{Tree}
use Rattle.tp_value.specs.Shape.{shape_of, shape_at_path, item_at}
use Rattle.tp_value.specs.declared.path.Path.{Path}
use Rattle.tp_value.specs.declared.value.Shape.{Shape}
use Rattle.tp_value.specs.declared.value.Shape.TheVariants.{Num, Truth, Items}
use Rattle.tp_meaning.specs.Course.{Course, Shows, blank, ◌⊕◌}
use Rattle.tp_meaning.specs.Bindings.{Locals}
use Rattle.tp_meaning.specs.Holds.{Context}
use Rattle.tp_meaning.proofs.Shows.{join-blank}
use Rattle.tp_store.proofs.Meaning.{shape_item, item_shape}
use Rattle.tp_eval.specs.Right.{values_at}
use Rattle.tp_scene.specs.Says.{Says}
use Rattle.tp_scene.specs.Step.{all_do, item_equations, shape_equations, both_places}
use Rattle.tp_scene.proofs.ItemByItem.{SameItem, items_there, lists_equal, numbers_equal, truths_equal}

module _ (w : Context) (globals : ℕ) (number : ℕ → ℕ) (p q : Path) (σ : Locals) (s : Course) (a b : ℕ) where
  abbrev pub tree_there : Path → Option Tree
  tree_there x = item_at x.at (values_at globals s σ a x.var.number)

  abbrev pub shape_there : Path → Option Shape
  shape_there x = shape_at_path x.at (values_at globals s σ a x.var.number)

  moved : (i j : ℕ) → SameItem (tree_there p) (tree_there q) (j + suc i) → SameItem (tree_there p) (tree_there q) (suc j + i)
  moved i j h = subst (λ (k : ℕ). SameItem (tree_there p) (tree_there q) k) (let e : j + suc i ≡ suc j + i = omega arith in e) h

  moved_back : (i j : ℕ) → SameItem (tree_there p) (tree_there q) (suc j + i) → SameItem (tree_there p) (tree_there q) (j + suc i)
  moved_back i j h = subst (λ (k : ℕ). SameItem (tree_there p) (tree_there q) k) (let e : suc j + i ≡ j + suc i = omega arith in e) h

  -- the new items say that the items are the same
  items_say : (m i from d : ℕ) (S : Shows) → ((j : ℕ) → j < m → SameItem (tree_there p) (tree_there q) (j + i)) → S ≡ blank → Says w globals (all_do (item_equations m i) (both_places p q) number from) d σ s a b S
  items_say zero i from d S h e = e
  items_say (suc m) i from d S h e =
      let x = subst (λ (k : ℕ). SameItem (tree_there p) (tree_there q) k) (let z : 0 + i ≡ i = omega arith in z) (h 0 (omega arith)) in
      (blank, blank, (x.0, x.1, x.2, refl), items_say m (suc i) (suc from) d blank (λ j l. moved_back i j (h (suc j) (omega (arith, l)))) refl, e ∙ sym (join-blank blank))

  items_said : (m i from d : ℕ) (S : Shows) → Says w globals (all_do (item_equations m i) (both_places p q) number from) d σ s a b S → ((j : ℕ) → j < m → SameItem (tree_there p) (tree_there q) (j + i)) × (S ≡ blank)
  items_said zero i from d S h = ((λ j l. absurd (omega (arith, l))), h)
  items_said (suc m) i from d S h =
      let r = items_said m (suc i) (suc from) d h.1 h.3 in
      let x = h.2 in
      let first : SameItem (tree_there p) (tree_there q) i = (x.0, x.1, x.2) in
      (each first r.0, h.4 ∙ ap (λ X. X ⊕ h.1) x.3 ∙ ap (λ X. blank ⊕ X) r.1 ∙ join-blank blank)
    where
      each : SameItem (tree_there p) (tree_there q) i → ((j : ℕ) → j < m → SameItem (tree_there p) (tree_there q) (j + suc i)) → (j : ℕ) → j < suc m → SameItem (tree_there p) (tree_there q) (j + i)
      each f g zero l = subst (λ (k : ℕ). SameItem (tree_there p) (tree_there q) k) (let z : i ≡ 0 + i = omega arith in z) f
      each f g (suc j) l = moved i j (g j (omega (arith, l)))

  from_0 : (j : ℕ) → SameItem (tree_there p) (tree_there q) (j + 0) → SameItem (tree_there p) (tree_there q) j
  from_0 j h = subst (λ (k : ℕ). SameItem (tree_there p) (tree_there q) k) (let z : j + 0 ≡ j = omega arith in z) h

  to_0 : (j : ℕ) → SameItem (tree_there p) (tree_there q) j → SameItem (tree_there p) (tree_there q) (j + 0)
  to_0 j h = subst (λ (k : ℕ). SameItem (tree_there p) (tree_there q) k) (let z : j ≡ j + 0 = omega arith in z) h

  -- one value at both, of this shape
  pub within_says : (sh : Shape) (d : ℕ) (S : Shows) (v : Tree) → tree_there p ≡ Some v → tree_there q ≡ Some v → shape_of v ≡ sh → S ≡ blank → Says w globals (all_do (shape_equations sh) (both_places p q) number 0) d σ s a b S
  within_says (Items k) d S v hp hq h e = items_say k 0 0 d S (λ j l. to_0 j (items_there k v (tree_there p) (tree_there q) h hp hq j l)) e
  within_says (Num n) d S v hp hq h e = e
  within_says (Truth c) d S v hp hq h e = e

  -- values of this shape at both, of which the new items say that they are equal
  pub within_said : (sh : Shape) (d : ℕ) (S : Shows) (u v : Tree) → tree_there p ≡ Some u → tree_there q ≡ Some v → shape_of u ≡ sh → shape_of v ≡ sh
      → Says w globals (all_do (shape_equations sh) (both_places p q) number 0) d σ s a b S → (u ≡ v) × (S ≡ blank)
  within_said (Items k) d S u v hp hq x y h = let r = items_said k 0 0 d S h in (lists_equal k u v (tree_there p) (tree_there q) x y hp hq (λ j l. from_0 j (r.0 j l)), r.1)
  within_said (Num n) d S u v hp hq x y h = (numbers_equal n u v x y, h)
  within_said (Truth c) d S u v hp hq x y h = (truths_equal c u v x y, h)

  -- one value at both
  abbrev pub HaveOneValue : Type 0
  HaveOneValue = (v : Tree) × (tree_there p ≡ Some v) × (tree_there q ≡ Some v)

  pub one_shape : HaveOneValue → shape_there p ≡ shape_there q
  one_shape h = item_shape p.at (values_at globals s σ a p.var.number) h.0 h.1 ∙ sym (item_shape q.at (values_at globals s σ a q.var.number) h.0 h.2)

  pub equal_says : (sh : Shape) (d : ℕ) (S : Shows) → shape_there p ≡ Some sh → HaveOneValue → S ≡ blank → Says w globals (all_do (shape_equations sh) (both_places p q) number 0) d σ s a b S
  equal_says sh d S h x e =
      let r : shape_there p ≡ Some (shape_of x.0) = item_shape p.at (values_at globals s σ a p.var.number) x.0 x.1 in
      within_says sh d S x.0 x.1 x.2 (cc) e

  pub equal_said : (sh : Shape) (d : ℕ) (S : Shows) → shape_there p ≡ Some sh → shape_there q ≡ Some sh → Says w globals (all_do (shape_equations sh) (both_places p q) number 0) d σ s a b S → HaveOneValue × (S ≡ blank)
  equal_said sh d S hp hq h =
      let u = shape_item p.at (values_at globals s σ a p.var.number) sh hp in
      let v = shape_item q.at (values_at globals s σ a q.var.number) sh hq in
      let r = within_said sh d S u.0 v.0 u.1 v.1 u.2 v.2 h in
      ((u.0, u.1, v.1 ∙ ap (λ x. Some x) (sym r.0)), r.1)
