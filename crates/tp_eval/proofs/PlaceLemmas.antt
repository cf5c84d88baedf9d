-- Each kind of expression reaches what it means, where its operands do.
use Rattle.std.proofs.Common.{◌≡◌, pos, negsuc, ℕ, zero, suc, Bool, true, false, List, [], ◌∷◌, length, Option, Some, None, refl, ap, sym, ◌∙◌, arith, slice_get, if◌then◌else◌}
use Rattle.std.specs.Prelude.{nat_lt, nat_le}
use Rattle.std.proofs.lemmas.Bool.{lt-ltb, ltb-true}
use Rattle.tp_value.specs.Tree.{Tree, num, truth, list}
use Rattle.tp_value.specs.Limits.{index_limit, path_limit}
use Rattle.tp_value.specs.Shape.{shape_at_path, item_at}
use Rattle.tp_value.specs.declared.value.Shape.{Shape}
use Rattle.tp_value.specs.declared.value.Shape.TheVariants.{Num, Truth, Items}
use Rattle.tp_value.specs.declared.path.Path.{Path}
use Rattle.tp_value.specs.declared.path.VarId.{VarId}
use Rattle.tp_value.specs.declared.path.Fact.{Fact}
use Rattle.tp_kernel.specs.declared.fault.FaultKind.TheVariants.{NoElement}
use Rattle.tp_kernel.specs.declared.fault.LimitKind.TheVariants as limit
use Rattle.tp_meaning.specs.Syntax.{BindingTree, place_binding, known_binding}
use Rattle.tp_meaning.specs.Fits.{IsVariable}
use Rattle.tp_meaning.specs.Course.{Course}
use Rattle.tp_meaning.specs.Bindings.{Locals, variable_at, meaning_of, meanings_of}
use Rattle.tp_meaning.specs.Value.{◌>>=◌, Meaning, fixed, varying, meant, element, Env}
use Rattle.tp_store.specs.Facts.{kept_shape, is_excluded, item_path}
use Rattle.tp_store.specs.Known.{full}
use Rattle.tp_store.specs.Known as store
use Rattle.tp_eval.specs.Reached.{Reached, reaches, passes, with_reached, gives, stop, fault}
use Rattle.tp_eval.specs.Evaluate.{PlaceFound, at_path, inside, bound_place, index_in, farther, element_in, length_of, length_in, of_full, value_at, size_at, bind_place}
use Rattle.tp_eval.proofs.Agree.{IsUndecided, Agrees, same_meaning, limit_agrees}
use Rattle.tp_eval.proofs.Found.{sized, shape_of_element, size_by_shape, element_further, element_of_fixed, no_element, element_below_zero, element_at_truth, element_at_list, length_agrees}

-- one of the variables has a number less than their count
below_count : (kinds : List Bool) (x : ℕ) (b : Bool) → slice_get kinds x ≡ Some b → nat_lt x (length kinds) ≡ true
below_count [] x b h = absurd (cc)
below_count (k ∷ kinds) zero b h = lt-ltb _ _ (omega arith)
below_count (k ∷ kinds) (suc x) b h = lt-ltb _ _ (omega (arith, ltb-true _ _ (below_count kinds x b h)))

pub some_again : {A : Type 0} (o : Option A) → o ≡ (o >>= Some)
some_again None = refl
some_again (Some x) = refl

pub regrouped : {A B C : Type 0} (o : Option A) (f : A → Option B) (g : B → Option C) → ((o >>= f) >>= g) ≡ (o >>= λ x. f x >>= g)
regrouped None f g = refl
regrouped (Some x) f g = refl

-- what the facts say of the values of the variables at the position
pub record FactsAreRight (facts : List Fact) (Agreeing : Type 0) (values : ℕ → Tree) : Type 0 where
  pub kept : Agreeing → (p : Path) (sh : Shape) → kept_shape facts p ≡ Some sh → shape_at_path p.at (values p.var.number) ≡ Some sh
  pub excluded : Agreeing → (p : Path) → is_excluded facts p ≡ true → item_at p.at (values p.var.number) ≡ None
  pub absent : Agreeing → (p : Path) → full facts p ≡ store.absent → item_at p.at (values p.var.number) ≡ None
  pub whole : Agreeing → (p : Path) (t : Tree) → full facts p ≡ store.value t → item_at p.at (values p.var.number) ≡ Some t
  pub undecided : (p q : Path) → full facts p ≡ store.undecided q → IsUndecided facts q

module _ (facts : List Fact) (Agreeing : Type 0) (kinds : List Bool) (s : Course) (locals : Locals) (a : ℕ) where
  abbrev Gives : {A : Type 0} → Reached A → Option A → Type 0
  Gives = Agrees facts Agreeing Some

  abbrev pub value_here : ℕ → Tree
  value_here n = variable_at (length kinds) s locals (record { number = n; lasting = false }) a

  abbrev pub meanings_here : List BindingTree → Env
  meanings_here env = meanings_of (length kinds) s locals env

  -- what a place means along the course
  abbrev pub meaning_of_place : PlaceFound → Option Meaning
  meaning_of_place (at_path p) = Some (meaning_of (length kinds) s locals (place_binding p))
  meaning_of_place (inside t at) = item_at at t >>= λ u. Some (fixed u)

  abbrev pub PlaceGives : Reached PlaceFound → Option Meaning → Type 0
  PlaceGives = Agrees facts Agreeing meaning_of_place

  pub bound_agrees : (env : List BindingTree) (i c : ℕ) → PlaceGives (bound_place (slice_get env i) c) (slice_get (meanings_here env) i)
  bound_agrees [] i c = λ w. refl
  bound_agrees (place_binding p ∷ env) zero c = λ w. refl
  bound_agrees (known_binding t ∷ env) zero c = λ w. refl
  bound_agrees (b ∷ env) (suc i) c = bound_agrees env i c

  pub global_agrees : (x : VarId) (c : ℕ) → (Agreeing → IsVariable kinds x) → PlaceGives (reaches (at_path (record { var = x; at = [] })) c) (Some (varying (λ j. Some ((s j).values x.number))))
  global_agrees x c h = λ w. let q = below_count kinds x.number x.lasting (h w) in
      λ i. Some (varying (λ j. Some (ap (λ (b : Bool). if b then (s j).values x.number else locals x.number j) (sym q) i)))

  farther_agrees : (p : PlaceFound) (k c : ℕ) → PlaceGives (farther p k c) (meaning_of_place p >>= λ m. element m (num (pos k)))
  farther_agrees (at_path p) k c = same_meaning facts Agreeing meaning_of_place _ _ (meaning_of_place (at_path (item_path p k)))
      (λ w i. Some (varying (λ j. sym (element_further p.at (k ∷ []) (variable_at (length kinds) s locals p.var j)) i)))
      (limit_agrees facts Agreeing meaning_of_place (nat_lt (length p.at) path_limit) (at_path (item_path p k)) limit.List c)
  farther_agrees (inside t at) k c = λ w. sym (ap (λ o. o >>= λ u. Some (fixed u)) (element_further at (k ∷ []) t) ∙ element_of_fixed (item_at at t) k)

  pub index_agrees : (p : PlaceFound) (u : Tree) (c : ℕ) → PlaceGives (with_reached (index_in u c) (farther p)) (meaning_of_place p >>= λ m. element m u)
  index_agrees p (num (pos k)) c = within (nat_le k index_limit)
    where
      within : (b : Bool) → PlaceGives (with_reached ((if b then gives k else stop (passes limit.List)) c) (farther p)) (meaning_of_place p >>= λ m. element m (num (pos k)))
      within true = farther_agrees p k c
      within false = tt
  index_agrees p (num (negsuc k)) c = λ w. no_element (meaning_of_place p) (num (negsuc k)) (element_below_zero k)
  index_agrees p (truth b) c = λ w. no_element (meaning_of_place p) (truth b) (element_at_truth b)
  index_agrees p (list ts) c = λ w. no_element (meaning_of_place p) (list ts) (element_at_list ts)

  pub bind_place_agrees : (p : PlaceFound) (c : ℕ) → Agrees facts Agreeing (λ b. Some (meaning_of (length kinds) s locals b)) (bind_place p c) (meaning_of_place p >>= Some)
  bind_place_agrees (at_path p) c = λ w. refl
  bind_place_agrees (inside t at) c = element_bound (item_at at t)
    where
      element_bound : (o : Option Tree) → Agrees facts Agreeing (λ b. Some (meaning_of (length kinds) s locals b)) (with_reached (element_in o c) (λ u. gives (known_binding u))) ((o >>= λ u. Some (fixed u)) >>= Some)
      element_bound None = λ w. refl
      element_bound (Some u) = λ w. refl

  module _ (right : FactsAreRight facts Agreeing value_here) where
    full_agrees : (p : Path) (o : store.Full) → full facts p ≡ o → (c : ℕ) → Gives (of_full o c) (item_at p.at (value_here p.var.number))
    full_agrees p store.absent h c = λ w. right.absent w p h
    full_agrees p (store.undecided q) h c = right.undecided p q h
    full_agrees p store.too_long h c = tt
    full_agrees p (store.value t) h c = λ w. right.whole w p t h

    pub value_at_agrees : (p : PlaceFound) (c : ℕ) → Gives (value_at facts p c) (meaning_of_place p >>= meant a)
    value_at_agrees (at_path p) c = full_agrees p (full facts p) refl c
    value_at_agrees (inside t at) c = element_meant (item_at at t)
      where
        element_meant : (o : Option Tree) → Gives (element_in o c) ((o >>= λ u. Some (fixed u)) >>= meant a)
        element_meant None = λ w. refl
        element_meant (Some u) = λ w. refl

    length_in_agrees : (p : Path) (k : Option Shape) → kept_shape facts p ≡ k → is_excluded facts p ≡ false → (c : ℕ) → Gives (length_in p k c) (item_at p.at (value_here p.var.number) >>= sized)
    length_in_agrees p None h e c = (h, e)
    length_in_agrees p (Some (Items n)) h e c = λ w. size_by_shape _ (Items n) (sym (shape_of_element p.at (value_here p.var.number)) ∙ right.kept w p (Items n) h)
    length_in_agrees p (Some (Num n)) h e c = λ w. size_by_shape _ (Num n) (sym (shape_of_element p.at (value_here p.var.number)) ∙ right.kept w p (Num n) h)
    length_in_agrees p (Some (Truth b)) h e c = λ w. size_by_shape _ (Truth b) (sym (shape_of_element p.at (value_here p.var.number)) ∙ right.kept w p (Truth b) h)

    pub size_at_agrees : (p : PlaceFound) (c : ℕ) → Gives (size_at facts p c) ((meaning_of_place p >>= meant a) >>= sized)
    size_at_agrees (at_path p) c = excluded (is_excluded facts p) refl
      where
        excluded : (b : Bool) → is_excluded facts p ≡ b → Gives ((if b then fault NoElement else length_in p (kept_shape facts p)) c) (item_at p.at (value_here p.var.number) >>= sized)
        excluded true e = λ w. ap (λ o. o >>= sized) (right.excluded w p e)
        excluded false e = length_in_agrees p (kept_shape facts p) refl e c
    size_at_agrees (inside t at) c = element_sized (item_at at t)
      where
        element_sized : (o : Option Tree) → Gives (with_reached (element_in o c) length_of) (((o >>= λ u. Some (fixed u)) >>= meant a) >>= sized)
        element_sized None = λ w. refl
        element_sized (Some u) = length_agrees facts Agreeing u c
