-- The rows of the table under a renaming.
use Rattle.std.proofs.Common.{◌≡◌, ℤ, pos, negsuc, ◌+ℤ◌, int_le, ℕ, zero, suc, ◌+◌, ◌-◌, ◌<◌, nat_lt, Bool, true, false, not, ◌&&◌, ◌||◌, List, [], ◌∷◌, ◌++◌, length, slice_get, refl, ap, ap₂, sym, ◌∙◌, subst, arith, if◌then◌else◌}
use Rattle.std.specs.Prelude.{Option, Some, None}
use Rattle.tp_value.specs.Tree.{Tree, num, truth, same_tree}
use Rattle.tp_value.specs.Limits.{length_limit}
use Rattle.tp_value.specs.declared.value.Shape.{Shape}
use Rattle.tp_value.specs.declared.value.Shape.TheVariants.{Items}
use Rattle.tp_value.specs.declared.path.Path.{Path}
use Rattle.tp_value.specs.declared.path.Fact.{Fact}
use Rattle.tp_kernel.specs.declared.fault.FaultKind.TheVariants.{NoElement}
use Rattle.tp_kernel.specs.declared.fault.LimitKind.{LimitKind}
use Rattle.tp_meaning.specs.Syntax.{ExprTree, ExprTrees, no_expr, expr_then, numeral, known, bound, global, size, index, FormulaTree, FormulaTrees, no_formula, formula_then, trivial, test, equation, next_equation, empty, more, next, weak_next, if_more, if_empty, always, conjunction, branch, len, assign, chop, while, for_from, forall_from, project, exists, call, input, display, formulas_of, Definition, BindingTree, place_binding, known_binding}
use Rattle.tp_meaning.specs.Nexts.{nexts}
use Rattle.tp_meaning.specs.Value.{is_upper}
use Rattle.tp_meaning.specs.Inputs.{input_at}
use Rattle.tp_meaning.specs.Fits.{ExprFits, ExprsFit, FormulaFits, DefinitionsFit}
use Rattle.tp_store.specs.Facts.{fact, facts_at, kept_shape, is_excluded}
use Rattle.tp_store.specs.Known.{NoClash, Addition, adds, refuses, addition}
use Rattle.tp_eval.specs.Evaluate.{is_place}
use Rattle.tp_eval.specs.Outcome as found
use Rattle.tp_eval.specs.Outcome.{outcome, place_outcome, PlaceOutcome}
use Rattle.tp_scene.specs.declared.answer.Clash.TheVariants.{NoValue}
use Rattle.tp_scene.specs.Scene.{Bindings, Side, Ending, Going, Head, Leaf, Do, Later, Shown, Holder, Split, SplitProject, Closed, Opened, Running, Entries, none, leaf, node, new_head, no_region, Place}
use Rattle.tp_scene.specs.Step.{PickOutcome, reduces, clashes, becomes, added, Numbers, region_limit, marking, with_region, by_status, with_value, with_truth, with_number, Target, value_at, length_at, target_at, target_if, target_of, set, SideOf, meets, both_wait, shape_equations, both_places, shares, by_shapes, equate_places, passes_or_waits, equate_values, equate, side_of, side_with, all_do, count_of, with_values, with_place, with_argument, with_arguments, called, length_left, from_port, formula_step, holder_step}
use Rattle.tp_scene.specs.Pick.{Setting}
use Rattle.tp_step_laws.specs.Renaming.{renamed_facts, renamed_binding, renamed_bindings, renamed_leaf, renamed_holder, renamed_head, renamed_entries, renamed_place, renamed_found, renamed_place_found, FactsAlike, Renamed}
use Rattle.tp_step_laws.specs.Maps.{Renaming, FixesBelow, renamed_path}
use Rattle.tp_step_laws.proofs.RenameFacts.{addition_to, facts_at_to, excluded_alike, additions_alike}
use Rattle.tp_step_laws.proofs.RenameEval.{outcomes_rename}

one_more : (ρ : Renaming) (env : Bindings) (b : BindingTree) → renamed_bindings ρ env ++ renamed_binding ρ b ∷ [] ≡ renamed_bindings ρ (env ++ b ∷ [])
one_more ρ [] b = refl
one_more ρ (x ∷ env) b = ap (λ l. renamed_binding ρ x ∷ l) (one_more ρ env b)

module _ (ρ : Renaming) (n n' : Numbers) where
  abbrev R : PickOutcome → PickOutcome → Type 0
  R = Renamed ρ n n'

  value_row : (a b : found.Outcome) (f g : Tree → PickOutcome) → b ≡ renamed_found ρ a → ((v : Tree) → R (f v) (g v)) → R (with_value a f) (with_value b g)
  value_row (found.value t) b f g h k = subst (λ (o : found.Outcome). R (f t) (with_value o g)) (sym h) (k t)
  value_row x b f g h k = ap (λ o. with_value o g) h

  truth_row : (a b : found.Outcome) (f g : Bool → PickOutcome) → b ≡ renamed_found ρ a → ((v : Bool) → R (f v) (g v)) → R (with_truth a f) (with_truth b g)
  truth_row (found.value (truth t)) b f g h k = subst (λ (o : found.Outcome). R (f t) (with_truth o g)) (sym h) (k t)
  truth_row x b f g h k = ap (λ o. with_truth o g) h

  number_row : (a b : found.Outcome) (f g : ℤ → PickOutcome) → b ≡ renamed_found ρ a → ((v : ℤ) → R (f v) (g v)) → R (with_number a f) (with_number b g)
  number_row (found.value (num m)) b f g h k = subst (λ (o : found.Outcome). R (f m) (with_number o g)) (sym h) (k m)
  number_row x b f g h k = ap (λ o. with_number o g) h

  if_row : (b : Bool) (x x' y y' : PickOutcome) → R x x' → R y y' → R (if b then x else y) (if b then x' else y')
  if_row true x x' y y' h k = h
  if_row false x x' y y' h k = k

  -- what is made, with a mark or a region
  marking_row : (z : Side) (b : Bool) (d : ℕ) (news news' : Entries) (i : ℕ) → (((j : ℕ) → j < i → n'.item j ≡ ρ.item.to (n.item j)) → news' ≡ renamed_entries ρ news) → R (marking z b d news i) (marking z b d news' i)
  marking_row z true d news news' i h = refl
  marking_row z false d news news' i h = λ a. ap (λ es. reduces (record { news = es; items = i; regions = 0; local = None; mark = Some z; facts = [] })) (h a.items)

  becomes_row : (news news' : Entries) (i : ℕ) → (((j : ℕ) → j < i → n'.item j ≡ ρ.item.to (n.item j)) → news' ≡ renamed_entries ρ news) → R (becomes news i) (becomes news' i)
  becomes_row news news' i h = λ a. ap (λ es. becomes es i) (h a.items)

  region_row : (d : ℕ) (news news' : Entries) → (n'.item 0 ≡ ρ.item.to (n.item 0) → n'.item 1 ≡ ρ.item.to (n.item 1) → n'.region ≡ ρ.region.to n.region → news' ≡ renamed_entries ρ news) → R (with_region d news 2) (with_region d news' 2)
  region_row d news news' h = if_row (nat_lt d region_limit) _ _ _ _ (λ a. ap (λ es. reduces (record { news = es; items = 2; regions = 1; local = None; mark = None; facts = [] })) (h (a.items 0 (omega arith)) (a.items 1 (omega arith)) a.region)) refl

  status_row : (p : Place) (a b a' b' : PickOutcome) → R a a' → R b b' → R (by_status p a b) (by_status (renamed_place ρ p) a' b')
  status_row p a b a' b' h k = if_row (p.is Going) _ _ _ _ h (if_row (p.is Ending) _ _ _ _ k refl)

  abbrev target_to : Target → Target
  target_to (value_at p) = value_at (renamed_path ρ p)
  target_to (length_at p) = length_at (renamed_path ρ p)

  abbrev if_target : Option Target → Option Target
  if_target None = None
  if_target (Some t) = Some (target_to t)

  -- the items of several formulas
  all_are : (env : Bindings) (fs : FormulaTrees) (k : ℕ) → ((j : ℕ) → j < k + count_of fs → n'.item j ≡ ρ.item.to (n.item j)) → all_do fs (renamed_bindings ρ env) n'.item k ≡ renamed_entries ρ (all_do fs env n.item k)
  all_are env no_formula k a = refl
  all_are env (formula_then f fs) k a = ap₂ (λ i es. leaf i (Do f (renamed_bindings ρ env)) es) (a k (omega arith)) (all_are env fs (suc k) (λ j l. a j (omega (arith, l))))

  module _ (fs gs : List Fact) (fc : NoClash fs) (gc : NoClash gs) (alike : FactsAlike ρ fs gs) where
    added_row : (facts : List Fact) → R (added (addition fs facts)) (added (addition gs (renamed_facts ρ facts)))
    added_row facts = subst (λ (a : Addition). R (added (addition fs facts)) (added a)) (sym (additions_alike ρ fs gs fc gc alike facts)) (go (addition fs facts))
      where
        go : (a : Addition) → R (added a) (added (addition_to ρ a))
        go (adds news) = λ a. refl
        go (refuses old new) = refl

    set_row : (t : Target) (v : Tree) → R (set fs t v) (set gs (target_to t) v)
    set_row (value_at p) v = subst (λ (l : List Fact). R (added (addition fs (facts_at p v))) (added (addition gs l))) (sym (facts_at_to ρ p v)) (added_row (facts_at p v))
    set_row (length_at p) (num (pos m)) = if_row (nat_lt length_limit m) _ _ _ _ refl (added_row (fact p (Items m) ∷ []))
    set_row (length_at p) t = refl

    abbrev side : Bool → Option Target → found.Outcome → SideOf
    side b t o = record { placed = b; target = t; found = o }

    meets_row : (b : Bool) (t : Option Target) (o : found.Outcome) (v : Tree) → R (meets fs (side b t o) v) (meets gs (side b (if_target t) (renamed_found ρ o)) v)
    meets_row b (Some t) o v = set_row t v
    meets_row b None (found.value u) v = if_row (same_tree u v) _ _ _ _ (λ a. refl) refl
    meets_row b None o v = refl

    wait_row : (b c : Bool) (p q : Path) → R (both_wait fs b c p q) (both_wait gs b c (renamed_path ρ p) (renamed_path ρ q))
    wait_row b c p q = if_row (c && not b) _ _ _ _ refl refl

    over_row : (t : Option Target) (p : Path) (k : LimitKind) → R (passes_or_waits fs t p k) (passes_or_waits gs (if_target t) (renamed_path ρ p) k)
    over_row (Some (value_at q)) p k = refl
    over_row (Some (length_at q)) p k = refl
    over_row None p k = refl

    parts_row : (b c : Bool) (l r : Option Target) (x y : found.Outcome) → R (equate_values fs (side b l x) (side c r y)) (equate_values gs (side b (if_target l) (renamed_found ρ x)) (side c (if_target r) (renamed_found ρ y)))
    parts_row b c l r (found.value t) (found.fault k) = refl
    parts_row b c l r (found.wait p) (found.fault k) = refl
    parts_row b c l r (found.fault j) (found.fault k) = refl
    parts_row b c l r (found.over j) (found.fault k) = refl
    parts_row b c l r (found.fault j) (found.value u) = refl
    parts_row b c l r (found.fault j) (found.wait q) = refl
    parts_row b c l r (found.fault j) (found.over k) = refl
    parts_row b c l r (found.value t) (found.over k) = refl
    parts_row b c l r (found.wait p) (found.over k) = over_row r p k
    parts_row b c l r (found.over j) (found.over k) = refl
    parts_row b c l r (found.over j) (found.value u) = refl
    parts_row b c l r (found.over j) (found.wait q) = over_row l q j
    parts_row b c l r (found.value t) (found.value u) = meets_row b l (found.value t) u
    parts_row b c l r (found.wait p) (found.value u) = meets_row b l (found.wait p) u
    parts_row b c l r (found.value t) (found.wait q) = meets_row c r (found.wait q) t
    parts_row b c l r (found.wait p) (found.wait q) = wait_row b c p q

    abbrev side_to : SideOf → SideOf
    side_to l = side l.placed (if_target l.target) (renamed_found ρ l.found)

    equate_values_row : (l r l' r' : SideOf) → l' ≡ side_to l → r' ≡ side_to r → R (equate_values fs l r) (equate_values gs l' r')
    equate_values_row l r l' r' a b = subst (λ (o : PickOutcome). R (equate_values fs l r) o) (sym (ap₂ (equate_values gs) a b)) (parts_row l.placed r.placed l.target r.target l.found r.found)

    -- two places
    module _ (p q : Path) where
      shares_row : (x : Path) (sh : Shape) → R (shares p q sh n (addition fs (fact x sh ∷ []))) (shares (renamed_path ρ p) (renamed_path ρ q) sh n' (addition gs (fact (renamed_path ρ x) sh ∷ [])))
      shares_row x sh = subst (λ (a : Addition). R (shares p q sh n (addition fs (fact x sh ∷ []))) (shares (renamed_path ρ p) (renamed_path ρ q) sh n' a)) (sym (additions_alike ρ fs gs fc gc alike (fact x sh ∷ []))) (go (addition fs (fact x sh ∷ [])))
        where
          go : (a : Addition) → R (shares p q sh n a) (shares (renamed_path ρ p) (renamed_path ρ q) sh n' (addition_to ρ a))
          go (adds news) = λ a. ap (λ es. reduces (record { news = es; items = count_of (shape_equations sh); regions = 0; local = None; mark = None; facts = renamed_facts ρ news }))
              (all_are (both_places p q) (shape_equations sh) 0 (λ j l. a.items j (omega (arith, l))))
          go (refuses old new) = refl

      shapes_row : (s t : Option Shape) → R (by_shapes fs p q n s t) (by_shapes gs (renamed_path ρ p) (renamed_path ρ q) n' s t)
      shapes_row (Some sh) t = shares_row p sh
      shapes_row None (Some sh) = shares_row q sh
      shapes_row None None = refl

      -- the same is decided there of both paths
      decided_there : equate_places gs (renamed_path ρ p) (renamed_path ρ q) n' ≡ (if is_excluded fs q || is_excluded fs p then clashes (NoValue NoElement) else by_shapes gs (renamed_path ρ p) (renamed_path ρ q) n' (kept_shape fs q) (kept_shape fs p))
      decided_there =
          ap₂ (λ (c d : Bool). if c || d then clashes (NoValue NoElement) else by_shapes gs (renamed_path ρ p) (renamed_path ρ q) n' (kept_shape gs (renamed_path ρ q)) (kept_shape gs (renamed_path ρ p))) (excluded_alike ρ fs gs fc gc alike q) (excluded_alike ρ fs gs fc gc alike p)
          ∙ ap₂ (λ (s t : Option Shape). if is_excluded fs q || is_excluded fs p then clashes (NoValue NoElement) else by_shapes gs (renamed_path ρ p) (renamed_path ρ q) n' s t) (alike q) (alike p)

      places_row : R (equate_places fs p q n) (equate_places gs (renamed_path ρ p) (renamed_path ρ q) n')
      places_row = subst (λ (o : PickOutcome). R (equate_places fs p q n) o) (sym decided_there) (if_row (is_excluded fs q || is_excluded fs p) _ _ _ _ refl (shapes_row (kept_shape fs q) (kept_shape fs p)))

    targets_row : (b c : Bool) (l r : Option Target) (x y : found.Outcome) → R (equate fs (side b l x) (side c r y) n) (equate gs (side b (if_target l) (renamed_found ρ x)) (side c (if_target r) (renamed_found ρ y)) n')
    targets_row b c (Some (value_at p)) (Some (value_at q)) x y = places_row p q
    targets_row b c (Some (value_at p)) (Some (length_at q)) x y = parts_row b c (Some (value_at p)) (Some (length_at q)) x y
    targets_row b c (Some (value_at p)) None x y = parts_row b c (Some (value_at p)) None x y
    targets_row b c (Some (length_at p)) r x y = parts_row b c (Some (length_at p)) r x y
    targets_row b c None r x y = parts_row b c None r x y

    equate_row : (l r l' r' : SideOf) → l' ≡ side_to l → r' ≡ side_to r → R (equate fs l r n) (equate gs l' r' n')
    equate_row l r l' r' a b = subst (λ (o : PickOutcome). R (equate fs l r n) o) (sym (ap₂ (λ x y. equate gs x y n') a b)) (targets_row l.placed r.placed l.target r.target l.found r.found)

    module _ (w : Setting) (kinds : List Bool) (fit : DefinitionsFit w.defs kinds) (fixed : FixesBelow (length kinds) ρ.local) (env : Bindings) where
      abbrev env' : Bindings
      env' = renamed_bindings ρ env

      abbrev Fit : ExprTree → Type 0
      Fit e = ExprFits w.defs kinds e (length env)

      found_is : (e : ExprTree) → Fit e → outcome gs w.defs e env' ≡ renamed_found ρ (outcome fs w.defs e env)
      found_is e h = (outcomes_rename ρ w.defs kinds fit fixed fs gs fc gc alike e env h).0

      place_is : (e : ExprTree) → Fit e → place_outcome gs w.defs e env' ≡ renamed_place_found ρ (place_outcome fs w.defs e env)
      place_is e h = (outcomes_rename ρ w.defs kinds fit fixed fs gs fc gc alike e env h).1

      target_row : (target : Path → Target) → ((p : Path) → target (renamed_path ρ p) ≡ target_to (target p)) → (b : Bool) (e : ExprTree) → Fit e
          → target_if w.defs gs b target e env' ≡ if_target (target_if w.defs fs b target e env)
      target_row target natural false e h = refl
      target_row target natural true e h = ap (target_at target) (place_is e h) ∙ go (place_outcome fs w.defs e env)
        where
          go : (o : PlaceOutcome) → target_at target (renamed_place_found ρ o) ≡ if_target (target_at target o)
          go (found.path p) = ap Some (natural p)
          go (found.other o) = refl

      targets_are : (e : ExprTree) → Fit e → target_of w.defs gs e env' ≡ if_target (target_of w.defs fs e env)
      targets_are (size e) h = target_row length_at (λ p. refl) (is_place e) e h
      targets_are (index e i) h = target_row value_at (λ p. refl) (is_place e) (index e i) h
      targets_are (bound i) h = target_row value_at (λ p. refl) true (bound i) h
      targets_are (global x) h = target_row value_at (λ p. refl) true (global x) h
      targets_are e h = refl

      sides_are : (e : ExprTree) → Fit e → side_of w.defs gs e env' ≡ side (side_of w.defs fs e env).placed (if_target (side_of w.defs fs e env).target) (renamed_found ρ (side_of w.defs fs e env).found)
      sides_are e h = λ i. record { placed = (side_of w.defs fs e env).placed; target = targets_are e h i; found = found_is e h i }

      place_row : (o o' : PlaceOutcome) (f g : BindingTree → PickOutcome) → o' ≡ renamed_place_found ρ o → ((b : BindingTree) → R (f b) (g (renamed_binding ρ b))) → R (with_place o f) (with_place o' g)
      place_row (found.path p) o' f g h k = subst (λ (x : PlaceOutcome). R (f (place_binding p)) (with_place x g)) (sym h) (k (place_binding p))
      place_row (found.other o) o' f g h k = subst (λ (x : PlaceOutcome). R (with_value o (λ v. f (known_binding v))) (with_place x g)) (sym h)
          (value_row o (renamed_found ρ o) _ _ refl (λ v. k (known_binding v)))

      argument_row : (x : List ℕ) (e : ExprTree) → Fit e → (f g : BindingTree → PickOutcome) → ((b : BindingTree) → R (f b) (g (renamed_binding ρ b))) → R (with_argument w.defs fs x e env f) (with_argument w.defs gs x e env' g)
      argument_row x e h f g k = if_row (is_upper x) _ _ _ _ (place_row _ _ f g (place_is e h) k) (value_row _ _ _ _ (found_is e h) (λ v. k (known_binding v)))

      arguments_row : (es : ExprTrees) (xs : List (List ℕ)) → ExprsFit w.defs kinds es (length env) → (f g : Bindings → PickOutcome) → ((bs : Bindings) → R (f bs) (g (renamed_bindings ρ bs)))
          → R (with_arguments w.defs fs es xs env f) (with_arguments w.defs gs es xs env' g)
      arguments_row no_expr [] h f g k = k []
      arguments_row (expr_then e es) (x ∷ xs) h f g k = argument_row x e h.0 _ _ (λ b. arguments_row es xs h.1 _ _ (λ bs. k (b ∷ bs)))
      arguments_row x y h f g k = refl

      values_row : (es : ExprTrees) → ExprsFit w.defs kinds es (length env) → (f g : List Tree → PickOutcome) → ((vs : List Tree) → R (f vs) (g vs)) → R (with_values w.defs fs es env f) (with_values w.defs gs es env' g)
      values_row no_expr h f g k = k []
      values_row (expr_then e es) h f g k = value_row _ _ _ _ (found_is e h.0) (λ v. values_row es h.1 _ _ (λ vs. k (v ∷ vs)))

      -- new leaves, by the numbers that they take
      one_leaf : (l l' : Leaf) → l' ≡ renamed_leaf ρ l → R (becomes (leaf (n.item 0) l none) 1) (becomes (leaf (n'.item 0) l' none) 1)
      one_leaf l l' h = becomes_row _ _ 1 (λ a. λ i. leaf (a 0 (omega arith) i) (h i) none)

      two_leaves : (l m l' m' : Leaf) → l' ≡ renamed_leaf ρ l → m' ≡ renamed_leaf ρ m → R (becomes (leaf (n.item 0) l (leaf (n.item 1) m none)) 2) (becomes (leaf (n'.item 0) l' (leaf (n'.item 1) m' none)) 2)
      two_leaves l m l' m' h k = becomes_row _ _ 2 (λ a. λ i. leaf (a 0 (omega arith) i) (h i) (leaf (a 1 (omega arith) i) (k i) none))

      call_row : (d : Option Definition) (es : ExprTrees) → ExprsFit w.defs kinds es (length env) → R (called w.defs fs d es env n) (called w.defs gs d es env' n')
      call_row (Some d) es h = arguments_row es d.parameters h _ _ (λ bs. one_leaf (Do d.formula bs) _ refl)
      call_row None es h = refl

      length_row : (k : ℤ) → R (length_left k env n) (length_left k env' n')
      length_row (pos zero) = one_leaf (Do empty env) _ refl
      length_row (pos (suc k)) = one_leaf (Do (next (len (numeral (pos k)))) env) _ refl
      length_row (negsuc k) = refl

      port_row : (v : Option Tree) (port : List ℕ) (x : ExprTree) → Fit x → R (from_port fs v port (side_of w.defs fs x env)) (from_port gs v port (side_of w.defs gs x env'))
      port_row None port x h = refl
      port_row (Some v) port x h = equate_values_row (side_of w.defs fs x env) (side_with v) (side_of w.defs gs x env') (side_with v) (sides_are x h) refl

      -- a region with one item
      split_row : (g f : FormulaTree) (e e' : Bindings) (d : ℕ) → e' ≡ renamed_bindings ρ e
          → R (with_region d (node (n.item 1) (Split g env) (new_head n.region) (leaf (n.item 0) (Do f e) none) no_region none none) 2)
          (with_region d (node (n'.item 1) (Split g env') (new_head n'.region) (leaf (n'.item 0) (Do f e') none) no_region none none) 2)
      split_row g f e e' d h = region_row d _ _ (λ a b r. λ i. node (b i) (Split g env') (new_head (r i)) (leaf (a i) (Do f (h i)) none) no_region none none)

      opened_row : (g f : FormulaTree) (d : ℕ)
          → R (with_region d (node (n.item 1) (Opened g env) (new_head n.region) (leaf (n.item 0) (Do f env) none) no_region none none) 2)
          (with_region d (node (n'.item 1) (Opened g env') (new_head n'.region) (leaf (n'.item 0) (Do f env') none) no_region none none) 2)
      opened_row g f d = region_row d _ _ (λ a b r. λ i. node (b i) (Opened g env') (new_head (r i)) (leaf (a i) (Do f env') none) no_region none none)

      pub formula_row : (f : FormulaTree) (p : Place) → FormulaFits w.defs kinds f (length env) → R (formula_step w.defs w.inputs w.state fs f env p n) (formula_step w.defs w.inputs w.state gs f env' (renamed_place ρ p) n')
      formula_row trivial p h = λ a. refl
      formula_row (test e) p h = truth_row _ _ _ _ (found_is e h) (λ b. if_row b _ _ _ _ (λ a. refl) refl)
      formula_row (equation l r) p h = equate_row (side_of w.defs fs l env) (side_of w.defs fs r env) (side_of w.defs gs l env') (side_of w.defs gs r env') (sides_are l h.0) (sides_are r h.1)
      formula_row (next_equation k t e) p h = value_row _ _ _ _ (found_is e h.1) (λ v. marking_row Going (p.is Ending) p.depth _ _ 1 (λ a. ap (λ i. leaf i (Later (nexts (k - 1) (equation t (known v))) env') none) (a 0 (omega arith))))
      formula_row empty p h = marking_row Ending (p.is Going) p.depth none none 0 (λ a. refl)
      formula_row more p h = marking_row Going (p.is Ending) p.depth none none 0 (λ a. refl)
      formula_row (next f) p h = marking_row Going (p.is Ending) p.depth _ _ 1 (λ a. ap (λ i. leaf i (Later f env') none) (a 0 (omega arith)))
      formula_row (weak_next f) p h = status_row p _ _ _ _ (one_leaf (Later f env) (Later f env') refl) (λ a. refl)
      formula_row (if_more f) p h = status_row p _ _ _ _ (one_leaf (Do f env) (Do f env') refl) (λ a. refl)
      formula_row (if_empty f) p h = status_row p _ _ _ _ (λ a. refl) (one_leaf (Do f env) (Do f env') refl)
      formula_row (always f) p h = two_leaves (Do f env) (Do (weak_next (always f)) env) (Do f env') (Do (weak_next (always f)) env') refl refl
      formula_row (conjunction fs) p h = becomes_row _ _ (count_of fs) (λ a. all_are env fs 0 (λ j l. a j (omega (arith, l))))
      formula_row (branch e f g) p h = truth_row _ _ _ _ (found_is e h.0) (λ b. one_leaf (Do (if b then f else g) env) (Do (if b then f else g) env') refl)
      formula_row (len e) p h = number_row _ _ _ _ (found_is e h) (λ k. length_row k)
      formula_row (assign t e) p h = value_row _ _ _ _ (found_is e h.1) (λ v. one_leaf (Do (always (if_empty (equation t (known v)))) env) (Do (always (if_empty (equation t (known v)))) env') refl)
      formula_row (chop f g) p h = split_row g f env env' p.depth refl
      formula_row (while e f) p h = one_leaf (Do (branch e (chop (conjunction (formulas_of (f ∷ more ∷ []))) (while e f)) empty) env) (Do (branch e (chop (conjunction (formulas_of (f ∷ more ∷ []))) (while e f)) empty) env') refl
      formula_row (for_from name k e f) p h = number_row _ _ _ _ (found_is e h.0) (λ m. if_row (int_le m k) _ _ _ _ (one_leaf (Do empty env) (Do empty env') refl)
          (split_row (for_from name (k +ℤ pos 1) (numeral m) f) f (env ++ known_binding (num k) ∷ []) (env' ++ known_binding (num k) ∷ []) p.depth (one_more ρ env (known_binding (num k)))))
      formula_row (forall_from name k e f) p h = number_row _ _ _ _ (found_is e h.0) (λ m. if_row (int_le m k) _ _ _ _ (λ a. refl)
          (two_leaves (Do f (env ++ known_binding (num k) ∷ [])) (Do (forall_from name (k +ℤ pos 1) (numeral m) f) env) (Do f (env' ++ known_binding (num k) ∷ [])) (Do (forall_from name (k +ℤ pos 1) (numeral m) f) env')
          (ap (Do f) (one_more ρ env (known_binding (num k)))) refl))
      formula_row (project f g) p h = opened_row f g p.depth
      formula_row (exists name lasting f) p h = λ a. λ i. reduces (record {
        news = leaf (a.items 0 (omega arith) i) (Do f ((ap (λ y. env' ++ place_binding (record { var = record { number = y; lasting = lasting }; at = [] }) ∷ []) a.local ∙ one_more ρ env (place_binding (record { var = record { number = n.local; lasting = lasting }; at = [] }))) i)) none;
        items = 1;
        regions = 0;
        local = Some (record { name = name; lasting = lasting });
        mark = None;
        facts = [];
      })
      formula_row (call i es) p h = call_row (slice_get w.defs i) es h.3
      formula_row (input x port) p h = port_row (input_at w.inputs w.state port) port x h
      formula_row (display es) p h = values_row es h _ _ (λ vs. one_leaf (Shown vs) (Shown vs) refl)

    -- a holder, whose regions are renamed
    pub holder_row : (w : Setting) (k : Holder) (h g : Head) (i s : Entries) (g' : Head) (q : Place) → (g' ≡ renamed_head ρ g)
        → R (holder_step w.defs w.inputs w.state fs k (record { head = h; entries = i }) (record { head = g; entries = s }) q n)
        (holder_step w.defs w.inputs w.state gs (renamed_holder ρ k) (record { head = renamed_head ρ h; entries = renamed_entries ρ i }) (record { head = g'; entries = renamed_entries ρ s }) (renamed_place ρ q) n')
    holder_row w (Split f env) h g i s g' q e = status_row q _ _ _ _ refl (becomes_row _ _ 2 (λ a. λ j. node (a 0 (omega arith) j) Closed (renamed_head ρ h) (renamed_entries ρ i) no_region none (leaf (a 1 (omega arith) j) (Do f (renamed_bindings ρ env)) none)))
    holder_row w (SplitProject f env) h g i s g' q e = status_row q _ _ _ _ refl (becomes_row _ _ 2 (λ a. λ j. node (a 0 (omega arith) j) Closed (renamed_head ρ h) (renamed_entries ρ i) no_region none
        (node (a 1 (omega arith) j) (Opened f (renamed_bindings ρ env)) (e j) (renamed_entries ρ s) no_region none none)))
    holder_row w (Opened f env) h g i s g' q e = status_row q _ _ _ _
        (λ a. λ j. reduces (record {
          news = node (a.items 2 (omega arith) j) (Running f (renamed_bindings ρ env)) (new_head (a.region j)) (leaf (a.items 0 (omega arith) j) (Do f (renamed_bindings ρ env)) (leaf (a.items 1 (omega arith) j) (Do more (renamed_bindings ρ env)) none)) (renamed_head ρ h) (renamed_entries ρ i) none;
          items = 3;
          regions = 1;
          local = None;
          mark = None;
          facts = [];
        }))
        refl
    holder_row w k h g i s g' q e = refl
