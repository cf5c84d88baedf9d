-- A side of an equation where all that was set is known.
use Rattle.std.proofs.Common.{◌≡◌, ℕ, suc, pos, ◌+◌, Bool, true, false, cond, List, Some, None, refl, ap, ap₂, sym, ◌∙◌, subst, inl, arith, if◌then◌else◌}
use Rattle.std.proofs.lemmas.Bool.{cond-true}
use Rattle.tp_value.specs.Tree.{Tree, num}
use Rattle.tp_value.specs.Shape.{shape_of}
use Rattle.tp_value.specs.Limits.{is_within_list_limit}
use Rattle.tp_value.specs.Room.{IsWithinListLimit}
use Rattle.tp_value.specs.declared.value.Shape.TheVariants.{Items}
use Rattle.tp_value.specs.declared.path.Path.{Path}
use Rattle.tp_value.specs.declared.path.Fact.{Fact}
use Rattle.tp_kernel.specs.declared.fault.FaultKind.TheVariants.{NoElement}
use Rattle.tp_meaning.specs.Syntax.{ExprTree, bound, global, size, index, Definition}
use Rattle.tp_meaning.specs.Inputs.{InputTable}
use Rattle.tp_store.specs.Facts.{fact, facts_at}
use Rattle.tp_store.specs.Known as store
use Rattle.tp_store.specs.Known.{NoClash, whole, deepest, absent, limited, full}
use Rattle.tp_store.proofs.Members.{In, in_kept}
use Rattle.tp_eval.specs.Reached.{Reached, reaches, stops, waits, faults, passes, with_reached, fault}
use Rattle.tp_eval.specs.Evaluate as ev
use Rattle.tp_eval.specs.Evaluate.{PlaceFound, at_path, inside, is_place, of_full, length_in, evaluate, find_place, depth_limit}
use Rattle.tp_eval.specs.Outcome as found
use Rattle.tp_eval.specs.Outcome.{outcome, place_outcome, outcome_reached, place_reached}
use Rattle.tp_scene.specs.Scene.{Bindings}
use Rattle.tp_scene.specs.Step.{Target, value_at, length_at, target_at, target_if, side_of}
use Rattle.tp_step_laws.specs.Outcomes.{KnowsMore, GrownPlace}
use Rattle.tp_step_laws.proofs.FactsGrow.{facts_grow, deep_more}
use Rattle.tp_step_laws.proofs.OutcomesGrow.{is_limit, is_wait, More, evaluate_more, evaluate_deeper, outcomes_grow}
use Rattle.tp_step_laws.proofs.Kept.{target_facts, tree_known, more_depth}
use Rattle.tp_step_laws.proofs.SideGrow.{some_path, path_same, read_place, read_size, side_grows}
use Rattle.tp_step_laws.proofs.EqMutual.{Settable, IsOver, SideKnows}

own_fact : (p : Path) (v : Tree) (hs : List Fact) → ((f : Fact) → In f (facts_at p v) → In f hs) → In (fact p (shape_of v)) hs
own_fact p (num n) hs h = h _ (inl refl)
own_fact p t hs h = h _ (inl refl)

full_from : (hs : List Fact) → NoClash hs → (p : Path) (v : Tree) → ((f : Fact) → In f (facts_at p v) → In f hs) → IsWithinListLimit v → full hs p ≡ store.value v
full_from hs hc p v all small =
    let k = tree_known hs hc v p all in
    let x = deepest hs in
    let s : k.0 + suc x ≡ suc x + k.0 = omega arith in
    let w : whole (suc x) hs p ≡ store.known v = deep_more k.0 (suc x) hs p (omega arith) ∙ ap (λ n. whole n hs p) s ∙ more_depth hs hc (suc x) k.0 p v k.1 in
    let allowed = (facts_grow hs hs hc hc (λ p sh h. h)).allowed p (shape_of v) (in_kept hs (fact p (shape_of v)) hc (own_fact p v hs all)) in
    ap₂ (λ b o. cond b absent (limited o)) allowed w ∙ cond-true (is_within_list_limit v) (store.value v) store.too_long small

reaches_path : (facts : List Fact) (r : Reached PlaceFound) (p : Path) → place_reached facts r ≡ found.path p → (c : ℕ) × (r ≡ reaches (at_path p) c)
reaches_path facts (reaches x c) p e = (c, ap (λ y. reaches y c) (path_same facts x c p e))
reaches_path facts (stops (waits q)) p e = absurd (cc e)
reaches_path facts (stops (faults k)) p e = absurd (cc e)
reaches_path facts (stops (passes k)) p e = absurd (cc e)

sooner : (facts : List Fact) (r r' : Reached PlaceFound) (p : Path) (c : ℕ) → More is_limit r r' → r' ≡ reaches (at_path p) c → (IsOver (outcome_reached (with_reached r (ev.size_at facts))) → ⊥) → r ≡ reaches (at_path p) c
sooner facts (reaches x d) r' p c m e o = sym m ∙ e
sooner facts (stops (waits q)) r' p c m e o = absurd (let z : stops (waits q) ≡ reaches (at_path p) c = sym m ∙ e in cc)
sooner facts (stops (faults k)) r' p c m e o = absurd (let z : stops (faults k) ≡ reaches (at_path p) c = sym m ∙ e in cc)
sooner facts (stops (passes k)) r' p c m e o = absurd (o tt)

module _ (defs : List Definition) (fs gs hs : List Fact) (fc : NoClash fs) (gc : NoClash gs) (hc : NoClash hs) (one : KnowsMore fs gs) (two : KnowsMore gs hs) (env : Bindings) where
  three : KnowsMore fs hs
  three p sh h = two p sh (one p sh h)

  place_set : (e : ExprTree) → is_place e ≡ true → (x : Target) (v : Tree) → target_at value_at (place_outcome fs defs e env) ≡ Some x → ((f : Fact) → In f (target_facts x v) → In f hs) → IsWithinListLimit v
      → outcome hs defs e env ≡ found.value v
  unfolding outcome place_outcome
  place_set e pl x v h all small =
      let s = some_path value_at (place_outcome fs defs e env) x h in
      let g = (outcomes_grow fs hs fc hc three defs e env).1 in
      let t : place_outcome hs defs e env ≡ found.path s.0 = subst (λ o. GrownPlace o (place_outcome hs defs e env)) s.1 g in
      let r = reaches_path hs (find_place hs defs depth_limit e env 0) s.0 t in
      let facts : (f : Fact) → In f (facts_at s.0 v) → In f hs = subst (λ (y : Target). (f : Fact) → In f (target_facts y v) → In f hs) (sym s.2) all in
      ap outcome_reached (read_place hs defs 1999 e env 0 pl ∙ ap (λ o. with_reached o (ev.value_at hs)) r.1) ∙ ap (λ o. outcome_reached (of_full o r.0)) (full_from hs hc s.0 v facts small)

  size_set : (e : ExprTree) → is_place e ≡ true → (x : Target) (v : Tree) → target_at length_at (place_outcome fs defs e env) ≡ Some x → (IsOver (outcome fs defs (size e) env) → ⊥) → Settable x v
      → ((f : Fact) → In f (target_facts x v) → In f hs) → outcome hs defs (size e) env ≡ found.value v
  unfolding outcome place_outcome
  size_set e pl x v h over ok all =
      let s = some_path length_at (place_outcome fs defs e env) x h in
      let r = reaches_path fs (find_place fs defs depth_limit e env 0) s.0 s.1 in
      let q = sooner fs (find_place fs defs 1999 e env 0) (find_place fs defs 2000 e env 0) s.0 r.0 ((evaluate_deeper fs defs 1999).1 e env 0) r.1 (λ o. over (subst (λ (y : Reached Tree). IsOver (outcome_reached y)) (sym (read_size fs defs 1999 e env 0 pl)) o)) in
      let m : find_place hs defs 1999 e env 0 ≡ reaches (at_path s.0) r.0 = subst (λ (y : Reached PlaceFound). More is_wait y (find_place hs defs 1999 e env 0)) q ((evaluate_more fs hs three (facts_grow fs hs fc hc three) defs 1999).1 e env 0) in
      ap outcome_reached (read_size hs defs 1999 e env 0 pl ∙ ap (λ o. with_reached o (ev.size_at hs)) m) ∙ here s.0 r.0 v (subst (λ (y : Target). Settable y v) (sym s.2) ok) (subst (λ (y : Target). (f : Fact) → In f (target_facts y v) → In f hs) (sym s.2) all)
    where
      here : (p : Path) (c : ℕ) (v : Tree) → Settable (length_at p) v → ((f : Fact) → In f (target_facts (length_at p) v) → In f hs) → outcome_reached (ev.size_at hs (at_path p) c) ≡ found.value v
      here p c (num (pos n)) ok all =
          let k = in_kept hs (fact p (Items n)) hc (all _ (inl refl)) in
          let a = (facts_grow hs hs hc hc (λ p sh h. h)).allowed p (Items n) k in
          ap₂ (λ b o. outcome_reached ((if b then fault NoElement else length_in p o) c)) a k
      here p c t ok all = elim ok [ ]

  module _ (inputs : InputTable) (state : ℕ) where
    abbrev Knows : ExprTree → Type 0
    Knows e = SideKnows gs hs (side_of defs fs e env).target (side_of defs fs e env).found (side_of defs gs e env).target (side_of defs gs e env).found (outcome hs defs e env)

    made : (e : ExprTree) → ((x : Target) (v : Tree) → (side_of defs fs e env).target ≡ Some x → (IsOver (side_of defs fs e env).found → ⊥) → Settable x v → ((f : Fact) → In f (target_facts x v) → In f hs) → IsWithinListLimit v → outcome hs defs e env ≡ found.value v) → Knows e
    made e h = record { sides = side_grows defs fs gs fc gc one env inputs state e; grown = (outcomes_grow gs hs gc hc two defs e env).0; set = h }

    no_target : (e : ExprTree) → (side_of defs fs e env).target ≡ None → Knows e
    no_target e n = made e (λ x v h. absurd (let z : None ≡ Some x = sym n ∙ h in cc))

    by_size : (e : ExprTree) (b : Bool) → is_place e ≡ b → (x : Target) (v : Tree) → target_if defs fs b length_at e env ≡ Some x → (IsOver (outcome fs defs (size e) env) → ⊥) → Settable x v → ((f : Fact) → In f (target_facts x v) → In f hs) → outcome hs defs (size e) env ≡ found.value v
    by_size e true p x v h o ok all = size_set e p x v h o ok all
    by_size e false p x v h o ok all = absurd (cc h)

    by_value : (e : ExprTree) (b : Bool) → is_place e ≡ b → (x : Target) (v : Tree) → target_if defs fs b value_at e env ≡ Some x → ((f : Fact) → In f (target_facts x v) → In f hs) → IsWithinListLimit v → outcome hs defs e env ≡ found.value v
    by_value e true p x v h all small = place_set e p x v h all small
    by_value e false p x v h all small = absurd (cc h)

    pub side_knows : (e : ExprTree) → Knows e
    side_knows (size e) = made (size e) (λ x v h o ok all small. by_size e (is_place e) refl x v h o ok all)
    side_knows (index e i) = made (index e i) (λ x v h o ok all small. by_value (index e i) (is_place e) refl x v h all small)
    side_knows (bound i) = made (bound i) (λ x v h o ok all small. by_value (bound i) true refl x v h all small)
    side_knows (global x) = made (global x) (λ y v h o ok all small. by_value (global x) true refl y v h all small)
    side_knows e = no_target e refl
