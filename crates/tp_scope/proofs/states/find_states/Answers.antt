use Rattle.std.proofs.Common.{refl, ap, ap₂, sym, subst, ◌∙◌, ◌≡◌, ◌<◌, ◌+◌, ◌++◌, ◌∷◌, ◌↔◌, ℕ, Bool, true, false, Some, List, [], map, drop, drop-cons, add-one, set, length, get_or, slice_get, Global, arith}
use Rattle.std.proofs.lemmas.List.{length-map, length_push, drop_all}
use Rattle.std.proofs.lemmas.Option.{slice_get-map, slice_get_read, get_or_from_slice_get}
use Rattle.std.specs.List.{Contains, count_by}
use Rattle.std.specs.Option.{option_map}
use Rattle.std.specs.declared.vec.Vec.{Vec}
use Rattle.tp_tree.specs.Tree.{DefinitionTree}
use Rattle.tp_tree.specs.Read.{definition_tree}
use Rattle.tp_scope.specs.Callers.{number_lists}
use Rattle.tp_scope.proofs.Spreading.{Progress, started, taken, passed, added, gone, finished, called_is, caller_is, one_fewer}
use Rattle.tp_scope.proofs.states.find_states.Goals.{then-index+in_ok-push, else-index}
use Rattle.tp_scope.proofs.states.find_states.Goals as goal

next_is : (xs : List ℕ) (i : ℕ) → i < length xs → drop i xs ≡ get_or xs i 0 ∷ drop (i + 1) xs
next_is xs i l = drop-cons xs i 0 l ∙ ap (λ j. get_or xs i 0 ∷ drop j xs) (sym (add-one i))

pub loop-called-init : goal.loop-called-init
loop-called-init c =
    let states : List Bool = c.in_ok-states.states.items in
    let work : List ℕ = c.in_ok-work.work.items in
    started (map definition_tree c.args.definitions.now.items.items) states work c.in_ok-states.ensures (subst (λ bs. (i : ℕ) → Contains work i ↔ (slice_get bs i ≡ Some false)) c.deref.ensures.value c.in_ok-work.ensures)

-- the callers that are left, the next of them apart
next_progress : (ds : List DefinitionTree) (states : List Bool) (work : List ℕ) (at : ℕ) (xs : List ℕ) (i : ℕ) → i < length xs → Progress ds states work at (drop i xs) → Progress ds states work at (get_or xs i 0 ∷ drop (i + 1) xs)
next_progress ds states work at xs i l p = subst (λ rest. Progress ds states work at rest) (next_is xs i l) p

-- the next of them is the number of a definition
caller_here : (ds : List DefinitionTree) (states : List Bool) (work : List ℕ) (at : ℕ) (xs : List ℕ) (i : ℕ) → i < length xs → Progress ds states work at (drop i xs) → get_or xs i 0 < length states
caller_here ds states work at xs i l p = caller_is ds states work at (get_or xs i 0) (drop (i + 1) xs) (next_progress ds states work at xs i l p)

none_at_all : (xs : List ℕ) → length xs ≡ 0 → xs ≡ []
none_at_all [] e = refl
none_at_all (x ∷ xs) e = absurd (omega (arith, e))

pub index-requires : goal.index-requires
index-requires c =
    let ds : List DefinitionTree = map definition_tree c.args.definitions.now.items.items in
    let states : List Bool = c.loop-called.states.items in
    let callers : List (Vec ℕ Global) = c.in_ok-callers.callers.items in
    let p = subst (λ work. Progress ds states work 0 []) c.in-Some.ensures.items c.loop-called.invariant in
    omega (arith, called_is ds states c.pop.new.self.items 0 c.in-Some.called [] p, c.in_ok-callers.ensures.each, length-map callers (λ (v : Vec ℕ Global). v.items), c.in_ok-callers.callers.ok.0)

pub loop-caller-init : goal.loop-caller-init
loop-caller-init c =
    let ds : List DefinitionTree = map definition_tree c.args.definitions.now.items.items in
    let states : List Bool = c.loop-called.states.items in
    let vs : List (Vec ℕ Global) = c.in_ok-callers.callers.items in
    let j = c.in-Some.called in
    let xs : List ℕ = c.deref-caller-items.result.now in
    let p : Progress ds states (c.pop.new.self.items ++ j ∷ []) 0 [] = subst (λ work. Progress ds states work 0 []) c.in-Some.ensures.items c.loop-called.invariant in
    let within : j < length vs = omega (arith, called_is ds states c.pop.new.self.items 0 j [] p, c.in_ok-callers.ensures.each, length-map vs (λ (v : Vec ℕ Global). v.items)) in
    let is : slice_get (number_lists vs) j ≡ Some xs =
    slice_get-map (λ (v : Vec ℕ Global). v.items) vs j ∙ (ap (option_map (λ (v : Vec ℕ Global). v.items)) (slice_get_read vs (length vs) j c.index.result.now refl within c.index.ensures) ∙ ap Some (sym c.deref-caller-items.ensures.value)) in
    record {
      progress = taken ds (number_lists vs) states c.pop.new.self.items 0 j xs c.in_ok-callers.ensures is p;
      count = refl;
    }

pub loop-called-preserved : goal.loop-called-preserved
loop-called-preserved c =
    let ds : List DefinitionTree = map definition_tree c.args.definitions.now.items.items in
    let states : List Bool = c.loop-caller.states.items in
    let work : List ℕ = c.loop-caller.work.items in
    gone ds states work c.in-Some.called
    (subst (λ rest. Progress ds states work c.in-Some.called rest) (drop_all c.loop-caller.caller-index c.deref-caller-items.result.now c.loop-caller-test.false) c.loop-caller.invariant.progress)

pub index-requires-in-loop-caller : goal.index-requires-in-loop-caller
index-requires-in-loop-caller c =
    omega (arith, caller_here (map definition_tree c.args.definitions.now.items.items) c.loop-caller.states.items c.loop-caller.work.items c.in-Some.called c.deref-caller-items.result.now c.loop-caller.caller-index c.loop-caller-test.true c.loop-caller.invariant.progress, c.loop-caller.states.ok.0)

pub index_mut-requires : goal.index_mut-requires
index_mut-requires c =
    omega (arith, caller_here (map definition_tree c.args.definitions.now.items.items) c.loop-caller.states.items c.loop-caller.work.items c.in-Some.called c.deref-caller-items.result.now c.loop-caller.caller-index c.loop-caller-test.true c.loop-caller.invariant.progress, c.loop-caller.states.ok.0)

pub loop-caller-preserved : goal.loop-caller-preserved
loop-caller-preserved c =
    let ds : List DefinitionTree = map definition_tree c.args.definitions.now.items.items in
    let states : List Bool = c.loop-caller.states.items in
    let work : List ℕ = c.loop-caller.work.items in
    let xs : List ℕ = c.deref-caller-items.result.now in
    let i = c.loop-caller.caller-index in
    let at = c.in-Some.called in
    let x = get_or xs i 0 in
    let rest = drop (i + 1) xs in
    let p = next_progress ds states work at xs i c.loop-caller-test.true c.loop-caller.invariant.progress in
    let within = caller_is ds states work at x rest p in
    let here : slice_get states x ≡ Some c.index-in-loop-caller.result.now = slice_get_read states (length states) x c.index-in-loop-caller.result.now refl within c.index-in-loop-caller.ensures in
    elim c.if-index.branch [
      | then-index+in_ok-push w ↦
          let now_states : c.if-index.states.items ≡ set states x false = ap (λ (v : Vec Bool Global). v.items) w.states-is in
          let now_work : c.if-index.work.items ≡ work ++ x ∷ [] = ap (λ (v : Vec ℕ Global). v.items) w.work-is ∙ w.in_ok-push.ensures.items in
          let was_true : get_or states x false ≡ true = get_or_from_slice_get states x true false (here ∙ ap Some w.if-index.true) in
          record {
            progress = subst (λ bs. Progress ds bs c.if-index.work.items at rest) (sym now_states) (subst (λ ns. Progress ds (set states x false) ns at rest) (sym now_work) (added ds states work at x rest p));
            count = omega (arith, ap (count_by (λ b. b)) now_states, ap length now_work, length_push work x, one_fewer states x within was_true, c.loop-caller.invariant.count);
          }
      | else-index w ↦
          let now_states : c.if-index.states.items ≡ states = ap (λ (v : Vec Bool Global). v.items) w.states-is in
          let now_work : c.if-index.work.items ≡ work = ap (λ (v : Vec ℕ Global). v.items) w.work-is in
          record {
            progress = subst (λ bs. Progress ds bs c.if-index.work.items at rest) (sym now_states) (subst (λ ns. Progress ds states ns at rest) (sym now_work) (passed ds states work at x rest (here ∙ ap Some w.if-index.false) p));
            count = ap₂ (λ bs ns. count_by (λ b. b) bs + length ns) now_states now_work ∙ c.loop-caller.invariant.count;
          }
    ]

pub returns : goal.returns
returns c =
    let ds : List DefinitionTree = map definition_tree c.args.definitions.now.items.items in
    let states : List Bool = c.loop-called.states.items in
    let work : List ℕ = c.loop-called.work.items in
    let none : work ≡ [] = none_at_all work (omega (arith, c.in_default.ensures.cases.0, c.loop-called.work.ok.0)) in
    finished ds states 0 (subst (λ ns. Progress ds states ns 0 []) none c.loop-called.invariant)
