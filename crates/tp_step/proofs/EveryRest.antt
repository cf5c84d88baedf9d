-- What every list of picks comes to, by what a closure answers.
use Rattle.std.proofs.Common.{◌≡◌, ◌⊎◌, inl, inr, ℕ, ◌+◌, ◌≤◌, ◌<◌, Bool, List, [], ◌∷◌, length, sym, subst, arith, length-append}
use Rattle.tp_kernel.specs.declared.fault.LimitKind.{LimitKind}
use Rattle.tp_kernel.specs.declared.fault.LimitKind.TheVariants as limit
use Rattle.tp_scene.specs.Step.{Reduction, PickOutcome, reduces, clashes, misses, passes}
use Rattle.tp_scene.specs.Pick.{Setting, Moment, Leads, IsIdle}
use Rattle.tp_scene.specs.Rest.{AtRest}
use Rattle.tp_step_laws.specs.Rows.{IsFailure}
use Rattle.tp_step_laws.specs.Orders.{IsOrderly, GoesOnToRest}
use Rattle.tp_step_laws.proofs.CloseOneWay.{leads_orderly, states_close_one_way}
use Rattle.tp_step_laws.proofs.Rest.{one_rest_of}
use Rattle.tp_step.specs.Closes.{Meets, ClosureEnds, ClosureAnswers}
use Rattle.tp_step.specs.EveryRest.{HasOneRest, NeverRests, RestsBeyond, EveryRest, ClosureCommutes}
use Rattle.tp_step.specs.declared.ending.Ending.{Ending}
use Rattle.tp_step.specs.declared.ending.Ending.TheVariants.{Rest, Clash, Missing, Over}

module _ (w : Setting) (kinds : List Bool) (room : ℕ) (m last : Moment) (orderly : IsOrderly w kinds m) (picks : List ℕ) (leads : Leads w m picks last) where
  one_rest : length picks ≤ room → AtRest w last → HasOneRest w kinds room m last (length picks)
  one_rest within rest = record {
    goes_on = λ so_far there way. one_rest_of w kinds m last there picks so_far orderly leads rest way;
    one_way = λ n on alike. states_close_one_way w kinds room m n picks last orderly on alike (record { leads = leads; within = within; rest = rest });
  }

  -- what came to rest would have met no failure
  never_rests : (o : PickOutcome) → IsFailure o → Meets w last o → NeverRests w m
  never_rests o fails h qs end way rest =
      (one_rest_of w kinds m end last qs picks orderly way rest leads).safe h.0 (h.1, subst (λ (x : PickOutcome). IsFailure x) (sym h.2) fails)

  -- and goes on from where an item has a step
  one_more : (r : Reduction) → Meets w last (reduces r) → (end : Moment) (most : ℕ) (g : GoesOnToRest w (length kinds) most end picks last) (more : List ℕ) → Leads w last more g.last
      → length picks + length more ≡ most → length picks < most
  one_more r h end most g [] way count = absurd (subst (λ (o : PickOutcome). IsIdle o) h.2 (subst (λ (x : Moment). AtRest w x) way g.rest h.0 h.1))
  one_more r h end most g (t ∷ ts) way count = omega (arith, count)

  rests_beyond : (r : Reduction) → room ≡ length picks → Meets w last (reduces r) → RestsBeyond w room m
  rests_beyond r all h qs end way rest =
      let g = one_rest_of w kinds m end last qs picks orderly way rest leads in
      let less : length picks < length qs = one_more r h end (length qs) g g.more g.leads g.count in omega (arith, all, less)

  -- another limit than that on reductions is passed by an item
  abbrev EndsOver : LimitKind → ℕ → Type 0
  EndsOver k left = Meets w last (passes k) ⊎ ((k ≡ limit.Reductions) × (left ≡ 0) × ((r : Reduction) × Meets w last (reduces r)))

  over_never : (k : LimitKind) (left : ℕ) → (k ≡ limit.Reductions → ⊥) → EndsOver k left → NeverRests w m
  over_never k left another (inl h) = never_rests (passes k) tt h
  over_never k left another (inr h) = absurd (another h.0)

  over_beyond : (left : ℕ) → room ≡ left + length picks → EndsOver limit.Reductions left → RestsBeyond w room m
  over_beyond left spent (inl h) = λ qs end way rest. absurd (never_rests (passes limit.Reductions) tt h qs end way rest)
  over_beyond left spent (inr h) = let none = h.1 in rests_beyond h.2.0 (omega (arith, spent, none)) h.2.1

  every_rest : (left : ℕ) → room ≡ left + length picks → (ending : Ending) → ClosureEnds w left last ending → EveryRest w kinds room m last (length picks) ending
  every_rest left spent Rest ends = one_rest (omega (arith, spent)) ends
  every_rest left spent (Clash clash) ends = never_rests (clashes clash) tt ends
  every_rest left spent (Missing port) ends = never_rests (misses port) tt ends
  every_rest left spent (Over limit.Reductions) ends = over_beyond left spent ends
  every_rest left spent (Over limit.Number) ends = over_never limit.Number left (λ e. cc) ends
  every_rest left spent (Over limit.List) ends = over_never limit.List left (λ e. cc) ends
  every_rest left spent (Over limit.Calls) ends = over_never limit.Calls left (λ e. cc) ends
  every_rest left spent (Over limit.Nest) ends = over_never limit.Nest left (λ e. cc) ends

pub closures_commute : (w : Setting) (room : ℕ) (m last : Moment) (before after : List ℕ) (ending : Ending) → ClosureAnswers w room m last before after ending → ClosureCommutes w room m last before after ending
closures_commute w room m last before after ending h kinds orderly =
    let made = h.made in
    record {
      orderly = leads_orderly w kinds made.picks m last orderly made.leads;
      every = λ picks count.
          (let all : length after ≡ length before + length made.picks = subst (λ (xs : List ℕ). length xs ≡ length before + length made.picks) (sym made.appended) (length-append before made.picks) in
          let same : length made.picks ≡ picks = omega (arith, count, all) in
          subst (λ (n : ℕ). EveryRest w kinds room m last n ending) same (every_rest w kinds room m last orderly made.picks made.leads h.left made.spent ending h.ends));
    }
