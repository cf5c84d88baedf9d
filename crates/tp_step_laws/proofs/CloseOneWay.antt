-- Where some picks close a state, every list of picks goes on to that end.
use Rattle.std.proofs.Common.{◌≡◌, ℕ, suc, ◌+◌, Bool, true, List, [], ◌∷◌, length, refl, ap, sym, subst, arith}
use Rattle.tp_scene.specs.Scene.{has}
use Rattle.tp_scene.specs.Step.{PickOutcome, clashes, misses, passes}
use Rattle.tp_scene.specs.Pick.{Setting, Moment, Leads, outcome_of, IsIdle}
use Rattle.tp_scene.specs.Rest.{AtRest}
use Rattle.tp_scene.specs.Replay.{Closes, UsesUp}
use Rattle.tp_step_laws.specs.Rows.{IsFailure}
use Rattle.tp_step_laws.specs.Alike.{Alike}
use Rattle.tp_step_laws.specs.Orders.{IsOrderly, AlikeIsEquivalence, GoesOnToRest}
use Rattle.tp_step_laws.specs.States.{ClosesOneWay, StatesCloseOneWay}
use Rattle.tp_step_laws.proofs.Orderly.{steps_stay_orderly}
use Rattle.tp_step_laws.proofs.AlikeStep.{alike_moments_step}
use Rattle.tp_step_laws.proofs.Equivalence.{alike_is_equivalence}
use Rattle.tp_step_laws.proofs.Rest.{one_rest_of}

pub leads_orderly : (w : Setting) (kinds : List Bool) (ps : List ℕ) (m last : Moment) → IsOrderly w kinds m → Leads w m ps last → IsOrderly w kinds last
leads_orderly w kinds [] m last o h = subst (λ (x : Moment). IsOrderly w kinds x) (sym h) o
leads_orderly w kinds (t ∷ ts) m last o h = leads_orderly w kinds ts h.1 last (steps_stay_orderly w kinds m t h.0 h.1 o h.2) h.3

-- the same picks, renamed, from what is alike
leads_alike : (w : Setting) (kinds : List Bool) (ps : List ℕ) (m n last : Moment) → IsOrderly w kinds m → IsOrderly w kinds n → Alike (length kinds) m n → Leads w m ps last
    → (qs : List ℕ) × (end : Moment) × Leads w n qs end × (length qs ≡ length ps) × Alike (length kinds) last end
leads_alike w kinds [] m n last om on a h = ([], n, refl, refl, subst (λ (x : Moment). Alike (length kinds) x n) (sym h) a)
leads_alike w kinds (t ∷ ts) m n last om on a h =
    let s = (alike_moments_step w kinds m n a.0 om on a.1).steps t h.1 (h.0, h.2) in
    let r = leads_alike w kinds ts h.1 s.0 last (steps_stay_orderly w kinds m t h.0 h.1 om h.2) (steps_stay_orderly w kinds n (a.0.item.to t) s.1.0 s.0 on s.1.1) (a.0, s.2) h.3 in
    (a.0.item.to t ∷ r.0, r.1, (s.1.0, s.0, s.1.1, r.2), ap suc r.3, r.4)

-- no pick goes on from rest
none_more : (w : Setting) (ts : List ℕ) (m last : Moment) → AtRest w m → Leads w m ts last → (length ts ≡ 0) × (last ≡ m)
none_more w [] m last rest h = (refl, h)
none_more w (t ∷ ts) m last rest h = absurd (subst (λ (o : PickOutcome). IsIdle o) h.2.outcome (rest t h.2.lives))

module _ (w : Setting) (kinds : List Bool) (most : ℕ) (m n : Moment) (picks : List ℕ) (end : Moment) (om : IsOrderly w kinds m) (on : IsOrderly w kinds n) (a : Alike (length kinds) m n) (closes : Closes w most m picks end) where
  abbrev equivalence : AlikeIsEquivalence w kinds
  equivalence = alike_is_equivalence w kinds

  abbrev moved : (qs : List ℕ) × (last : Moment) × Leads w n qs last × (length qs ≡ length picks) × Alike (length kinds) end last
  moved = leads_alike w kinds picks m n end om on a closes.leads

  end_orderly : IsOrderly w kinds end
  end_orderly = leads_orderly w kinds picks m end om closes.leads

  moved_orderly : IsOrderly w kinds moved.1
  moved_orderly = leads_orderly w kinds moved.0 n moved.1 on moved.2

  moved_rest : AtRest w moved.1
  moved_rest = (alike_moments_step w kinds end moved.1 moved.4.0 end_orderly moved_orderly moved.4.1).rest closes.rest

  goes : (qs : List ℕ) (there : Moment) → Leads w n qs there → GoesOnToRest w (length kinds) (length moved.0) moved.1 qs there
  goes qs there h = one_rest_of w kinds n moved.1 there moved.0 qs on moved.2 moved_rest h

  count : (qs : List ℕ) (last : Moment) → Closes w most n qs last → length qs ≡ length picks
  count qs last c =
      let g = goes qs last c.leads in
      let x = none_more w g.more last g.last c.rest g.leads in
      let e = g.count in
      let f = moved.3 in
      let z = x.0 in omega (arith, e, f, z)

  alike : (qs : List ℕ) (last : Moment) → Closes w most n qs last → Alike (length kinds) end last
  alike qs last c =
      let g = goes qs last c.leads in
      let x = none_more w g.more last g.last c.rest g.leads in
      let b : Alike (length kinds) moved.1 last = subst (λ (y : Moment). Alike (length kinds) moved.1 y) x.1 g.alike in
      equivalence.on end moved.1 last end_orderly.sound moved_orderly.sound (leads_orderly w kinds qs n last on c.leads).sound moved.4 b

  fails : (qs : List ℕ) (last : Moment) (t : ℕ) (o : PickOutcome) → Leads w n qs last → has t last.scene.root.entries ≡ true → outcome_of w last.store last.scene t ≡ o → IsFailure o → ⊥
  fails qs last t o h live e f = (goes qs last h).safe t (live, subst (λ (x : PickOutcome). IsFailure x) (sym e) f)

  -- as many picks were made as there may be, and one more item has a step
  used_up : (u : UsesUp w most n) (g : GoesOnToRest w (length kinds) (length moved.0) moved.1 u.picks u.last) (more : List ℕ) → Leads w u.last more g.last → length u.picks + length more ≡ length moved.0 → ⊥
  used_up u g [] l e = subst (λ (o : PickOutcome). IsIdle o) u.outcome (subst (λ (x : Moment). AtRest w x) l g.rest u.item u.lives)
  used_up u g (t ∷ ts) l e = let a = u.all in let b = closes.within in let c = moved.3 in absurd (omega (arith, e, a, b, c))

  used : UsesUp w most n → ⊥
  used u = let g = goes u.picks u.last u.leads in used_up u g g.more g.leads g.count

  one_way : ClosesOneWay w (length kinds) most n (length picks) end
  one_way = record {
    can = (moved.0, moved.1, record { leads = moved.2; within = let b = closes.within in let c = moved.3 in omega (arith, b, c); rest = moved_rest });
    count = count;
    alike = alike;
    no_clash = λ clash x. fails x.picks x.last x.item (clashes clash) x.leads x.lives x.outcome tt;
    no_missing = λ port x. fails x.picks x.last x.item (misses port) x.leads x.lives x.outcome tt;
    no_limit = λ limit x. fails x.picks x.last x.item (passes limit) x.leads x.lives x.outcome tt;
    no_use_up = used;
  }

pub states_close_one_way : StatesCloseOneWay
states_close_one_way w kinds most m n picks end om on a closes = one_way w kinds most m n picks end om on a closes
