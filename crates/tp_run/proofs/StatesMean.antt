-- What the states of a run say of every interval.
use Rattle.std.proofs.Common.{◌≡◌, ◌↔◌, ℕ, suc, ◌+◌, ◌<◌, ◌≤◌, Bool, List, [], ◌∷◌, length, refl, ap, sym, ◌∙◌, subst, arith}
use Rattle.tp_value.specs.Tree.{Tree}
use Rattle.tp_value.specs.declared.path.Fact.{Fact}
use Rattle.tp_meaning.specs.Course.{Course, Shows, ◌⊕◌, shown_at}
use Rattle.tp_meaning.specs.Interval.{kinds_of, KeepsLasting}
use Rattle.tp_value.specs.declared.path.Path.{Path}
use Rattle.tp_store.specs.Facts.{AgreesWithAll, kept_shape}
use Rattle.tp_store.specs.Known.{facts_below, NoClash}
use Rattle.tp_decide.specs.Read.{shows_of}
use Rattle.tp_scene.specs.Step.{Reduction}
use Rattle.tp_scene.specs.Pick.{Setting, Moment, Reduces, Leads}
use Rattle.tp_scene.specs.Rest.{settled, goes}
use Rattle.tp_scene.specs.Advance.{advanced, shown_in, StoreGoesOn as GoesOnTo}
use Rattle.tp_scene.specs.StandsFor.{StandsFor}
use Rattle.tp_scene.specs.Laws.{IsSound, StepsKeep, AdvancesKeep, EndsStand}
use Rattle.tp_meaning.proofs.Shows.{join-assoc as join_assoc}
use Rattle.tp_show.specs.declared.turn.Picture.{Picture}
use Rattle.tp_run.specs.History.{Plan, globals_of, setting, AreGlobals, StateGoesOn, StateEnds, StatesLead, AgreesWithFacts, AgreesWithPictures, shown_from}

-- the laws of scenes, as runs need them
pub record SceneLaws : Type 0 where
  pub steps_keep : StepsKeep
  pub steps_sound : (w : Setting) (kinds : List Bool) (m : Moment) (t : ℕ) (r : Reduction) (next : Moment) → IsSound w kinds m → Reduces w m t r next → IsSound w kinds next
  pub advances_keep : AdvancesKeep
  pub advances_sound : (w : Setting) (kinds : List Bool) (m next : Moment) → IsSound w kinds m → settled m.scene ≡ goes → next.scene ≡ advanced m.scene → GoesOnTo m.store next.store
      → (own : ℕ) → IsSound (record { defs = w.defs; inputs = w.inputs; state = own }) kinds next
  pub ends_stand : EndsStand
  -- facts in any order: the same shapes, the same agreement
  pub same_agreement : (fs gs : List Fact) (values : ℕ → Tree) → NoClash fs → NoClash gs → ((p : Path) → kept_shape fs p ≡ kept_shape gs p) → AgreesWithAll values fs → AgreesWithAll values gs
  pub below_no_clash : (n : ℕ) (fs : List Fact) → NoClash fs → NoClash (facts_below n fs)

-- what a moment stands for doesn't hang on the state's own number
pub stands_again : (plan : Plan) (n k : ℕ) (globals : ℕ) (m : Moment) (s : Course) (a b : ℕ) (S : Shows) → StandsFor (setting plan n) globals m s a b S → StandsFor (setting plan k) globals m s a b S
stands_again plan n k globals m s a b S h = record { in_order = h.in_order; locals = h.locals; last = h.last; agrees = h.agrees; depth = h.depth; says = h.says }

-- the states from position a to b have the numbers n, n + 1, ..
abbrev pub Numbered : ℕ → Course → ℕ → ℕ → Type 0
Numbered n s a b = (j : ℕ) → j + a ≤ b → (s (j + a)).own ≡ j + n

pub first_number : (n : ℕ) (s : Course) (a b : ℕ) → Numbered n s a b → a ≤ b → (s a).own ≡ n
first_number n s a b h le = let at : 0 + a ≡ a = omega arith in let is : 0 + n ≡ n = omega arith in ap (λ i. (s i).own) (sym at) ∙ h 0 (omega arith) ∙ is

pub later_numbers : (n : ℕ) (s : Course) (a b : ℕ) → Numbered n s a b → Numbered (suc n) s (suc a) b
later_numbers n s a b h j le = let at : j + suc a ≡ suc j + a = omega arith in let is : suc j + n ≡ j + suc n = omega arith in ap (λ i. (s i).own) at ∙ h (suc j) (omega arith) ∙ is

pub later_lasting : (kinds : List Bool) (s : Course) (a b : ℕ) → KeepsLasting kinds s a b → KeepsLasting kinds s (suc a) b
later_lasting kinds s a b h x e i j ai ib aj jb = h x e i j (omega arith) ib (omega arith) jb

module _ (laws : SceneLaws) where
  -- the picks of one state
  pub leads_sound : (w : Setting) (kinds : List Bool) (picks : List ℕ) (m last : Moment) → IsSound w kinds m → Leads w m picks last → IsSound w kinds last
  leads_sound w kinds [] m last sound h = subst (IsSound w kinds) (sym h) sound
  leads_sound w kinds (t ∷ ts) m last sound h = leads_sound w kinds ts h.1 last (laws.steps_sound w kinds m t h.0 h.1 sound h.2) h.3

  pub leads_keep : (w : Setting) (kinds : List Bool) (picks : List ℕ) (m last : Moment) → IsSound w kinds m → Leads w m picks last
      → (s : Course) (a b : ℕ) (S : Shows) → (s a).own ≡ w.state → StandsFor w (length kinds) m s a b S ↔ StandsFor w (length kinds) last s a b S
  leads_keep w kinds [] m last sound h s a b S own =
      (λ g. subst (λ (z : Moment). StandsFor w (length kinds) z s a b S) (sym h) g, λ g. subst (λ (z : Moment). StandsFor w (length kinds) z s a b S) h g)
  leads_keep w kinds (t ∷ ts) m last sound h s a b S own =
      let one = laws.steps_keep w kinds m t h.0 h.1 sound h.2 s a b S own in
      let rest = leads_keep w kinds ts h.1 last (laws.steps_sound w kinds m t h.0 h.1 sound h.2) h.3 s a b S own in
      (λ g. rest.0 (one.0 g), λ g. one.1 (rest.1 g))

  -- the facts of a picture say what those of the store say of the globals
  pub picture_agrees : (globals : ℕ) (kept facts : List Fact) → NoClash kept → AreGlobals globals kept facts → (values : ℕ → Tree)
      → AgreesWithAll values (facts_below globals kept) ↔ AgreesWithAll values facts
  picture_agrees globals kept facts apart are values =
      let below = laws.below_no_clash globals kept apart in (
        laws.same_agreement (facts_below globals kept) facts values below are.no_clash (λ p. sym (are.same p)),
        laws.same_agreement facts (facts_below globals kept) values are.no_clash below are.same,
      )

  -- one state that goes on
  pub goes_on_says : (plan : Plan) (n : ℕ) (m next : Moment) (p : Picture) → IsSound (setting plan n) (kinds_of plan.program.globals) m → StateGoesOn plan n m p next
      → (s : Course) (a b : ℕ) (S : Shows) → KeepsLasting (kinds_of plan.program.globals) s a b → (s a).own ≡ n
      → StandsFor (setting plan n) (globals_of plan) m s a b S
      ↔ ((a < b) × AgreesWithFacts s a p.facts × ((U : Shows) × (S ≡ shown_at a (shows_of p.shows) ⊕ U) × StandsFor (setting plan (suc n)) (globals_of plan) next s (suc a) b U))
  goes_on_says plan n m next p sound g s a b S lasting own =
      let w = setting plan n in
      let kinds = kinds_of plan.program.globals in
      let here = leads_sound w kinds g.picks m g.last sound g.goes.closes.leads in
      let keep = leads_keep w kinds g.picks m g.last sound g.goes.closes.leads s a b S own in
      let go = laws.advances_keep w kinds g.last next here g.goes.settles g.goes.scene g.goes.store s a b S lasting in
      let facts = picture_agrees (globals_of plan) g.last.store.facts p.facts here.store.no_clash g.picture_is.facts (s a).values in
      let shows : shown_at a (shows_of p.shows) ≡ shown_at a (shown_in g.last.scene.root.entries) = ap (shown_at a) g.picture_is.shows in (
        λ h. let x = go.0 (keep.0 h) in
            (x.0, facts.0 x.1, (x.2.0, x.2.1 ∙ ap (λ (T : Shows). T ⊕ x.2.0) (sym shows), stands_again plan n (suc n) (globals_of plan) next s (suc a) b x.2.0 x.2.2)),
        λ h. keep.1 (go.1 (h.0, facts.1 h.1, (h.2.0, h.2.1 ∙ ap (λ (T : Shows). T ⊕ h.2.0) shows, stands_again plan (suc n) n (globals_of plan) next s (suc a) b h.2.0 h.2.2))),
      )

  -- one that ends the interval
  pub ends_here_says : (plan : Plan) (n : ℕ) (m : Moment) (p : Picture) → IsSound (setting plan n) (kinds_of plan.program.globals) m → StateEnds plan n m p
      → (s : Course) (a b : ℕ) (S : Shows) → (s a).own ≡ n
      → StandsFor (setting plan n) (globals_of plan) m s a b S ↔ ((a ≡ b) × AgreesWithFacts s a p.facts × (S ≡ shown_at a (shows_of p.shows)))
  ends_here_says plan n m p sound g s a b S own =
      let w = setting plan n in
      let kinds = kinds_of plan.program.globals in
      let here = leads_sound w kinds g.picks m g.last sound g.ends.closes.leads in
      let keep = leads_keep w kinds g.picks m g.last sound g.ends.closes.leads s a b S own in
      let end = laws.ends_stand w kinds g.last here g.ends.settles s a b S in
      let facts = picture_agrees (globals_of plan) g.last.store.facts p.facts here.store.no_clash g.picture_is.facts (s a).values in
      let shows : shown_at a (shows_of p.shows) ≡ shown_at a (shown_in g.last.scene.root.entries) = ap (shown_at a) g.picture_is.shows in (
        λ h. let x = end.0 (keep.0 h) in (x.0, facts.0 x.1, x.2 ∙ sym shows),
        λ h. keep.1 (end.1 (h.0, facts.1 h.1, h.2 ∙ shows)),
      )

  pub next_sound : (plan : Plan) (n : ℕ) (m next : Moment) (p : Picture) → IsSound (setting plan n) (kinds_of plan.program.globals) m → StateGoesOn plan n m p next → (own : ℕ) → IsSound (setting plan own) (kinds_of plan.program.globals) next
  next_sound plan n m next p sound g own =
      let w = setting plan n in
      laws.advances_sound w (kinds_of plan.program.globals) g.last next (leads_sound w (kinds_of plan.program.globals) g.picks m g.last sound g.goes.closes.leads) g.goes.settles g.goes.scene g.goes.store own

  pub lead_sound : (plan : Plan) (n k : ℕ) (ps : List Picture) (m last : Moment) → k ≡ length ps + n → IsSound (setting plan n) (kinds_of plan.program.globals) m → StatesLead plan n m ps last → IsSound (setting plan k) (kinds_of plan.program.globals) last
  lead_sound plan n k [] m last e sound h =
      let same : n ≡ k = omega (arith, e) in
      subst (λ i. IsSound (setting plan i) (kinds_of plan.program.globals) last) same (subst (IsSound (setting plan n) (kinds_of plan.program.globals)) (sym h) sound)
  lead_sound plan n k (p ∷ ps) m last e sound h = lead_sound plan (suc n) k ps h.0 last (omega (arith, e)) (next_sound plan n m h.0 p sound h.1 (suc n)) h.2

  -- several states
  pub states_say : (plan : Plan) (n k : ℕ) (ps : List Picture) (m last : Moment) → k ≡ length ps + n → IsSound (setting plan n) (kinds_of plan.program.globals) m → StatesLead plan n m ps last
      → (s : Course) (a b c : ℕ) (S : Shows) → c ≡ length ps + a → KeepsLasting (kinds_of plan.program.globals) s a b → Numbered n s a b
      → StandsFor (setting plan n) (globals_of plan) m s a b S
      ↔ ((c ≤ b) × AgreesWithPictures s a ps × ((U : Shows) × (S ≡ shown_from a ps ⊕ U) × StandsFor (setting plan k) (globals_of plan) last s c b U))
  states_say plan n k [] m last e sound h s a b c S at lasting numbered =
      let here : c ≡ a = omega (arith, at) in
      let same : k ≡ n = omega (arith, e) in
      let G = globals_of plan in (
        λ g. (
          omega (arith, g.in_order),
          tt,
          (S, refl, subst (λ i. StandsFor (setting plan k) G last s i b S) (sym here) (stands_again plan n k G last s a b S (subst (λ (z : Moment). StandsFor (setting plan n) G z s a b S) (sym h) g))),
        ),
        λ g. subst (λ (z : Moment). StandsFor (setting plan n) G z s a b S) h
            (subst (λ (T : Shows). StandsFor (setting plan n) G last s a b T) (sym g.2.1) (stands_again plan k n G last s a b g.2.0 (subst (λ i. StandsFor (setting plan k) G last s i b g.2.0) here g.2.2))),
      )
  states_say plan n k (p ∷ ps) m last e sound h s a b c S at lasting numbered =
      let place : c ≡ length ps + suc a = omega (arith, at) in
      let number : k ≡ length ps + suc n = omega (arith, e) in
      let later = next_sound plan n m h.0 p sound h.1 (suc n) in
      let rest = λ (U : Shows). states_say plan (suc n) k ps h.0 last number later h.2 s (suc a) b c U place (later_lasting (kinds_of plan.program.globals) s a b lasting) (later_numbers n s a b numbered) in
      let one = λ (le : a ≤ b). goes_on_says plan n m h.0 p sound h.1 s a b S lasting (first_number n s a b numbered le) in (
        λ g.
            let x = (one g.in_order).0 g in
            let y = (rest x.2.0).0 x.2.2 in
            (y.0, (x.1, y.1), (y.2.0, x.2.1 ∙ ap (λ (T : Shows). shown_at a (shows_of p.shows) ⊕ T) y.2.1 ∙ sym (join_assoc (shown_at a (shows_of p.shows)) (shown_from (suc a) ps) y.2.0), y.2.2)),
        λ g.
            let less : a < b = omega (arith, g.0, at) in
            let V : Shows = shown_from (suc a) ps ⊕ g.2.0 in
            (one (omega arith)).1 (less, g.1.0, (V, g.2.1 ∙ join_assoc (shown_at a (shows_of p.shows)) (shown_from (suc a) ps) g.2.0, (rest V).1 (g.0, g.1.1, (g.2.0, refl, g.2.2)))),
      )
