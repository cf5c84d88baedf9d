-- A run that finishes has an interval: static variables as the last state has them, each other value as its own state's facts ask.
use Rattle.std.proofs.Common.{◌≡◌, ℕ, zero, suc, ◌+◌, ◌≤◌, Bool, true, false, cond, List, [], ◌∷◌, ◌++◌, length, map, nat_lt, slice_get, Some, refl, sym, ◌∙◌, subst, arith}
use Rattle.tp_value.specs.Tree.{Tree}
use Rattle.tp_value.specs.declared.value.Shape.{Shape}
use Rattle.tp_value.specs.declared.path.Path.{Path}
use Rattle.tp_value.specs.declared.path.Fact.{Fact}
use Rattle.tp_meaning.specs.Course.{State, Course}
use Rattle.tp_meaning.specs.Interval.{kinds_of}
use Rattle.tp_store.specs.Facts.{same_path, kept_shape, fact, AgreesWithAll}
use Rattle.tp_store.specs.Known.{NoClash, Variable, AreOfVariables, lasting_facts, facts_below}
use Rattle.tp_store.proofs.Members.{in_filter, filter_in, kept_in, in_kept, agrees_in, agrees_from}
use Rattle.tp_scene.specs.Pick.{Setting, Moment, Leads}
use Rattle.tp_scene.specs.Laws.{IsSound}
use Rattle.tp_show.specs.declared.turn.Picture.{Picture}
use Rattle.tp_run.specs.History.{Plan, globals_of, setting, StateGoesOn, StatesLead, AgreesWithPictures}
use Rattle.tp_run.proofs.StatesMean.{SceneLaws, leads_sound, next_sound, picture_agrees}

-- what was kept is kept where more is appended
kept_front : (fs gs : List Fact) (p : Path) (sh : Shape) → kept_shape fs p ≡ Some sh → kept_shape (fs ++ gs) p ≡ Some sh
kept_front [] gs p sh h = absurd (cc)
kept_front (f ∷ fs) gs p sh h =
    let P : Bool → Type 0 = λ b. cond b (Some f.shape) (kept_shape fs p) ≡ Some sh → cond b (Some f.shape) (kept_shape (fs ++ gs) p) ≡ Some sh in
    let cases : P (same_path f.path p) = elim (same_path f.path p) as P [ true ↦ λ e. e | false ↦ λ e. kept_front fs gs p sh e ] in
    cases h

-- picks keep what is kept
pub picks_keep : (w : Setting) (picks : List ℕ) (m last : Moment) (p : Path) (sh : Shape) → Leads w m picks last → kept_shape m.store.facts p ≡ Some sh → kept_shape last.store.facts p ≡ Some sh
picks_keep w [] m last p sh h k = subst (λ (z : Moment). kept_shape z.store.facts p ≡ Some sh) (sym h) k
picks_keep w (t ∷ ts) m last p sh h k = picks_keep w ts h.1 last p sh h.3 (h.2.store.kept p ∙ kept_front m.store.facts h.0.facts p sh k)

-- the facts of static variables are kept by the facts that keep more
abbrev pub Keeps : List Fact → List Fact → Type 0
Keeps fs gs = (p : Path) (sh : Shape) → kept_shape fs p ≡ Some sh → kept_shape gs p ≡ Some sh

-- what is kept of a static variable is kept by the static facts alone
lasting_kept : (fs : List Fact) (p : Path) (sh : Shape) → NoClash (lasting_facts fs) → p.var.lasting ≡ true → kept_shape fs p ≡ Some sh → kept_shape (lasting_facts fs) p ≡ Some sh
lasting_kept fs p sh apart lasting h = in_kept (lasting_facts fs) (fact p sh) apart (filter_in (λ f. f.path.var.lasting) (fact p sh) fs (kept_in fs p sh h) lasting)

kept_lasting : (fs : List Fact) (p : Path) (sh : Shape) → kept_shape (lasting_facts fs) p ≡ Some sh → p.var.lasting ≡ true
kept_lasting fs p sh h = (in_filter (λ f. f.path.var.lasting) (fact p sh) fs (kept_in (lasting_facts fs) p sh h)).1

-- values that agree with more agree with less
pub agrees_with_less : (fs gs : List Fact) (v : ℕ → Tree) → NoClash fs → Keeps fs gs → AgreesWithAll v gs → AgreesWithAll v fs
agrees_with_less fs gs v apart keeps h = agrees_from v fs (λ f i. agrees_in v gs h f (kept_in gs f.path f.shape (keeps f.path f.shape (in_kept fs f apart i))))

-- static variables have these values
abbrev pub HasLasting : List Bool → (ℕ → Tree) → (ℕ → Tree) → Type 0
HasLasting kinds u v = (x : ℕ) → slice_get kinds x ≡ Some true → u x ≡ v x

-- each picture's facts hold in the state of its turn, from position 0 on
abbrev pub Agree : Course → List Picture → Type 0
Agree s [] = Unit {0}
Agree s (p ∷ ps) = AgreesWithAll (s 0).values p.facts × Agree (λ j. s (suc j)) ps

pub agree_at : (s : Course) (a : ℕ) (ps : List Picture) → Agree (λ j. s (j + a)) ps → AgreesWithPictures s a ps
agree_at s a [] h = tt
agree_at s a (p ∷ ps) h =
    let here : 0 + a ≡ a = omega arith in
    let later : (j : ℕ) → suc j + a ≡ j + suc a = λ j. omega arith in (
      subst (λ i. AgreesWithAll (s i).values p.facts) here h.0,
      agree_at s (suc a) ps (subst (λ (t : Course). Agree t ps) (λ i j. s (later j i)) h.1),
    )

-- what is asked of stores: a state with given static values
pub record StateLaws : Type 0 where
  pub has_state : (xs : List Variable) (fs : List Fact) → NoClash fs → AreOfVariables xs fs → (v : ℕ → Tree) × AgreesWithAll v fs
  pub extends : (xs : List Variable) (fs : List Fact) → NoClash fs → AreOfVariables xs fs → (v : ℕ → Tree) → AgreesWithAll v (lasting_facts fs)
      → (u : ℕ → Tree) × AgreesWithAll u fs × HasLasting (map (λ x. x.lasting) xs) u v
  pub lasting_no_clash : (fs : List Fact) → NoClash fs → NoClash (lasting_facts fs)

-- the states of some pictures, numbered from n on, and after them states with the values v
pub record Lives (kinds : List Bool) (n : ℕ) (ps : List Picture) (v : ℕ → Tree) (s : Course) : Type 0 where
  pub own : (j : ℕ) → (s j).own ≡ j + n
  pub agree : Agree s ps
  pub lasting : (j : ℕ) → HasLasting kinds (s j).values v
  pub after : (j : ℕ) → length ps ≤ j → (s j).values ≡ v

abbrev state_with : ℕ → (ℕ → Tree) → State
state_with n v = record { own = n; values = v }

abbrev then_states : State → Course → Course
then_states st s zero = st
then_states st s (suc j) = s j

pub below_keeps : (k : ℕ) (fs : List Fact) → NoClash fs → Keeps (facts_below k fs) fs
below_keeps k fs apart q sh e = in_kept fs (fact q sh) apart (in_filter (λ f. nat_lt f.path.var.number k) (fact q sh) fs (kept_in (facts_below k fs) q sh e)).0

own_of : (n : ℕ) (u : ℕ → Tree) (t : Course) → ((j : ℕ) → (t j).own ≡ j + suc n) → (j : ℕ) → (then_states (state_with n u) t j).own ≡ j + n
own_of n u t e zero = omega arith
own_of n u t e (suc j) = e j ∙ omega arith

lasting_of : (kinds : List Bool) (n : ℕ) (u v : ℕ → Tree) (t : Course) → HasLasting kinds u v → ((j : ℕ) → HasLasting kinds (t j).values v) → (j : ℕ) → HasLasting kinds (then_states (state_with n u) t j).values v
lasting_of kinds n u v t e r zero = e
lasting_of kinds n u v t e r (suc j) = r j

after_of : (n : ℕ) (u v : ℕ → Tree) (ps : List Picture) (p : Picture) (t : Course) → ((j : ℕ) → length ps ≤ j → (t j).values ≡ v) → (j : ℕ) → length (p ∷ ps) ≤ j → (then_states (state_with n u) t j).values ≡ v
after_of n u v ps p t e zero le = absurd (omega arith)
after_of n u v ps p t e (suc j) le = e j (omega arith)

module _ (laws : SceneLaws) (stores : StateLaws) where
  -- the facts of static variables that a state's end keeps are kept from then on
  next_keeps : (plan : Plan) (n : ℕ) (m next : Moment) (p : Picture) → IsSound (setting plan n) (kinds_of plan.program.globals) m → (g : StateGoesOn plan n m p next) → Keeps (lasting_facts g.last.store.facts) next.store.facts
  next_keeps plan n m next p sound g q sh h = g.goes.store.kept q ∙ h

  -- and by the last moment of all
  lead_keeps : (plan : Plan) (n : ℕ) (ps : List Picture) (m last : Moment) → IsSound (setting plan n) (kinds_of plan.program.globals) m → StatesLead plan n m ps last
      → (q : Path) (sh : Shape) → q.var.lasting ≡ true → kept_shape m.store.facts q ≡ Some sh → kept_shape last.store.facts q ≡ Some sh
  lead_keeps plan n [] m last sound h q sh lasting k = subst (λ (z : Moment). kept_shape z.store.facts q ≡ Some sh) (sym h) k
  lead_keeps plan n (p ∷ ps) m last sound h q sh lasting k =
      let g = h.1 in
      let here = leads_sound laws (setting plan n) (kinds_of plan.program.globals) g.picks m g.last sound g.goes.closes.leads in
      let at_end = picks_keep (setting plan n) g.picks m g.last q sh g.goes.closes.leads k in
      let lasting_there = lasting_kept g.last.store.facts q sh (stores.lasting_no_clash g.last.store.facts here.store.no_clash) lasting at_end in
      lead_keeps plan (suc n) ps h.0 last (next_sound laws plan n m h.0 p sound g (suc n)) h.2 q sh lasting (next_keeps plan n m h.0 p sound g q sh lasting_there)

  -- Values that agree with what the moment after some states keeps are the static ones of states that agree with the pictures.
  pub lives : (plan : Plan) (n : ℕ) (ps : List Picture) (m last : Moment) → IsSound (setting plan n) (kinds_of plan.program.globals) m → StatesLead plan n m ps last
      → (v : ℕ → Tree) → AgreesWithAll v last.store.facts → (s : Course) × Lives (kinds_of plan.program.globals) n ps v s
  lives plan n [] m last sound h v agrees = ((λ j. state_with (j + n) v), record { own = λ j. refl; agree = tt; lasting = λ j x e. refl; after = λ j le. refl })
  lives plan n (p ∷ ps) m last sound h v agrees =
      let g = h.1 in
      let kinds = kinds_of plan.program.globals in
      let here = leads_sound laws (setting plan n) kinds g.picks m g.last sound g.goes.closes.leads in
      let facts = g.last.store.facts in
      let lasting : List Fact = lasting_facts facts in
      let apart = stores.lasting_no_clash facts here.store.no_clash in
      let later = next_sound laws plan n m h.0 p sound g (suc n) in
      let kept : Keeps lasting last.store.facts =
      λ q sh k. lead_keeps plan (suc n) ps h.0 last later h.2 q sh (kept_lasting facts q sh k) (next_keeps plan n m h.0 p sound g q sh k) in
      let u = stores.extends g.last.store.variables facts here.store.no_clash here.store.facts v (agrees_with_less lasting last.store.facts v apart kept agrees) in
      let rest = lives plan (suc n) ps h.0 last later h.2 v agrees in
      let r = rest.1 in
      let same : HasLasting kinds u.0 v = λ x e. u.2 x (here.store.globals x true e) in
      let below = agrees_with_less (facts_below (globals_of plan) facts) facts u.0 (laws.below_no_clash (globals_of plan) facts here.store.no_clash) (below_keeps (globals_of plan) facts here.store.no_clash) u.1 in (
        then_states (state_with n u.0) rest.0,
        record {
          own = own_of n u.0 rest.0 r.own;
          agree = ((picture_agrees laws (globals_of plan) facts p.facts here.store.no_clash g.picture_is.facts u.0).0 below, r.agree);
          lasting = lasting_of kinds n u.0 v rest.0 same r.lasting;
          after = after_of n u.0 v ps p rest.0 r.after;
        },
      )
