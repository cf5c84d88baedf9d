-- The next state begins with a sound moment.
use Rattle.std.proofs.Common.{◌≡◌, ℕ, ◌+◌, Bool, true, false, ◌||◌, ◌&&◌, List, refl, ap, sym, ◌∙◌, subst, arith, inl, inr}
use Rattle.std.proofs.lemmas.Bool.{or_cases, and_parts, both_ways, false≢true}
use Rattle.tp_value.specs.declared.path.Fact.{Fact}
use Rattle.tp_meaning.specs.Syntax.{Definition}
use Rattle.tp_store.specs.Known.{Variable, AreOfVariables, lasting_facts}
use Rattle.tp_store.proofs.Members.{in_kept, kept_in, in_filter}
use Rattle.tp_scene.specs.Scene.{Side, Ending, Head, marked, Do, Later, Shown, Split, SplitProject, Closed, Opened, Running, Entries, none, leaf, node, new_head, sinks, risen, Place, root_place, held_place}
use Rattle.tp_scene.specs.Pick.{Setting, Moment}
use Rattle.tp_scene.specs.Advance.{unmarked, due, regions_in, numbered_head, numbered, advanced, StoreGoesOn}
use Rattle.tp_scene.specs.Fits.{IsCalm, Dormant, EntriesFit}
use Rattle.tp_scene.specs.Laws.{IsSound, AdvancesFit}
use Rattle.tp_scene.proofs.Globals.{of_variables_in, in_of_variables}
use Rattle.tp_scene.proofs.PutStatus.{dormant_head, dormant_risen, or_false}
use Rattle.tp_scene.proofs.PutInners.{dormant_inners}
use Rattle.tp_scene.proofs.NextNumbers.{items_once, regions_once}

-- nothing is known of a region's status
abbrev Blank : Place → Type 0
Blank p = (x : Side) → p.is x ≡ true → ⊥

blank_calm : (p : Place) → Blank p → IsCalm p
blank_calm p b e g = b Ending e

-- a left region without marks in such a region
left_blank : (s : Bool) (h : Head) (held : Entries) (p : Place) (x : Side) → Blank p → Dormant h held → ((s && p.is x) || (false || (marked x h || risen x held))) ≡ true → ⊥
left_blank s h held p x b d e = elim (or_cases (s && p.is x) _ e) [
  | inl u ↦ b x (and_parts s (p.is x) u).1
  | inr u ↦ both_ways (marked x h || risen x held) (or_false (marked x h) (risen x held) (dormant_head h held d x) (dormant_risen h held d x)) u
]

module _ (defs : List Definition) (kinds : List Bool) (variables : List Variable) where
  -- what is due carries no mark
  due_dormant : (n : ℕ) (es : Entries) (p : Place) → EntriesFit defs kinds variables es p → Dormant (new_head n) (due es)
  due_dormant n none p fit = (refl, refl)
  due_dormant n (leaf id (Do f env) rest) p fit = due_dormant n rest p fit.1
  due_dormant n (leaf id (Later f env) rest) p fit = due_dormant n rest p fit.1
  due_dormant n (leaf id (Shown vs) rest) p fit = due_dormant n rest p fit.1
  due_dormant n (node id (Split f env) h held g second rest) p fit = (due_dormant h.number held _ fit.1, due_dormant n rest p fit.2)
  due_dormant n (node id (SplitProject f env) h held g second rest) p fit = (due_dormant h.number held _ fit.1, fit.0.1.0, due_dormant n rest p fit.2)
  due_dormant n (node id Closed h held g second rest) p fit = due_dormant n rest p fit.2
  due_dormant n (node id (Opened f env) h held g second rest) p fit = due_dormant n rest p fit.2
  due_dormant n (node id (Running f env) h held g second rest) p fit = (due_dormant h.number held _ fit.1, due_dormant g.number second _ fit.0.1, due_dormant n rest p fit.2)

  due_fits : (es : Entries) (p p' : Place) → EntriesFit defs kinds variables es p → p'.depth ≡ p.depth → Blank p' → EntriesFit defs kinds variables (due es) p'
  due_fits none p p' fit e b = (blank_calm p' b, (let l = fit.1 in omega (arith, l, e)))
  due_fits (leaf id (Do f env) rest) p p' fit e b = due_fits rest p p' fit.1 e b
  due_fits (leaf id (Later f env) rest) p p' fit e b = (fit.0.0, due_fits rest p p' fit.1 e b)
  due_fits (leaf id (Shown vs) rest) p p' fit e b = due_fits rest p p' fit.1 e b
  due_fits (node id (Split f env) h held g second rest) p p' fit e b = (
    fit.0,
    due_fits held _ (held_place (Split f env) (unmarked h) (due held) p') fit.1 (ap (λ i. i + 1) e)
        (λ x u. left_blank (sinks (Split f env) x) (unmarked h) (due held) p' x b (due_dormant h.number held _ fit.1) u),
    due_fits rest p p' fit.2 e b,
  )
  due_fits (node id (SplitProject f env) h held g second rest) p p' fit e b = (
    (fit.0.0, (fit.0.1.0, subst (λ (d : ℕ). EntriesFit defs kinds variables second (record { region = g.number; depth = d + 1; is = λ z. false })) (sym e) fit.0.1.1)),
    due_fits held _ (held_place (SplitProject f env) (unmarked h) (due held) p') fit.1 (ap (λ i. i + 1) e)
        (λ x u. left_blank (sinks (SplitProject f env) x) (unmarked h) (due held) p' x b (due_dormant h.number held _ fit.1) u),
    due_fits rest p p' fit.2 e b,
  )
  due_fits (node id Closed h held g second rest) p p' fit e b = due_fits rest p p' fit.2 e b
  due_fits (node id (Opened f env) h held g second rest) p p' fit e b = due_fits rest p p' fit.2 e b
  due_fits (node id (Running f env) h held g second rest) p p' fit e b = (
    (fit.0.0, (due_dormant g.number second _ fit.0.1, due_fits second _ (record { region = g.number; depth = p'.depth + 1; is = λ z. false }) fit.0.1 (ap (λ i. i + 1) e) (λ x u. false≢true u))),
    due_fits held _ (held_place (SplitProject f env) (unmarked h) (due held) p') fit.1 (ap (λ i. i + 1) e)
        (λ x u. left_blank (sinks (SplitProject f env) x) (unmarked h) (due held) p' x b (due_dormant h.number held _ fit.1) u),
    due_fits rest p p' fit.2 e b,
  )

  -- numbered again it is the same
  dormant_numbered : (n i r : ℕ) (h : Head) (es : Entries) → Dormant h es → Dormant (numbered_head n h) (numbered i r es)
  dormant_numbered n i r h none d = d
  dormant_numbered n i r h (leaf id (Do f env) rest) d = dormant_numbered n (i + 1) r h rest d
  dormant_numbered n i r h (node id (Split f env) k held g second rest) d = (dormant_numbered r i (r + 1) k held d.0, dormant_numbered n _ _ h rest d.1)
  dormant_numbered n i r h (node id (SplitProject f env) k held g second rest) d = (dormant_numbered r i (r + 1) k held d.0, dormant_numbered _ _ _ g second d.1, dormant_numbered n _ _ h rest d.2)
  dormant_numbered n i r h es d = elim d [ ]

  numbered_fits : (i r : ℕ) (h : Head) (es : Entries) (p p' : Place) → Dormant h es → EntriesFit defs kinds variables es p → p'.depth ≡ p.depth → Blank p' → EntriesFit defs kinds variables (numbered i r es) p'
  numbered_fits i r h none p p' d fit e b = (blank_calm p' b, (let l = fit.1 in omega (arith, l, e)))
  numbered_fits i r h (leaf id (Do f env) rest) p p' d fit e b = (fit.0, numbered_fits (i + 1) r h rest p p' d fit.1 e b)
  numbered_fits i r h (node id (Split f env) k held g second rest) p p' d fit e b = (
    fit.0,
    numbered_fits i (r + 1) k held _ (held_place (Split f env) (numbered_head r k) (numbered i (r + 1) held) p') d.0 fit.1 (ap (λ j. j + 1) e)
        (λ x u. left_blank (sinks (Split f env) x) (numbered_head r k) (numbered i (r + 1) held) p' x b (dormant_numbered r i (r + 1) k held d.0) u),
    numbered_fits _ _ h rest p p' d.1 fit.2 e b,
  )
  numbered_fits i r h (node id (SplitProject f env) k held g second rest) p p' d fit e b = (
    (fit.0.0, (dormant_numbered (r + 1 + regions_in held) _ _ g second d.1, numbered_fits _ _ g second _ (record { region = r + 1 + regions_in held; depth = p'.depth + 1; is = λ z. false }) d.1 fit.0.1.1 (ap (λ j. j + 1) e) (λ x u. false≢true u))),
    numbered_fits i (r + 1) k held _ (held_place (SplitProject f env) (numbered_head r k) (numbered i (r + 1) held) p') d.0 fit.1 (ap (λ j. j + 1) e)
        (λ x u. left_blank (sinks (SplitProject f env) x) (numbered_head r k) (numbered i (r + 1) held) p' x b (dormant_numbered r i (r + 1) k held d.0) u),
    numbered_fits _ _ h rest p p' d.2 fit.2 e b,
  )
  numbered_fits i r h es p p' d fit e b = elim d [ ]

module _ (w : Setting) (kinds : List Bool) (m next : Moment) (sound : IsSound w kinds m) (is : next.scene ≡ advanced m.scene) (on : StoreGoesOn m.store next.store) (own : ℕ) where
  abbrev es : Entries
  es = due m.scene.root.entries

  abbrev renumbered : Entries
  renumbered = numbered 0 1 es

  abbrev p' : Place
  p' = root_place (record { head = new_head 0; entries = renumbered })

  dormant : Dormant (new_head 0) es
  dormant = due_dormant w.defs kinds m.store.variables 0 m.scene.root.entries (root_place m.scene.root) sound.moment.entries

  dormant_after : Dormant (new_head 0) renumbered
  dormant_after = dormant_numbered w.defs kinds m.store.variables 0 0 1 (new_head 0) es dormant

  blank : Blank p'
  blank x e = both_ways (marked x (new_head 0) || risen x renumbered) (or_false (marked x (new_head 0)) (risen x renumbered) (dormant_head (new_head 0) renumbered dormant_after x) (dormant_risen (new_head 0) renumbered dormant_after x)) e

  fits : EntriesFit w.defs kinds m.store.variables renumbered p'
  fits = numbered_fits w.defs kinds m.store.variables 0 1 (new_head 0) es p' p' dormant (due_fits w.defs kinds m.store.variables m.scene.root.entries (root_place m.scene.root) p' sound.moment.entries refl blank) refl blank

  facts_fit : AreOfVariables m.store.variables next.store.facts
  facts_fit = in_of_variables m.store.variables next.store.facts (λ f i.
      of_variables_in m.store.variables m.store.facts sound.store.facts _ (in_filter (λ (f : Fact). f.path.var.lasting) _ m.store.facts
      (kept_in (lasting_facts m.store.facts) f.path f.shape (sym (on.kept f.path) ∙ in_kept next.store.facts f on.no_clash i))).0)

  abbrev made : Moment
  made = record { scene = advanced m.scene; store = record { facts = next.store.facts; variables = m.store.variables } }

  is_made : next ≡ made
  is_made = λ i. record { scene = is i; store = record { facts = next.store.facts; variables = on.variables i } }

  made_sound : IsSound (record { defs = w.defs; inputs = w.inputs; state = own }) kinds made
  made_sound = record {
    definitions = sound.definitions;
    moment = record { entries = fits; items = (items_once es); regions = (regions_once es); inners = dormant_inners (new_head 0) renumbered p' dormant_after };
    store = record { no_clash = on.no_clash; facts = facts_fit; globals = sound.store.globals };
  }

  next_sound : IsSound (record { defs = w.defs; inputs = w.inputs; state = own }) kinds next
  next_sound = subst (λ (x : Moment). IsSound (record { defs = w.defs; inputs = w.inputs; state = own }) kinds x) (sym is_made) made_sound

pub advances_fit : AdvancesFit
advances_fit w kinds m next sound settles is on own = next_sound w kinds m next sound is on own
