-- A run begins with orderly moments, and steps and the next state leave them so.
use Rattle.std.proofs.Common.{◌≡◌, ◌≤◌, List, ◌++◌, Option, Some, None, refl, sym, ◌∙◌, subst, ℕ, ◌+◌, Bool, true, false, cond, ap}
use Rattle.tp_value.specs.Limits.{length_limit}
use Rattle.tp_value.specs.declared.value.Shape.{Shape}
use Rattle.tp_value.specs.declared.value.Shape.TheVariants.{Items}
use Rattle.tp_value.specs.declared.path.Fact.{Fact}
use Rattle.tp_store.specs.Facts.{kept_shape}
use Rattle.tp_store.specs.Known.{lasting_facts}
use Rattle.tp_scene.specs.Scene.{Do, Later, Shown, Holder, Split, SplitProject, Closed, Opened, Running, Entries, none, leaf, node, Scene, root_place}
use Rattle.tp_scene.specs.Advance.{due, numbered}
use Rattle.tp_scene.specs.Pick.{numbers_of}
use Rattle.tp_scene.proofs.StepsFit.{steps_fit}
use Rattle.tp_scene.proofs.AdvancesFit.{advances_fit}
use Rattle.tp_scene.proofs.Begin.{runs_begin}
use Rattle.tp_step_laws.proofs.SettleAlike.{kept_through}
use Rattle.tp_step_laws.specs.Within.{LengthsAreWithin, SecondIsOwn, EntriesWithin}
use Rattle.tp_step_laws.proofs.FactsGrow.{kept_before, kept_after}
use Rattle.tp_step_laws.proofs.StaysWithin.{picks_stay_within}
use Rattle.tp_step_laws.specs.Orders.{StepsStayOrderly, BeginsOrderly, AdvancesStayOrderly}

both_within : (fs gs : List Fact) → LengthsAreWithin fs → LengthsAreWithin gs → LengthsAreWithin (fs ++ gs)
both_within fs gs h k p n e = go (kept_shape fs p) refl
  where
    go : (o : Option Shape) → kept_shape fs p ≡ o → n ≤ length_limit
    go (Some sh) q = let s : Some sh ≡ Some (Items n) = sym (kept_before fs gs p sh q) ∙ e in h p n (q ∙ s)
    go None q = k p n (sym (kept_after fs gs p q) ∙ e)

pub steps_stay_orderly : StepsStayOrderly
steps_stay_orderly w kinds m t r next orderly step =
    let x = picks_stay_within w m.store.facts t m.scene.root.entries (root_place m.scene.root) (numbers_of m.scene m.store.variables) r orderly.inputs orderly.lengths orderly.bound step.outcome in
    record {
      sound = steps_fit w kinds m t r next orderly.sound step;
      lengths = λ p n e. both_within m.store.facts r.facts orderly.lengths x.0 p n (sym (step.store.kept p) ∙ e);
      bound = subst (λ (s : Scene). EntriesWithin s.root.entries) (sym step.scene) x.1;
      inputs = orderly.inputs;
    }

due_within : (es : Entries) → EntriesWithin es → EntriesWithin (due es)
due_within none h = h
due_within (leaf id (Do f env) rest) h = due_within rest h.1
due_within (leaf id (Later f env) rest) h = (h.0, due_within rest h.1)
due_within (leaf id (Shown vs) rest) h = due_within rest h.1
due_within (node id (Split f env) x i g s rest) h = (h.0, due_within i h.1, h.2, due_within rest h.3, h.4)
due_within (node id (SplitProject f env) x i g s rest) h = (h.0, due_within i h.1, h.2, due_within rest h.3, tt)
due_within (node id Closed x i g s rest) h = due_within rest h.3
due_within (node id (Opened f env) x i g s rest) h = due_within rest h.3
due_within (node id (Running f env) x i g s rest) h = (h.0, due_within i h.1, due_within s h.2, due_within rest h.3, tt)

own_numbered : (k : Holder) (s : Entries) (a b : ℕ) → SecondIsOwn k s → SecondIsOwn k (numbered a b s)
own_numbered (SplitProject f env) s a b h = tt
own_numbered (Running f env) s a b h = tt
own_numbered k s a b h = ap (numbered a b) h

numbered_within : (a b : ℕ) (es : Entries) → EntriesWithin es → EntriesWithin (numbered a b es)
numbered_within a b none h = h
numbered_within a b (leaf id l rest) h = (h.0, numbered_within (a + 1) b rest h.1)
numbered_within a b (node id k x i g s rest) h = (h.0, numbered_within _ _ i h.1, numbered_within _ _ s h.2, numbered_within _ _ rest h.3, own_numbered k s _ _ h.4)

lasting_within : (fs : List Fact) → LengthsAreWithin fs → LengthsAreWithin (lasting_facts fs)
lasting_within fs h p n e = go p.var.lasting (sym (kept_through (λ q. q.var.lasting) fs p) ∙ e)
  where
    go : (b : Bool) → cond b (kept_shape fs p) None ≡ Some (Items n) → n ≤ length_limit
    go true q = h p n q
    go false q = absurd (cc q)

pub begins_orderly : BeginsOrderly
begins_orderly w names main definitions fits inputs =
    record { sound = (runs_begin w names main definitions fits).sound; lengths = λ p n e. absurd (cc e); bound = (tt, tt); inputs = inputs }

pub advances_stay_orderly : AdvancesStayOrderly
advances_stay_orderly w kinds m next orderly settles scene store own = record {
  sound = advances_fit w kinds m next orderly.sound settles scene store own;
  lengths = λ p n e. lasting_within m.store.facts orderly.lengths p n (sym (store.kept p) ∙ e);
  bound = subst (λ (s : Scene). EntriesWithin s.root.entries) (sym scene) (numbered_within 0 1 (due m.scene.root.entries) (due_within m.scene.root.entries orderly.bound));
  inputs = orderly.inputs;
}
