-- A state that goes on leaves a scene of `Do`, `Split` and `SplitProject` alone.
use Rattle.std.proofs.Common.{ℕ, ◌+◌, Bool, List, [], ◌∷◌, sym, subst}
use Rattle.tp_meaning.specs.Syntax.{Definition}
use Rattle.tp_store.specs.Known.{Variable}
use Rattle.tp_scene.specs.Scene.{Head, Do, Later, Shown, Split, SplitProject, Closed, Opened, Running, Entries, none, leaf, node, Place, Scene, root_place}
use Rattle.tp_scene.specs.Pick.{Setting, Moment, Leads}
use Rattle.tp_scene.specs.Advance.{due, numbered, advanced}
use Rattle.tp_scene.specs.Fits.{Dormant, EntriesFit}
use Rattle.tp_scene.specs.Laws.{IsSound}
use Rattle.tp_scene.proofs.StepsFit.{steps_fit}
use Rattle.tp_residual.specs.Carried.{AreCarried}
use Rattle.tp_residual.specs.Laws.{NextScenesAreCarried}

-- a dormant region holds such items
dormant_carried : (h : Head) (es : Entries) → Dormant h es → AreCarried es
dormant_carried h none d = tt
dormant_carried h (leaf id (Do f env) rest) d = (tt, dormant_carried h rest d)
dormant_carried h (leaf id (Later f env) rest) d = elim d [ ]
dormant_carried h (leaf id (Shown vs) rest) d = elim d [ ]
dormant_carried h (node id (Split f env) i held g second rest) d = (dormant_carried i held d.0, dormant_carried h rest d.1)
dormant_carried h (node id (SplitProject f env) i held g second rest) d = ((dormant_carried i held d.0, dormant_carried g second d.1), dormant_carried h rest d.2)
dormant_carried h (node id Closed i held g second rest) d = elim d [ ]
dormant_carried h (node id (Opened f env) i held g second rest) d = elim d [ ]
dormant_carried h (node id (Running f env) i held g second rest) d = elim d [ ]

-- and so does what is due of entries that fit
due_carried : (defs : List Definition) (kinds : List Bool) (variables : List Variable) (es : Entries) (p : Place) → EntriesFit defs kinds variables es p → AreCarried (due es)
due_carried defs kinds variables none p fit = tt
due_carried defs kinds variables (leaf id (Do f env) rest) p fit = due_carried defs kinds variables rest p fit.1
due_carried defs kinds variables (leaf id (Later f env) rest) p fit = (tt, due_carried defs kinds variables rest p fit.1)
due_carried defs kinds variables (leaf id (Shown vs) rest) p fit = due_carried defs kinds variables rest p fit.1
due_carried defs kinds variables (node id (Split f env) h held g second rest) p fit = (due_carried defs kinds variables held _ fit.1, due_carried defs kinds variables rest p fit.2)
due_carried defs kinds variables (node id (SplitProject f env) h held g second rest) p fit =
    ((due_carried defs kinds variables held _ fit.1, dormant_carried g second fit.0.1.0), due_carried defs kinds variables rest p fit.2)
due_carried defs kinds variables (node id Closed h held g second rest) p fit = due_carried defs kinds variables rest p fit.2
due_carried defs kinds variables (node id (Opened f env) h held g second rest) p fit = due_carried defs kinds variables rest p fit.2
due_carried defs kinds variables (node id (Running f env) h held g second rest) p fit =
    ((due_carried defs kinds variables held _ fit.1, due_carried defs kinds variables second _ fit.0.1), due_carried defs kinds variables rest p fit.2)

numbered_carried : (i r : ℕ) (es : Entries) → AreCarried es → AreCarried (numbered i r es)
numbered_carried i r none a = tt
numbered_carried i r (leaf id l rest) a = (a.0, numbered_carried (i + 1) r rest a.1)
numbered_carried i r (node id (Split f env) h held g second rest) a = (numbered_carried i (r + 1) held a.0, numbered_carried _ _ rest a.1)
numbered_carried i r (node id (SplitProject f env) h held g second rest) a = ((numbered_carried i (r + 1) held a.0.0, numbered_carried _ _ second a.0.1), numbered_carried _ _ rest a.1)
numbered_carried i r (node id Closed h held g second rest) a = absurd a.0
numbered_carried i r (node id (Opened f env) h held g second rest) a = absurd a.0
numbered_carried i r (node id (Running f env) h held g second rest) a = absurd a.0

sound_carried : (w : Setting) (kinds : List Bool) (m : Moment) → IsSound w kinds m → AreCarried (advanced m.scene).root.entries
sound_carried w kinds m sound = numbered_carried 0 1 (due m.scene.root.entries) (due_carried w.defs kinds m.store.variables m.scene.root.entries (root_place m.scene.root) sound.moment.entries)

-- picks lead from a sound moment to a sound one
led_sound : (w : Setting) (kinds : List Bool) (picks : List ℕ) (m last : Moment) → IsSound w kinds m → Leads w m picks last → IsSound w kinds last
led_sound w kinds [] m last sound leads = subst (IsSound w kinds) (sym leads) sound
led_sound w kinds (t ∷ ts) m last sound leads = led_sound w kinds ts leads.1 last (steps_fit w kinds m t leads.0 leads.1 sound leads.2) leads.3

pub next_scenes_are_carried : NextScenesAreCarried
next_scenes_are_carried = record {
  advance = sound_carried;
  goes = λ w kinds most m picks last next sound goes.
      subst (λ (s : Scene). AreCarried s.root.entries) (sym goes.scene) (sound_carried w kinds last (led_sound w kinds picks m last sound goes.closes.leads));
}
