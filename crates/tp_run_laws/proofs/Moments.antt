-- The moments of a run are printable where what is run is.
use Rattle.std.proofs.Common.{◌≡◌, ℕ, ◌+◌, List, [], ◌∷◌, ◌++◌, map, All, Option, Some, None, IfSome, sym, subst}
use Rattle.std.proofs.lemmas.List.Elements.{All-nil, All-cons, All-head, All-tail, All-append}
use Rattle.tp_meaning.specs.Syntax.{FormulaTree}
use Rattle.tp_store.specs.Known.{Variable, global_variable, lasting_facts}
use Rattle.tp_scene.specs.Scene.{Do, Later, Shown, Split, SplitProject, Closed, Opened, Running, Entries, none, leaf, node, Scene, root_place}
use Rattle.tp_scene.specs.Step.{Reduction, misses}
use Rattle.tp_scene.specs.Pick.{Setting, Moment, Reduces, Leads, numbers_of, outcome_of, with_local}
use Rattle.tp_scene.specs.Advance.{due, numbered, advanced, StoreGoesOn}
use Rattle.tp_scene.specs.Beginning.{first_moment}
use Rattle.tp_show.specs.TraceOfRun.{HasNameOnOneLine}
use Rattle.tp_show.specs.Line.{IsOneLine}
use Rattle.tp_run_laws.specs.Printable.{FormulaIsPrintable, EntriesArePrintable}
use Rattle.tp_run_laws.proofs.Kept.{FactsArePrintable, printable_same, printable_through}
use Rattle.tp_run_laws.proofs.Steps.{SettingIsPrintable, OutcomeIsPrintable, pick_printable, put_printable}

-- its entries, what is kept, and the names of its variables
pub record MomentIsPrintable (m : Moment) : Type 0 where
  pub entries : EntriesArePrintable m.scene.root.entries
  pub facts : FactsArePrintable m.store.facts
  pub variables : All HasNameOnOneLine m.store.variables

module _ (w : Setting) (setting : SettingIsPrintable w) where
  picked : (m : Moment) (t : ℕ) → MomentIsPrintable m → OutcomeIsPrintable m.store.facts (outcome_of w m.store m.scene t)
  picked m t h = pick_printable w m.store.facts setting h.facts (numbers_of m.scene m.store.variables) t m.scene.root.entries (root_place m.scene.root) h.entries

  more_variables : (xs : List Variable) (local : Option Variable) → All HasNameOnOneLine xs → IfSome local HasNameOnOneLine → All HasNameOnOneLine (with_local local xs)
  more_variables xs None h k = h
  more_variables xs (Some x) h k = All-append HasNameOnOneLine xs (x ∷ []) h (All-cons HasNameOnOneLine x [] k (All-nil HasNameOnOneLine))

  pub step_printable : (m : Moment) (t : ℕ) (r : Reduction) (next : Moment) → MomentIsPrintable m → Reduces w m t r next → MomentIsPrintable next
  step_printable m t r next h step =
      let given = subst (OutcomeIsPrintable m.store.facts) step.outcome (picked m t h) in
      record {
        entries = subst (λ (s : Scene). EntriesArePrintable s.root.entries) (sym step.scene) (put_printable t r.mark r.news m.scene.root.entries given.1 h.entries);
        facts = printable_same (m.store.facts ++ r.facts) next.store.facts step.store.kept given.0;
        variables = subst (All HasNameOnOneLine) (sym step.store.variables) (more_variables m.store.variables r.local h.variables given.2);
      }

  pub leads_printable : (ps : List ℕ) (m last : Moment) → MomentIsPrintable m → Leads w m ps last → MomentIsPrintable last
  leads_printable [] m last h l = subst MomentIsPrintable (sym l) h
  leads_printable (t ∷ ts) m last h l = leads_printable ts l.1 last (step_printable m t l.0 l.1 h l.2) l.3

  -- a port that an item misses
  pub missed_printable : (m : Moment) (t : ℕ) (port : List ℕ) → MomentIsPrintable m → outcome_of w m.store m.scene t ≡ misses port → IsOneLine port
  missed_printable m t port h e = subst (OutcomeIsPrintable m.store.facts) e (picked m t h)

due_printable : (es : Entries) → EntriesArePrintable es → EntriesArePrintable (due es)
due_printable none h = h
due_printable (leaf id (Do f env) rest) h = due_printable rest h.1
due_printable (leaf id (Later f env) rest) h = (h.0, due_printable rest h.1)
due_printable (leaf id (Shown vs) rest) h = due_printable rest h.1
due_printable (node id (Split f env) x i g s rest) h = (h.0, due_printable i h.1, h.2, due_printable rest h.3)
due_printable (node id (SplitProject f env) x i g s rest) h = (h.0, due_printable i h.1, h.2, due_printable rest h.3)
due_printable (node id Closed x i g s rest) h = due_printable rest h.3
due_printable (node id (Opened f env) x i g s rest) h = due_printable rest h.3
due_printable (node id (Running f env) x i g s rest) h = (h.0, due_printable i h.1, due_printable s h.2, due_printable rest h.3)

numbered_printable : (a b : ℕ) (es : Entries) → EntriesArePrintable es → EntriesArePrintable (numbered a b es)
numbered_printable a b none h = h
numbered_printable a b (leaf id l rest) h = (h.0, numbered_printable (a + 1) b rest h.1)
numbered_printable a b (node id k x i g s rest) h = (h.0, numbered_printable _ _ i h.1, numbered_printable _ _ s h.2, numbered_printable _ _ rest h.3)

pub advance_printable : (m next : Moment) → MomentIsPrintable m → next.scene ≡ advanced m.scene → StoreGoesOn m.store next.store → MomentIsPrintable next
advance_printable m next h scene store = record {
  entries = subst (λ (s : Scene). EntriesArePrintable s.root.entries) (sym scene) (numbered_printable 0 1 (due m.scene.root.entries) (due_printable m.scene.root.entries h.entries));
  facts = printable_same (lasting_facts m.store.facts) next.store.facts store.kept (printable_through (λ x. x.lasting) m.store.facts h.facts);
  variables = subst (All HasNameOnOneLine) (sym store.variables) h.variables;
}

global_names : (names : List (List ℕ)) → All IsOneLine names → All HasNameOnOneLine (map global_variable names)
global_names [] h = All-nil HasNameOnOneLine
global_names (x ∷ xs) h = All-cons HasNameOnOneLine (global_variable x) (map global_variable xs) (All-head IsOneLine x xs h) (global_names xs (All-tail IsOneLine x xs h))

pub first_printable : (names : List (List ℕ)) (main : FormulaTree) → All IsOneLine names → FormulaIsPrintable main → MomentIsPrintable (first_moment names main)
first_printable names main one h = record { entries = ((h, tt), tt); facts = λ p sh e. absurd (cc e); variables = global_names names one }
