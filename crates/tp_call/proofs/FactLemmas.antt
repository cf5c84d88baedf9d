-- The facts of settled states: in order, without a clash, of the variables that the run has.
use Rattle.std.proofs.Common.{◌≡◌, ℕ, zero, suc, ◌<◌, Bool, nat_lt, List, [], ◌∷◌, length, map, All, Some, slice_get, refl, ap, sym, subst, ◌∙◌, arith}
use Rattle.std.proofs.lemmas.Bool.{ltb-true}
use Rattle.std.proofs.lemmas.List.Elements.{All-nil, All-cons, All-push}
use Rattle.tp_value.specs.Globals.{is_lower}
use Rattle.tp_value.specs.declared.path.Fact.{Fact}
use Rattle.tp_meaning.specs.Interval.{kinds_of}
use Rattle.tp_store.specs.Facts.{kept_shape, fact}
use Rattle.tp_store.specs.Known.{Contents, Variable, IsVariableOf, facts_below, global_variable}
use Rattle.tp_store.proofs.Members.{In, in_filter, kept_in, in_kept}
use Rattle.tp_scene.specs.Laws.{StoreFits, IsSound}
use Rattle.tp_scene.specs.Fits.{kinds_in}
use Rattle.tp_scene.proofs.Globals.{of_variables_in, in_of_variables}
use Rattle.tp_meaning.specs.Fits.{ProgramFits}
use Rattle.tp_scene.specs.Pick.{Moment, Leads}
use Rattle.tp_scene.specs.Beginning.{first_moment}
use Rattle.tp_show.specs.declared.turn.Picture.{Picture}
use Rattle.tp_show.specs.declared.turn.Turn.{Turn}
use Rattle.tp_show.specs.declared.turn.Turn.TheVariants as turn
use Rattle.tp_show.specs.FactsOf.{AreFactsOf}
use Rattle.tp_run.specs.History.{Plan, setting, AreGlobals, StatesLead, LeadsTo, RunEndsWith}
use Rattle.tp_run.proofs.StatesMean.{leads_sound, next_sound, lead_sound}
use Rattle.tp_run.proofs.Given.{scene_laws, first_sound}

-- whether each variable of these names is static
kinds_are : (names : List (List ℕ)) → map (λ (v : Variable). v.lasting) (map global_variable names) ≡ kinds_of names
kinds_are [] = refl
kinds_are (name ∷ names) = ap (λ (bs : List Bool). is_lower name ∷ bs) (kinds_are names)

-- a list has an item at each number below its length
there_is : (bs : List Bool) (i : ℕ) → i < length bs → (b : Bool) × (slice_get bs i ≡ Some b)
there_is [] i h = absurd (omega arith)
there_is (b ∷ bs) zero h = (b, refl)
there_is (b ∷ bs) (suc i) h = there_is bs i (omega arith)

-- a fact of the globals is of one of these variables
of_global : (names : List (List ℕ)) (kept : Contents) (facts : List Fact) (f : Fact) → StoreFits (kinds_of names) kept → AreGlobals (length (kinds_of names)) kept.facts facts → In f facts
    → IsVariableOf (map global_variable names) f.path.var
of_global names kept facts f fits are i =
    let kinds = kinds_of names in
    let number = f.path.var.number in
    let shape : kept_shape (facts_below (length kinds) kept.facts) f.path ≡ Some f.shape = sym (are.same f.path) ∙ in_kept facts f are.no_clash i in
    let below = in_filter (λ (g : Fact). nat_lt g.path.var.number (length kinds)) (fact f.path f.shape) kept.facts (kept_in (facts_below (length kinds) kept.facts) f.path f.shape shape) in
    let known : slice_get (kinds_in kept.variables) number ≡ Some f.path.var.lasting = of_variables_in kept.variables kept.facts fits.facts (fact f.path f.shape) below.0 in
    let kind = there_is kinds number (ltb-true number (length kinds) below.1) in
    let same : Some kind.0 ≡ Some f.path.var.lasting = sym (fits.globals number kind.0 kind.1) ∙ known in
    ap (λ (bs : List Bool). slice_get bs number) (kinds_are names) ∙ (kind.1 ∙ same)

facts_are : (names : List (List ℕ)) (kept : Contents) (facts : List Fact) → StoreFits (kinds_of names) kept → AreGlobals (length (kinds_of names)) kept.facts facts → AreFactsOf names facts
facts_are names kept facts fits are = record {
  order = are.order;
  no_clash = are.no_clash;
  of_variables = in_of_variables (map global_variable names) facts (λ f i. of_global names kept facts f fits are i);
}

-- of each state that a run settles
module _ (plan : Plan) where
  abbrev HasFacts : Picture → Type 0
  HasFacts picture = AreFactsOf plan.program.globals picture.facts

  abbrev Sound : ℕ → Moment → Type 0
  Sound n m = IsSound (setting plan n) (kinds_of plan.program.globals) m

  after_picks : (n : ℕ) (m last : Moment) (picks : List ℕ) (picture : Picture) → Sound n m → Leads (setting plan n) m picks last → AreGlobals (length (kinds_of plan.program.globals)) last.store.facts picture.facts → HasFacts picture
  after_picks n m last picks picture sound leads are =
      let there = leads_sound scene_laws (setting plan n) (kinds_of plan.program.globals) picks m last sound leads in
      facts_are plan.program.globals last.store picture.facts there.store are

  states_facts : (n : ℕ) (m last : Moment) (ps : List Picture) → Sound n m → StatesLead plan n m ps last → All HasFacts ps
  states_facts n m last [] sound h = All-nil HasFacts
  states_facts n m last (p ∷ ps) sound h =
      All-cons HasFacts p ps (after_picks n m h.1.last h.1.picks p sound h.1.goes.closes.leads h.1.picture_is.facts)
      (states_facts (suc n) h.0 last ps (next_sound scene_laws plan n m h.0 p sound h.1 (suc n)) h.2)

  pub leads_facts : (ps : List Picture) (m : Moment) → ProgramFits plan.program → LeadsTo plan ps m → All HasFacts ps
  leads_facts ps m fits h = states_facts 0 (first_moment plan.program.globals plan.program.main) m ps (first_sound plan fits) h

  pub run_facts : (ps : List Picture) (answer : Turn) → ProgramFits plan.program → RunEndsWith plan ps answer → All HasFacts ps
  run_facts ps turn.Went fits e = absurd e
  run_facts ps (turn.Finished n) fits e =
      let start = first_sound plan fits in
      let here = lead_sound scene_laws plan 0 (length e.before) e.before (first_moment plan.program.globals plan.program.main) e.moment (omega arith) start e.leads in
      let last = after_picks (length e.before) e.moment e.ends.last e.ends.picks e.final here e.ends.ends.closes.leads e.ends.picture_is.facts in
      subst (All HasFacts) (sym e.pictures) (All-push HasFacts e.before e.final (leads_facts e.before e.moment fits e.leads) last)
  run_facts ps (turn.Contradictory state clash) fits e = leads_facts ps e.0 fits e.1
  run_facts ps (turn.Undetermined state cell) fits e = leads_facts ps e.0 fits e.1
  run_facts ps (turn.StateLimit states) fits e = leads_facts ps e.0 fits e.1
  run_facts ps (turn.InputMissing state port) fits e = leads_facts ps e.0 fits e.1
  run_facts ps (turn.Over state limit) fits e = leads_facts ps e.0 fits e.1
