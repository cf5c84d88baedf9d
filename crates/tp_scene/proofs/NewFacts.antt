-- New facts are of variables of the store.
use Rattle.std.proofs.Common.{ℕ, Bool, List, filter, inl, inr, sym, subst}
use Rattle.tp_value.specs.declared.path.Fact.{Fact}
use Rattle.tp_value.specs.declared.path.VarId.{VarId}
use Rattle.tp_meaning.specs.Syntax.{Definition}
use Rattle.tp_meaning.specs.Inputs.{InputTable}
use Rattle.tp_meaning.specs.Fits.{DefinitionsFit, IsVariable}
use Rattle.tp_store.specs.Facts.{kept_shape}
use Rattle.tp_store.specs.Known.{Variable, AreOfVariables, is_none}
use Rattle.tp_store.proofs.Members.{in_filter}
use Rattle.tp_store.proofs.Adding.{adds_all}
use Rattle.tp_scene.specs.Scene.{Leaf, Do, Holder, Closed, Running, Entries, Region, Place}
use Rattle.tp_scene.specs.Step.{PickOutcome, reduces, waits, rests, clashes, misses, passes, Numbers, by_status, leaf_step, holder_step}
use Rattle.tp_scene.specs.Pick.{Setting, pick}
use Rattle.tp_scene.specs.Fits.{kinds_in, LeafFits, EntriesFit}
use Rattle.tp_scene.proofs.Keep.{picked_fit}
use Rattle.tp_scene.proofs.Globals.{of_variables_in, in_of_variables}
use Rattle.tp_scene.proofs.Parts.{Whatever, status_has}
use Rattle.tp_scene.proofs.Told.{Told}
use Rattle.tp_scene.proofs.FitsTold.{whatever_seen, fitting, fits_told}

filtered : (xs : List Variable) (keep : Fact → Bool) (fs : List Fact) → AreOfVariables xs fs → AreOfVariables xs (filter keep fs)
filtered xs keep fs h = in_of_variables xs (filter keep fs) (λ f i. of_variables_in xs fs h f (in_filter keep f fs i).0)

module _ (facts : List Fact) (kinds : List Bool) (variables : List Variable) (among : (x : VarId) → IsVariable kinds x → IsVariable (kinds_in variables) x) where
  abbrev pub IsOfVariables : PickOutcome → Type 0
  IsOfVariables (reduces r) = AreOfVariables variables r.facts
  IsOfVariables (waits first other) = Unit {0}
  IsOfVariables rests = Unit {0}
  IsOfVariables (clashes c) = Unit {0}
  IsOfVariables (misses port) = Unit {0}
  IsOfVariables (passes k) = Unit {0}

  status_facts : (p : Place) (o o' : PickOutcome) → IsOfVariables o → IsOfVariables o' → IsOfVariables (by_status p o o')
  status_facts p o o' h h' = status_has IsOfVariables p o o' (λ g. h) (λ g e. h') (λ g e. tt)

  module _ (defs : List Definition) (definitions : DefinitionsFit defs kinds) (inputs : InputTable) (state : ℕ) where
    -- the row's facts are some of those that it was to add, and all these are of variables
    of_told : (p : Place) (n : Numbers) (o : PickOutcome) → Told (fitting defs kinds variables n Whatever) facts p n o → IsOfVariables o
    of_told p n (reduces r) h = elim h.facts_of [
      | inl e ↦ subst (λ (fs : List Fact). AreOfVariables variables fs) (sym e) tt
      | inr x ↦ subst (λ (fs : List Fact). AreOfVariables variables fs) ((adds_all facts x.0 r.facts x.2).new) (filtered variables (λ f. is_none (kept_shape facts f.path)) x.0 x.1)
    ]
    of_told p n o h = tt

    leaf_facts : (l : Leaf) (p : Place) (n : Numbers) → LeafFits defs kinds variables l p → IsOfVariables (leaf_step defs inputs state facts l p n)
    leaf_facts (Do f env) p n fit = of_told p n _ (fits_told defs kinds variables n Whatever definitions among inputs state facts (whatever_seen facts variables) f env p fit)
    leaf_facts l p n fit = tt

    holder_facts : (k : Holder) (held second : Region) (q : Place) (n : Numbers) → IsOfVariables (holder_step defs inputs state facts k held second q n)
    holder_facts Closed held second q n = tt
    holder_facts (Running f env) held second q n = tt
    holder_facts k held second q n = status_facts q _ _ tt tt

  pub picked_facts : (w : Setting) (definitions : DefinitionsFit w.defs kinds) (t : ℕ) (es : Entries) (p : Place) (n : Numbers) → EntriesFit w.defs kinds variables es p → IsOfVariables (pick w facts t es p n)
  picked_facts w definitions t es p n fit =
      picked_fit IsOfVariables w facts t n kinds variables tt (λ l p h. leaf_facts w.defs definitions w.inputs w.state l p n h) (λ k held second q. holder_facts w.defs definitions w.inputs w.state k held second q n) es p fit
