-- What a formula becomes fits where it stands.
use Rattle.std.proofs.Common.{◌≡◌, inl, inr, ℕ, suc, ◌<◌, ◌≤◌, Bool, true, false, ◌||◌, List, Option, Some, None, refl, sym, subst, arith}
use Rattle.std.proofs.lemmas.Bool.{ltb-true, false≢true}
use Rattle.tp_value.specs.declared.path.Fact.{Fact}
use Rattle.tp_value.specs.declared.path.VarId.{VarId}
use Rattle.tp_meaning.specs.Syntax.{FormulaTree, Definition}
use Rattle.tp_meaning.specs.Inputs.{InputTable}
use Rattle.tp_meaning.specs.Fits.{DefinitionsFit, IsVariable}
use Rattle.tp_store.specs.Known.{Variable}
use Rattle.tp_scene.specs.Scene.{Bindings, Side, Ending, Going, marked, Leaf, Do, Later, Shown, Holder, Split, Opened, Entries, none, leaf, node, append, new_head, no_region, Place, held_place}
use Rattle.tp_scene.specs.Step.{region_limit, PickOutcome, reduces, waits, rests, clashes, misses, passes, Numbers, leaf_step}
use Rattle.tp_scene.specs.Fits.{kinds_in, IsCalm, PhraseFits, LeafFits, EntriesFit}
use Rattle.tp_scene.proofs.Parts.{Whatever}
use Rattle.tp_scene.proofs.Told.{Bundle, LeavesTold, HolderTold, Told}
use Rattle.tp_scene.proofs.FitsTold.{LocalIn, whatever_seen, fitting, fits_told}

module _ (defs : List Definition) (kinds : List Bool) (variables : List Variable) where
  pub entries_calm : (es : Entries) (p : Place) → EntriesFit defs kinds variables es p → IsCalm p
  entries_calm none p fit = fit.0
  entries_calm (leaf id l rest) p fit = entries_calm rest p fit.1
  entries_calm (node id k h held g second rest) p fit = entries_calm rest p fit.2

  pub entries_depth : (es : Entries) (p : Place) → EntriesFit defs kinds variables es p → p.depth ≤ region_limit
  entries_depth none p fit = fit.1
  entries_depth (leaf id l rest) p fit = entries_depth rest p fit.1
  entries_depth (node id k h held g second rest) p fit = entries_depth rest p fit.2

-- a mark is the region's, and a new local one of the variables
abbrev pub MarkIn : Option Side → Place → Type 0
MarkIn None p = Unit {0}
MarkIn (Some z) p = p.is z ≡ true

-- what a status says, the other says too
pub record IsMore (p p' : Place) : Type 0 where
  pub depth : p'.depth ≡ p.depth
  pub sides : (z : Side) → p.is z ≡ true → p'.is z ≡ true

-- `variables` are those of the store after the step
module _ (defs : List Definition) (kinds : List Bool) (definitions : DefinitionsFit defs kinds) (variables : List Variable) (among : (x : VarId) → IsVariable kinds x → IsVariable (kinds_in variables) x)
    (inputs : InputTable) (state : ℕ) (facts : List Fact) (n : Numbers) where
  abbrev all : List Bool
  all = kinds_in variables

  -- the new entries fit before what fits
  abbrev pub FitsAs : PickOutcome → Place → Type 0
  FitsAs (reduces r) p = MarkIn r.mark p → LocalIn r.local variables n.local → (rest : Entries) → EntriesFit defs kinds variables rest p → EntriesFit defs kinds variables (append r.news rest) p
  FitsAs (waits first other) p = Unit {0}
  FitsAs rests p = Unit {0}
  FitsAs (clashes c) p = Unit {0}
  FitsAs (misses port) p = Unit {0}
  FitsAs (passes k) p = Unit {0}

  -- a new region is one deeper and has the status that its holder gives it
  region_fits : (k : Holder) (number id : ℕ) (f : FormulaTree) (env : Bindings) (p : Place) → PhraseFits defs kinds variables f env → IsCalm p → p.depth < region_limit
      → ((z : Side) → (held_place k (new_head number) (leaf id (Do f env) none) p).is z ≡ true → p.is z ≡ true)
      → EntriesFit defs kinds variables (leaf id (Do f env) none) (held_place k (new_head number) (leaf id (Do f env) none) p)
  region_fits k number id f env p h calm l up = (h, ((λ e g. calm (up Ending e) (up Going g)), omega (arith, l)))

  -- a holder with a new region
  held_alone : (z : Side) (b : Bool) (number : ℕ) → (b || (false || (marked z (new_head number) || false))) ≡ true → b ≡ true
  held_alone z true number e = refl
  held_alone Ending false number e = absurd (false≢true e)
  held_alone Going false number e = absurd (false≢true e)

  module _ (p p' : Place) (more_is : IsMore p p') where
    left_up : (f : FormulaTree) (env : Bindings) (number id : ℕ) (g : FormulaTree) (env' : Bindings) (z : Side) → (held_place (Split g env') (new_head number) (leaf id (Do f env) none) p').is z ≡ true → p'.is z ≡ true
    left_up f env number id g env' Ending e = held_alone Ending (p'.is Ending) number e
    left_up f env number id g env' Going e = absurd (false≢true e)

    outer_up : (f : FormulaTree) (env : Bindings) (number id : ℕ) (g : FormulaTree) (env' : Bindings) (z : Side) → (held_place (Opened g env') (new_head number) (leaf id (Do f env) none) p').is z ≡ true → p'.is z ≡ true
    outer_up f env number id g env' Ending e = held_alone Ending (p'.is Ending) number e
    outer_up f env number id g env' Going e = held_alone Going (p'.is Going) number e

    split_fits : (f g : FormulaTree) (env env' : Bindings) (number id : ℕ) → PhraseFits defs kinds variables f env → PhraseFits defs kinds variables g env' → p'.depth < region_limit → (rest : Entries) → EntriesFit defs kinds variables rest p'
        → EntriesFit defs kinds variables (node id (Split g env') (new_head number) (leaf (n.item 0) (Do f env) none) no_region none rest) p'
    split_fits f g env env' number id u v l rest r = (v, region_fits (Split g env') number (n.item 0) f env p' u (entries_calm defs kinds variables rest p' r) l (left_up f env number (n.item 0) g env'), r)

    opened_fits : (f g : FormulaTree) (env env' : Bindings) (number id : ℕ) → PhraseFits defs kinds variables f env → PhraseFits defs kinds variables g env' → p'.depth < region_limit → (rest : Entries) → EntriesFit defs kinds variables rest p'
        → EntriesFit defs kinds variables (node id (Opened g env') (new_head number) (leaf (n.item 0) (Do f env) none) no_region none rest) p'
    opened_fits f g env env' number id u v l rest r = (v, region_fits (Opened g env') number (n.item 0) f env p' u (entries_calm defs kinds variables rest p' r) l (outer_up f env number (n.item 0) g env'), r)

    abbrev b : Bundle
    b = fitting defs kinds variables n Whatever

    leaves_fit : (mark : Option Side) → MarkIn mark p' → (from : ℕ) (es : Entries) (to : ℕ) → LeavesTold b facts p n mark from es to → (rest : Entries) → EntriesFit defs kinds variables rest p' → EntriesFit defs kinds variables (append es rest) p'
    leaves_fit mark m from none to h rest r = r
    leaves_fit mark m from (leaf id (Do f env) es) to h rest r = (h.1, leaves_fit mark m (suc from) es to h.2 rest r)
    leaves_fit mark m from (leaf id (Later f env) es) to h rest r = (
      (
        h.1.0,
        elim h.1.1 [
          | inl e ↦ subst (λ (x : Option Side). MarkIn x p') e m
          | inr g ↦ more_is.sides Going g
        ],
      ),
      leaves_fit mark m (suc from) es to h.2 rest r,
    )
    leaves_fit mark m from (leaf id (Shown vs) es) to h rest r = (tt, leaves_fit mark m (suc from) es to h.2 rest r)
    leaves_fit mark m from (node id k i held g second es) to h rest r = absurd h

    holder_fits : (k : Holder) → HolderTold b facts p n k → (f : FormulaTree) (env : Bindings) → PhraseFits defs kinds variables f env → p'.depth < region_limit → (rest : Entries) → EntriesFit defs kinds variables rest p'
        → EntriesFit defs kinds variables (node (n.item 1) k (new_head n.region) (leaf (n.item 0) (Do f env) none) no_region none rest) p'
    holder_fits (Split g env') h f env u d rest r = split_fits f g env env' n.region (n.item 1) u h d rest r
    holder_fits (Opened g env') h f env u d rest r = opened_fits f g env env' n.region (n.item 1) u h d rest r
    holder_fits k h f env u d rest r = absurd h

    fits_as : (o : PickOutcome) → Told b facts p n o → FitsAs o p'
    fits_as (reduces x) h = λ m l rest r. elim (h.news l) [
      | inl y ↦ leaves_fit x.mark m 0 x.news x.items y.0 rest r
      | inr y ↦ subst (λ (es : Entries). EntriesFit defs kinds variables (append es rest) p') (sym y.0.is)
          (holder_fits y.0.holder y.0.told y.0.item y.0.env y.0.phrase (let q = ltb-true p.depth region_limit y.0.shallow in let d = more_is.depth in omega (arith, q, d)) rest r)
    ]
    fits_as o h = tt

    pub leaf_fits : (l : Leaf) → LeafFits defs kinds variables l p → FitsAs (leaf_step defs inputs state facts l p n) p'
    leaf_fits (Do f env) h = fits_as _ (fits_told defs kinds variables n Whatever definitions among inputs state facts (whatever_seen facts variables) f env p h)
    leaf_fits l h = tt
