-- What an item's step speaks of: its cells and clashes are of variables of the store, and a limit that it passes isn't that on reductions.
use Rattle.std.proofs.Common.{◌≡◌, inl, inr, ℕ, Bool, List, [], ◌∷◌, sym, subst, Option, Some, None}
use Rattle.tp_value.specs.declared.path.Fact.{Fact}
use Rattle.tp_value.specs.declared.path.VarId.{VarId}
use Rattle.tp_meaning.specs.Syntax.{Definition}
use Rattle.tp_meaning.specs.Inputs.{InputTable}
use Rattle.tp_meaning.specs.Fits.{DefinitionsFit, IsVariable}
use Rattle.tp_store.specs.Known.{Variable, IsVariableOf, AreOfVariables, Addition, adds, refuses, first_clash, refused_or, checked, new_facts}
use Rattle.tp_store.proofs.First.{FirstOf, first_is}
use Rattle.tp_eval.specs.Outcome as found
use Rattle.tp_eval.specs.Outcome.{PlaceOutcome, outcome, place_outcome}
use Rattle.tp_scene.specs.Scene.{Leaf, Do, Later, Shown, Holder, Split, SplitProject, Closed, Opened, Running, Entries, Region, Place, root_place}
use Rattle.tp_scene.specs.Step.{PickOutcome, reduces, waits, rests, clashes, misses, passes, Numbers, by_status, leaf_step, holder_step}
use Rattle.tp_scene.specs.Pick.{Setting, Moment, pick, outcome_of, numbers_of}
use Rattle.tp_scene.specs.Fits.{kinds_in, LeafFits, EntriesFit}
use Rattle.tp_scene.specs.Laws.{IsSound}
use Rattle.tp_scene.proofs.Frame.{region}
use Rattle.tp_scene.proofs.Keep.{picked_fit}
use Rattle.tp_scene.proofs.Globals.{of_variables_in}
use Rattle.tp_kernel.specs.declared.fault.LimitKind.{LimitKind}
use Rattle.tp_scene.specs.declared.answer.Cell.{Cell}
use Rattle.tp_scene.specs.declared.answer.Cell.TheVariants.{Part, End}
use Rattle.tp_scene.specs.declared.answer.Clash.{Clash}
use Rattle.tp_scene.specs.declared.answer.Clash.TheVariants.{Facts}
use Rattle.tp_scene.proofs.Parts.{status_has}
use Rattle.tp_scene.proofs.Told.{CellTold, OtherTold, ClashTold, Told}
use Rattle.tp_scene.proofs.FitsTold.{Sees, fitting, fits_told}
use Rattle.tp_step.specs.OfVariables.{CellIsOf, ClashIsOf}
use Rattle.tp_step.proofs.KnownValues.{IsOther, WaitsThere, undecided_of}

module _ (facts : List Fact) (variables : List Variable) (kept : AreOfVariables variables facts) where
  abbrev OtherIsOf : Option Cell → Type 0
  OtherIsOf None = Unit {0}
  OtherIsOf (Some cell) = CellIsOf variables cell

  abbrev pub IsTold : PickOutcome → Type 0
  IsTold (reduces r) = Unit {0}
  IsTold (waits first other) = CellIsOf variables first × OtherIsOf other
  IsTold rests = Unit {0}
  IsTold (clashes c) = ClashIsOf variables c
  IsTold (misses port) = Unit {0}
  IsTold (passes k) = IsOther k

  abbrev Waits : found.Outcome → Type 0
  Waits = WaitsThere (IsVariableOf variables)

  sees : Sees facts variables Waits
  sees = record {
    value = λ v. tt;
    waiting = λ q h. h;
    undecided = λ q p h e. subst (IsVariableOf variables) (sym (undecided_of facts q p e)) h;
    fault = λ k. tt;
    limits = (tt, tt, tt);
  }

  status_told : (p : Place) (o o' : PickOutcome) → IsTold o → IsTold o' → IsTold (by_status p o o')
  status_told p o o' h h' = status_has IsTold p o o' (λ g. h) (λ g e. h') (λ g e. (tt, tt))

  abbrev AdditionIsOf : Addition → Type 0
  AdditionIsOf (adds news) = Unit {0}
  AdditionIsOf (refuses old new) = IsVariableOf variables old.path.var × IsVariableOf variables new.path.var

  refused_of : (f : Fact) → IsVariableOf variables f.path.var → (o : Option Fact) → FirstOf facts f o → (rest : Addition) → AdditionIsOf rest → AdditionIsOf (refused_or o f rest)
  refused_of f h None first rest a = a
  refused_of f h (Some old) first rest a = (of_variables_in variables facts kept old first.kept, h)

  checked_of : (fs : List Fact) (o : Addition) → AreOfVariables variables fs → AdditionIsOf o → AdditionIsOf (checked facts fs o)
  checked_of [] o h a = a
  checked_of (f ∷ fs) o h a = refused_of f h.0 (first_clash facts f) (first_is facts f) (checked facts fs o) (checked_of fs o h.1 a)

  module _ (kinds : List Bool) (among : (x : VarId) → IsVariable kinds x → IsVariable (kinds_in variables) x) (defs : List Definition) (definitions : DefinitionsFit defs kinds) (inputs : InputTable) (state : ℕ) where
    cell_of : (p : Place) (n : Numbers) (c : Cell) → CellTold (fitting defs kinds variables n Waits) facts p n c → CellIsOf variables c
    cell_of p n (Part q) h = h
    cell_of p n (End region depth) h = tt

    other_of : (p : Place) (n : Numbers) (o : Option Cell) → OtherTold (fitting defs kinds variables n Waits) facts p n o → OtherIsOf o
    other_of p n None h = tt
    other_of p n (Some c) h = cell_of p n c h

    clash_of : (p : Place) (n : Numbers) (c : Clash) → ClashTold (fitting defs kinds variables n Waits) facts p n c → ClashIsOf variables c
    clash_of p n (Facts old new) h = subst AdditionIsOf h.2 (checked_of h.0 (adds (new_facts facts h.0)) h.1 tt)
    clash_of p n _ h = tt

    told_of : (p : Place) (n : Numbers) (o : PickOutcome) → Told (fitting defs kinds variables n Waits) facts p n o → IsTold o
    told_of p n (reduces r) h = tt
    told_of p n (waits first other) h = (cell_of p n first h.0, other_of p n other h.1)
    told_of p n rests h = tt
    told_of p n (clashes c) h = clash_of p n c h
    told_of p n (misses port) h = tt
    told_of p n (passes k) h = elim h [
      | inl u ↦ u
      | inr x ↦ elim x [
        | inl e ↦ subst IsOther (sym e) tt
        | inr e ↦ subst IsOther (sym e) tt
      ]
    ]

    leaf_told : (l : Leaf) (p : Place) (n : Numbers) → LeafFits defs kinds variables l p → IsTold (leaf_step defs inputs state facts l p n)
    leaf_told (Do f env) p n fit = told_of p n _ (fits_told defs kinds variables n Waits definitions among inputs state facts sees f env p fit)
    leaf_told (Later f env) p n fit = tt
    leaf_told (Shown vs) p n fit = tt

    holder_told : (k : Holder) (held second : Region) (q : Place) (n : Numbers) → IsTold (holder_step defs inputs state facts k held second q n)
    holder_told (Split f env) held second q n = status_told q _ _ tt tt
    holder_told (SplitProject f env) held second q n = status_told q _ _ tt tt
    holder_told Closed held second q n = tt
    holder_told (Opened f env) held second q n = status_told q _ _ tt tt
    holder_told (Running f env) held second q n = tt

  module _ (w : Setting) (kinds : List Bool) (among : (x : VarId) → IsVariable kinds x → IsVariable (kinds_in variables) x) (definitions : DefinitionsFit w.defs kinds) where
    picked_told : (t : ℕ) (es : Entries) (p : Place) (n : Numbers) → EntriesFit w.defs kinds variables es p → IsTold (pick w facts t es p n)
    picked_told t es p n fit =
        picked_fit IsTold w facts t n kinds variables tt (λ l p h. leaf_told kinds among w.defs definitions w.inputs w.state l p n h) (λ k held second q. holder_told kinds among w.defs definitions w.inputs w.state k held second q n) es p fit

module _ (w : Setting) (kinds : List Bool) (m : Moment) (sound : IsSound w kinds m) where
  among : (x : VarId) → IsVariable kinds x → IsVariable (kinds_in m.store.variables) x
  among x h = sound.store.globals x.number x.lasting h

  -- what an item of a sound moment comes to
  item_told : (t : ℕ) → IsTold m.store.facts m.store.variables sound.store.facts (outcome_of w m.store m.scene t)
  item_told t = picked_told m.store.facts m.store.variables sound.store.facts w kinds among sound.definitions t m.scene.root.entries (root_place m.scene.root) (numbers_of m.scene m.store.variables) sound.moment.entries

  pub clash_is_of : (t : ℕ) (clash : Clash) → outcome_of w m.store m.scene t ≡ clashes clash → ClashIsOf m.store.variables clash
  clash_is_of t clash e = let told : IsTold m.store.facts m.store.variables sound.store.facts (clashes clash) = subst (IsTold m.store.facts m.store.variables sound.store.facts) e (item_told t) in told

  pub cell_is_of : (t : ℕ) (cell : Cell) (other : Option Cell) → outcome_of w m.store m.scene t ≡ waits cell other → CellIsOf m.store.variables cell
  cell_is_of t cell other e = let told : IsTold m.store.facts m.store.variables sound.store.facts (waits cell other) = subst (IsTold m.store.facts m.store.variables sound.store.facts) e (item_told t) in told.0

  -- the limit that an item passes isn't that on reductions
  pub passes_other : (t : ℕ) (k : LimitKind) → outcome_of w m.store m.scene t ≡ passes k → IsOther k
  passes_other t k e = let told : IsTold m.store.facts m.store.variables sound.store.facts (passes k) = subst (IsTold m.store.facts m.store.variables sound.store.facts) e (item_told t) in told
