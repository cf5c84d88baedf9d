-- What the facts of a whole value decide: each place in it.
use Rattle.std.proofs.Common.{◌≡◌, inl, inr, Bool, true, List, [], ◌∷◌, Option, None, Some, refl, ap, ◌∙◌, subst}
use Rattle.std.specs.List.{list_any}
use Rattle.std.proofs.lemmas.Bool.{or_cases, or_left, or_right, and_parts, false≢true}
use Rattle.tp_value.specs.Tree.{Tree}
use Rattle.tp_value.specs.Shape.{shape_of, item_at}
use Rattle.tp_value.specs.declared.path.VarId.{VarId}
use Rattle.tp_value.specs.declared.path.Path.{Path}
use Rattle.tp_value.specs.declared.path.Fact.{Fact}
use Rattle.tp_store.specs.Facts.{same_variable, same_path, excludes, facts_at, fact}
use Rattle.tp_store.specs.Nodes.{path_along}
use Rattle.tp_store.proofs.Paths.{same_variable-decides, same_path-refl}
use Rattle.tp_store.proofs.Members.{In, excluded_by}
use Rattle.tp_store.proofs.Parts.{of_in}
use Rattle.tp_store.proofs.Separate.{value_of_variable}
use Rattle.tp_store.proofs.Inside.{path_in_value, path_outside}
use Rattle.tp_scene.specs.Decided.{decides_path}
use Rattle.tp_scene.specs.declared.answer.Cell.{Cell}
use Rattle.tp_scene.specs.declared.answer.Cell.TheVariants.{Part, End}
use Rattle.tp_step.specs.declared.tally.Wait.{Wait}
use Rattle.tp_agenda.specs.Board.{facts_decide}
use Rattle.tp_agenda.specs.Decides.{fact_decides, is_place_of, leads_into}
use Rattle.tp_agenda.specs.Wakes.{WakesOnly, AreOver}
use Rattle.tp_agenda.proofs.Waking.{only_weaker, over_stronger, decides_holds}

pub passing_fact : (test : Fact → Bool) (fs : List Fact) → list_any test fs ≡ true → (f : Fact) × In f fs × (test f ≡ true)
passing_fact test [] e = absurd (false≢true e)
passing_fact test (f ∷ fs) e = elim (or_cases (test f) (list_any test fs) e) [
  | inl x ↦ (f, inl refl, x)
  | inr x ↦ (let r = passing_fact test fs x in (r.0, inr r.1, r.2))
]

fact_passes : (test : Fact → Bool) (fs : List Fact) (f : Fact) → In f fs → test f ≡ true → list_any test fs ≡ true
fact_passes test [] f i e = absurd i
fact_passes test (g ∷ fs) f (inl same) e = or_left (test g) (list_any test fs) (ap test same ∙ e)
fact_passes test (g ∷ fs) f (inr i) e = or_right (test g) (list_any test fs) (fact_passes test fs f i e)

module _ (x : VarId) (t : Tree) where
  abbrev fs : List Fact
  fs = facts_at (path_along x []) t

  -- each fact of the value is of the variable, and decides only places in it
  pub place_of_variable : (c : Cell) → facts_decide fs c ≡ true → is_place_of x c ≡ true
  place_of_variable (Part p) e =
      let r = passing_fact (λ f. fact_decides f (Part p)) fs e in
      let holds = and_parts (same_variable r.0.path.var p.var) (leads_into r.0.path.at p.at) (decides_holds r.0 p r.2) in
      subst (λ (y : VarId). same_variable y p.var ≡ true) (of_in x fs (value_of_variable (path_along x []) t) r.0 r.1) holds.0
  place_of_variable (End region depth) e =
      let r = passing_fact (λ f. fact_decides f (End region depth)) fs e in
      absurd (false≢true r.2)

  place_along : (p : Path) → x ≡ p.var → path_along x p.at ≡ p
  place_along p e = ap (λ y. path_along y p.at) e

  -- what stands there has a fact, and where nothing does, a fact excludes the place
  place_decided : (p : Path) → facts_decide fs (Part (path_along x p.at)) ≡ true
  place_decided p =
      let q = path_along x p.at in
      let test : Fact → Bool = λ f. decides_path f q in
      let P : Option Tree → Type 0 = λ o. item_at p.at t ≡ o → list_any test fs ≡ true in
      let none : P None = λ e. (let r = excluded_by fs q (path_outside x t p.at e) in fact_passes test fs r.0 r.1 (or_right (same_path r.0.path q) (excludes r.0 q) r.2)) in
      let some : (u : Tree) → P (Some u) = λ u e. (let f = fact q (shape_of u) in fact_passes test fs f (path_in_value x t p.at u e) (or_left (same_path q q) (excludes f q) (same_path-refl q))) in
      let cases : P (item_at p.at t) = elim (item_at p.at t) as P [ None ↦ none | Some u ↦ some u ] in
      cases refl

  pub place_is_decided : (c : Cell) → is_place_of x c ≡ true → facts_decide fs c ≡ true
  place_is_decided (Part p) e = subst (λ (q : Path). facts_decide fs (Part q) ≡ true) (place_along p ((same_variable-decides x p.var).0 e)) (place_decided p)
  place_is_decided (End region depth) e = absurd (false≢true e)

  module _ (waits : List Wait) (ready over ready' over' : List Bool) where
    pub given_woken : WakesOnly waits (is_place_of x) ready over ready' over' → WakesOnly waits (facts_decide fs) ready over ready' over'
    given_woken h = only_weaker waits (is_place_of x) (facts_decide fs) ready over ready' over' place_is_decided h

    pub given_over : AreOver waits (is_place_of x) over' → AreOver waits (facts_decide fs) over'
    given_over h = over_stronger waits (is_place_of x) (facts_decide fs) over' place_of_variable h
