-- Sides of equations.
use Rattle.std.proofs.Common.{◌≡◌, Bool, true, cond, List, refl, ap, sym, ◌∙◌, inl, inr, Option, Some, if◌then◌else◌}
use Rattle.std.proofs.lemmas.Bool.{cases_Bool}
use Rattle.tp_value.specs.Tree.{Tree, same_tree, SameTreeIsEquality}
use Rattle.tp_value.specs.declared.path.Fact.{Fact}
use Rattle.tp_value.specs.declared.path.Path.{Path}
use Rattle.tp_value.specs.Limits.{is_within_list_limit}
use Rattle.tp_meaning.specs.Syntax.{ExprTree, size, known, Definition, BindingTree}
use Rattle.tp_store.specs.Known.{addition}
use Rattle.tp_store.specs.Facts.{facts_at}
use Rattle.tp_eval.specs.Evaluate.{is_place}
use Rattle.tp_eval.specs.Outcome as found
use Rattle.tp_scene.specs.declared.answer.Clash.TheVariants as clash
use Rattle.tp_scene.specs.Step as row
use Rattle.tp_scene.specs.Step.{PickOutcome}
use Rattle.tp_eval.specs.Outcome.{outcome}
use Rattle.tp_decide.specs.Found.{IsNoSize}
use Rattle.tp_decide.specs.Equated.{Awaits}

module _ (defs : List Definition) (facts : List Fact) (env : List BindingTree) where
  pub plain_target : (e : ExprTree) → IsNoSize e → row.target_of defs facts e env ≡ row.target_if defs facts (is_place e) row.value_at e env
  plain_target (size e) h = absurd h
  plain_target _ h = refl

abbrev pub side : Bool → Option row.Target → found.Outcome → row.SideOf
side b t o = record { placed = b; target = t; found = o }

pub side_same : (b c : Bool) (t u : Option row.Target) (o p : found.Outcome) → b ≡ c → t ≡ u → o ≡ p → side b t o ≡ side c u p
side_same b c t u o p e f g = ap (λ x. side x t o) e ∙ ap (λ x. side c x o) f ∙ ap (side c u) g

-- the values are equal, or aren't
pub equal_vanishes : (s t : Tree) → SameTreeIsEquality → s ≡ t → row.vanishes ≡ cond (same_tree s t) row.vanishes (row.clashes clash.False)
equal_vanishes s t law e = let h : same_tree s t ≡ true = (law s t).1 e in rw h

pub different_clashes : (s t : Tree) → SameTreeIsEquality → (s ≡ t → ⊥) → row.clashes clash.False ≡ cond (same_tree s t) row.vanishes (row.clashes clash.False)
different_clashes s t law e = elim (cases_Bool (same_tree s t)) [ inl h ↦ absurd (e ((law s t).0 h)) | inr h ↦ rw h ]

-- what an equation becomes by what is found
pub right_value : (facts : List Fact) (b : Bool) (t : Option row.Target) (u v : Tree) (r : row.SideOf) → r.found ≡ found.value v → row.meets facts (side b t (found.value u)) v ≡ row.equate_values facts (side b t (found.value u)) r
right_value facts b t u v r h = rw h refl

pub right_value_waits : (facts : List Fact) (b : Bool) (t : Option row.Target) (p : Path) (v : Tree) (r : row.SideOf) → r.found ≡ found.value v → row.meets facts (side b t (found.wait p)) v ≡ row.equate_values facts (side b t (found.wait p)) r
right_value_waits facts b t p v r h = rw h refl

-- what a known value is found to be
known_found : (facts : List Fact) (defs : List Definition) (env : List BindingTree) (t : Tree) → is_within_list_limit t ≡ true → outcome facts defs (known t) env ≡ found.value t
unfolding outcome
known_found facts defs env t h = rw h refl

-- a side that waits gets a known value
pub known_set : (facts : List Fact) (defs : List Definition) (env : List BindingTree) (l : row.SideOf) (p : Path) (t : Tree) → Awaits l p → is_within_list_limit t ≡ true
    → row.added (addition facts (facts_at p t)) ≡ row.equate_values facts l (row.side_of defs facts (known t) env)
known_set facts defs env l p t a h =
    let r = row.side_of defs facts (known t) env in
    right_value_waits facts l.placed (Some (row.value_at p)) a.cell t r (known_found facts defs env t h)
    ∙ ap (λ s. row.equate_values facts s r) (side_same l.placed l.placed _ _ _ _ refl (sym a.target) (sym a.found))
