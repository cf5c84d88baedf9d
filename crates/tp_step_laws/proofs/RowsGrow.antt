-- The rows of the table where more is known.
use Rattle.std.proofs.Common.{◌≡◌, ℕ, Bool, true, false, List, [], Some, refl, sym, subst}
use Rattle.tp_value.specs.Tree.{Tree}
use Rattle.tp_value.specs.declared.path.Fact.{Fact}
use Rattle.tp_meaning.specs.Syntax.{ExprTree, equation}
use Rattle.tp_store.specs.Known.{NoClash}
use Rattle.tp_scene.specs.Scene.{Bindings, Side, other_side, Ending, Going, Leaf, Do, Closed, Opened, Running, Entries, Place}
use Rattle.tp_scene.specs.Step.{Reduction, PickOutcome, reduces, Numbers, marking, side_of, side_with, from_port, formula_step, leaf_step}
use Rattle.tp_scene.specs.Pick.{Setting}
use Rattle.tp_scene.specs.Fits.{IsCalm}
use Rattle.tp_step_laws.specs.Rows.{Grows, IsFailure, SameFacts, GrownTo, LeafRowsGrow, HolderGrown, HolderRowsGrow}
use Rattle.tp_step_laws.specs.Outcomes.{KnowsMore}
use Rattle.tp_step_laws.specs.Within.{LengthsAreWithin}
use Rattle.tp_step_laws.proofs.Table.{status_case, Respects, formula_row}
use Rattle.tp_step_laws.proofs.EqGrow.{nothing_new, bad_grown, equate_values_grows}
use Rattle.tp_step_laws.proofs.PlacesGrow.{equate_grows}
use Rattle.tp_step_laws.proofs.SideGrow.{side_grows, value_side}

module _ (gs : List Fact) (gc : NoClash gs) where
  same_grown : (r : Reduction) → r.facts ≡ [] → GrownTo gs (reduces r) (reduces r)
  same_grown r e = record { news = refl; items = refl; regions = refl; local = refl; mark = refl; facts = subst (λ (l : List Fact). SameFacts gs l l) (sym e) (nothing_new gs gc) }

  failing_grown : (o u : PickOutcome) → IsFailure o → IsFailure u → GrownTo gs o u
  failing_grown o u h k = bad_grown gs o u k

  marking_grown : (z : Side) (b c : Bool) (d e : ℕ) (news : Entries) (i : ℕ) → (b ≡ true → c ≡ true) → GrownTo gs (marking z b d news i) (marking z c e news i)
  marking_grown z true c d e news i h = subst (λ (x : Bool). IsFailure (marking z x e news i)) (sym (h refl)) tt
  marking_grown z false true d e news i h = tt
  marking_grown z false false d e news i h = same_grown _ refl

  respects_growth : (p q : Place) → Grows p q → Respects (GrownTo gs) p q
  respects_growth p q up = record {
    waiting = λ first other u. tt;
    failing = failing_grown;
    same = same_grown;
    marks = λ z news i. marking_grown z (p.is (other_side z)) (q.is (other_side z)) p.depth q.depth news i (up.sides (other_side z));
  }

module _ (w : Setting) (fs gs : List Fact) (fc : NoClash fs) (gc : NoClash gs) (knows : KnowsMore fs gs) (within : LengthsAreWithin gs) (p q : Place) (n : Numbers) (up : Grows p q) (calm : IsCalm q) where
  abbrev G : PickOutcome → PickOutcome → Type 0
  G = GrownTo gs

  equation_row : (env : Bindings) (l r : ExprTree) → G (formula_step w.defs w.inputs w.state fs (equation l r) env p n) (formula_step w.defs w.inputs w.state gs (equation l r) env q n)
  equation_row env l r = equate_grows fs gs fc gc knows within
      (side_of w.defs fs l env) (side_of w.defs fs r env) (side_of w.defs gs l env) (side_of w.defs gs r env) n refl refl
      (side_grows w.defs fs gs fc gc knows env w.inputs w.state l) (side_grows w.defs fs gs fc gc knows env w.inputs w.state r)

  port_row : (env : Bindings) (v : Tree) (port : List ℕ) (x : ExprTree)
      → G (from_port fs (Some v) port (side_of w.defs fs x env)) (from_port gs (Some v) port (side_of w.defs gs x env))
  port_row env v port x = equate_values_grows fs gs fc gc knows within
      (side_of w.defs fs x env) (side_with v) (side_of w.defs gs x env) (side_with v) refl refl
      (side_grows w.defs fs gs fc gc knows env w.inputs w.state x) (value_side w.defs fs gs fc gc knows env v)

  leaf_row : (l : Leaf) → G (leaf_step w.defs w.inputs w.state fs l p n) (leaf_step w.defs w.inputs w.state gs l q n)
  leaf_row (Do f env) = formula_row w fs gs fc gc knows p q n up calm G (respects_growth gs gc p q up) env (equation_row env) (λ v port x h. port_row env v port x) f
  leaf_row l = tt

pub leaf_rows_grow : LeafRowsGrow
leaf_rows_grow w fs gs fc gc knows within l p q n up calm = leaf_row w fs gs fc gc knows within p q n up calm l

pub holder_rows_grow : HolderRowsGrow
holder_rows_grow w fs gs Closed n p q up calm h i g s h' i' g' s' = refl
holder_rows_grow w fs gs (Opened f env) n p q up calm h i g s h' i' g' s' =
    status_case (HolderGrown (Opened f env) n h' i' g' s') _ _ _ _ _ _ (refl, refl) refl (λ u. tt) (p.is Going) (p.is Ending) (q.is Going) (q.is Ending) (up.sides Going) (up.sides Ending) calm
holder_rows_grow w fs gs (Running f env) n p q up calm h i g s h' i' g' s' = refl
holder_rows_grow w fs gs k n p q up calm h i g s h' i' g' s' =
    status_case (HolderGrown k n h' i' g' s') _ _ _ _ _ _ refl (refl, refl) (λ u. tt) (p.is Going) (p.is Ending) (q.is Going) (q.is Ending) (up.sides Going) (up.sides Ending) calm
