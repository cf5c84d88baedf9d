use Rattle.std.proofs.Common.{refl, ap, sym, ◌∙◌, ◌≡◌, ◌∷◌, ◌++◌, [], ℕ, List}
use Rattle.tp_meaning.specs.Syntax.{FormulaTree, exists}
use Rattle.tp_value.specs.Globals.{is_lower}
use Rattle.tp_kernel.specs.Read.{formula_tree}
use Rattle.tp_scope.specs.Scope.{Names}
use Rattle.tp_check.specs.Positions.{exists_of}
use Rattle.tp_check.proofs.hiding.exists_each.Goals as goal

-- one more within
exists_within : (xs : Names) (x : List ℕ) (w : FormulaTree) → exists_of (xs ++ x ∷ []) w ≡ exists_of xs (exists_of (x ∷ []) w)
exists_within [] x w = refl
exists_within (y ∷ xs) x w = ap (exists y (is_lower y)) (exists_within xs x w)

pub loop-name-preserved : goal.loop-name-preserved
loop-name-preserved c =
    let rest : Names = c.next.new.self.iter.rest.now in
    let name : List ℕ = c.in-Some.name.now in
    let w : FormulaTree = formula_tree c.loop-name.whole in
    let left : c.loop-name.name-iterator.iter.rest.now ≡ rest ++ name ∷ [] = c.in-Some.ensures.steps in
    ap (exists_of rest) c.in_ok-whole.ensures ∙ (sym (exists_within rest name w) ∙ (ap (λ (xs : Names). exists_of xs w) (sym left) ∙ c.loop-name.invariant))
