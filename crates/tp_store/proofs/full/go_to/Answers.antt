use Rattle.std.proofs.Common.{◌≡◌, ◌+◌, ◌-◌, ◌++◌, ◌∷◌, [], ℕ, List, length, slice_set, refl, ap, ap₂, ◌∙◌, arith}
use Rattle.std.proofs.lemmas.List.{length-append}
use Rattle.tp_value.specs.declared.path.Path.{Path}
use Rattle.tp_store.proofs.full.go_to.Goals as goal

set_last : (xs : List ℕ) (k i : ℕ) → slice_set (xs ++ k ∷ []) (length xs) i ≡ xs ++ i ∷ []
set_last [] k i = refl
set_last (x ∷ xs) k i = ap (λ (ys : List ℕ). x ∷ ys) (set_last xs k i)

pub returns : goal.returns
returns c path k e =
    let seen = c.inner.view_is ∙ e in
    let items = ap (λ (p : Path). p.at) seen in
    let long : length (path.at ++ k ∷ []) ≡ length path.at + 1 = length-append path.at (k ∷ []) in
    let same = ap (λ (xs : List ℕ). length xs) items in
    let place : c.len-last.result - 1 ≡ length path.at = omega (arith, c.len-last.ensures, same, long) in
    ap₂ (λ x (xs : List ℕ). record { var = x; at = xs }) (ap (λ (p : Path). p.var) seen)
    (ap₂ (λ (xs : List ℕ) j. slice_set xs j c.args.index) items place ∙ set_last path.at k c.args.index)
