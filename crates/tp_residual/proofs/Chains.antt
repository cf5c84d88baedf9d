-- Names that are hidden by `exists` one in another.
use Rattle.std.proofs.Common.{Bor, ◌≡◌, ℕ, Bool, List, [], ◌∷◌, ◌++◌, codes, sym, ap, ap₂, ◌∙◌, append_assoc, append-nil}
use Rattle.std.specs.declared.rc.Rc.{Rc}
use Rattle.std.specs.declared.alloc.Global.{Global}
use Rattle.tp_meaning.specs.Syntax.{FormulaTree}
use Rattle.tp_kernel.specs.declared.formula.Formula.{Formula}
use Rattle.tp_kernel.specs.declared.formula.Formula.TheVariants as formula
use Rattle.tp_kernel.specs.Read.{formula_tree}
use Rattle.tp_kernel.specs.Equations.{formula_exists}
use Rattle.tp_residual.specs.Phrases.{BoundName, Vocabulary, naming}
use Rattle.tp_residual.specs.Parts.{formula_spelling}
use Rattle.tp_residual.specs.Read.{bound_names, own_bound_names}
use Rattle.tp_residual.specs.Chain.{naming_all, within_spelling}
use Rattle.tp_residual.specs.declared.words.Bound.{Bound}
use Rattle.tp_residual.specs.declared.words.Bound.TheVariants.{Chain}
use Rattle.tp_residual.proofs.BoundNames.{names_chained}

abbrev bound_as : Vocabulary → List BoundName → Vocabulary
bound_as v names = record { variables = v.variables; definitions = v.definitions; bound = names }

abbrev exists_spelling : Vocabulary → List ℕ → FormulaTree → List ℕ
exists_spelling v name w = codes "exists " ++ name ++ codes " : " ++ within_spelling (naming v name) w

-- the first name, with what is behind it
chain_first : (v : Vocabulary) (name : List ℕ) (w : FormulaTree) (out : List ℕ)
    → (out ++ (codes "exists " ++ name ++ codes " : ")) ++ within_spelling (naming_all v (name ∷ [])) w ≡ out ++ exists_spelling v name w
chain_first v name w out =
    let pieces : (a b c d e : List ℕ) → (a ++ (b ++ c ++ d)) ++ e ≡ a ++ (b ++ c ++ d ++ e) = λ a b c d e. simp append_assoc in
    pieces out (codes "exists ") name (codes " : ") (within_spelling (naming_all v (name ∷ [])) w)

-- what is hidden by the names of a chain
pub hiding_written : (v : Vocabulary) (outer : Bor Bound) (names : Bor (List (List ℕ))) (w : FormulaTree) (out new : List ℕ)
    → v.bound ≡ bound_names outer.now
    → new ≡ out ++ within_spelling (record { variables = v.variables; definitions = v.definitions; bound = bound_names (Chain names outer) }) w
    → new ≡ out ++ within_spelling (naming_all v names.now) w
hiding_written v outer names w out new e h =
    let all = ap (bound_as v) (names_chained names outer ∙ ap (λ b. b ++ own_bound_names names.now) (sym e)) in
    h ∙ ap (λ u. out ++ within_spelling u w) all

-- a chain, with its first name and what it is hidden in
pub exists_written : (v : Vocabulary) (f : Formula) (name : List ℕ) (lasting : Bool) (body : Rc Formula Global) (d : Formula) (within : FormulaTree) (start first before new : List ℕ) (one names : List (List ℕ))
    → f ≡ formula.Exists name lasting body
    → d ≡ body.value
    → first ≡ start ++ (codes "exists " ++ name ++ codes " : ")
    → one ≡ name ∷ []
    → before ++ within_spelling (naming_all v names) within ≡ first ++ within_spelling (naming_all v one) (formula_tree d)
    → new ≡ before ++ within_spelling (naming_all v names) within
    → new ≡ start ++ formula_spelling v (formula_tree f)
exists_written v f name lasting body d within start first before new one names is same e o chain h =
    let first_too = ap₂ (λ a ns. a ++ within_spelling (naming_all v ns) (formula_tree d)) e o ∙ chain_first v name (formula_tree d) start in
    let of_body = ap (λ (g : Formula). start ++ exists_spelling v name (formula_tree g)) same in
    let of_whole = ap (λ w. start ++ formula_spelling v w) (sym (ap formula_tree is ∙ formula_exists name lasting body)) in
    let one_name = ap (λ x. start ++ (codes "exists " ++ x ++ codes " : " ++ within_spelling (naming v name) (formula_tree body.value))) (sym (append-nil name)) in
    h ∙ (chain ∙ (first_too ∙ (of_body ∙ (one_name ∙ of_whole))))
