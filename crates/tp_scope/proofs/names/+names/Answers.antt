use Rattle.std.proofs.Common.{◌≡◌, ℕ, List, sym, ap, ◌∙◌, ◌∷◌}
use Rattle.std.proofs.lemmas.Result.{IfOk-weaker}
use Rattle.tp_tree.specs.declared.phrase.Phrase.{Phrase}
use Rattle.tp_tree.specs.Read.{phrase_tree}
use Rattle.tp_scope.specs.Scope.{Names, bound_in}
use Rattle.tp_scope.specs.Seen.{names_bound}
use Rattle.tp_scope.specs.Names.{names_with, names_in}
use Rattle.tp_scope.proofs.Apart.{bound_inner}
use Rattle.tp_scope.proofs.Several.{names_join}
use Rattle.tp_scope.proofs.Loops.{names_of_loop}
use Rattle.tp_scope.proofs.names.+names.Goals as goal

pub add_names-returns-in_ok-binders-in-For : goal.add_names-returns-in_ok-binders-in-For
add_names-returns-in_ok-binders-in-For t c =
    let scope : Names = names_bound c.args.scope.now in
    let before : Names = c.args.globals.now in
    let x : List ℕ = c.in-For.name in
    let l : Phrase = c.deref-in-For.result.now in
    let r : Phrase = c.deref-in-For-2.result.now in
    let all = names_of_loop scope c.args.phrase.now x c.in-For.bound c.in-For.body l r c.in-For.is c.deref-in-For.ensures c.deref-in-For-2.ensures in
    let inside = λ (inner : Names) (e : inner ≡ x ∷ scope) (names : Names) (second : names ≡ names_with c.add_names-in-For.new.globals (names_in inner (phrase_tree r))).
    second
    ∙ (ap (λ (s : Names). names_with c.add_names-in-For.new.globals (names_in s (phrase_tree r))) e
    ∙ (ap (λ (ns : Names). names_with ns (names_in (x ∷ scope) (phrase_tree r))) c.in_ok-add_names-in-For.ensures
    ∙ (sym (names_join before (names_in scope (phrase_tree l)) (names_in (x ∷ scope) (phrase_tree r))) ∙ ap (names_with before) (sym all)))) in
    IfOk-weaker c.add_names-in-For-2.result _ _ (λ _ second. inside _ (bound_inner _ _ ∙ ap (bound_in scope) c.in_ok-binders-in-For.ensures) _ second) c.add_names-in-For-2.ensures
