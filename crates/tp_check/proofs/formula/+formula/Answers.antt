use Rattle.std.proofs.Common.{◌≡◌, ◌∙◌, ◌<◌, ◌⊎◌, List, refl, sym, ap, subst, map, length, Ok, arith, rules}
use Rattle.std.proofs.lemmas.List.{length-map}
use Rattle.std.proofs.lemmas.Grind.{common_steps}
use Rattle.tp_tree.specs.declared.phrase.Phrase.{Phrase}
use Rattle.tp_tree.specs.Tree.{PhraseTree, PhraseTrees, phrases_of, form}
use Rattle.tp_tree.specs.Read.{phrase_tree, phrase_trees}
use Rattle.tp_tree.specs.Equations.{trees_are}
use Rattle.tp_meaning.specs.Syntax.{conjunction, formulas_of}
use Rattle.tp_kernel.specs.Read.{formula_tree}
use Rattle.tp_kernel.specs.Equations.{formula_and}
use Rattle.tp_scope.specs.Seen.{names_seen}
use Rattle.tp_check.specs.Building.{formula_seen}
use Rattle.tp_check.specs.Outcome.{mapped}
use Rattle.tp_check.specs.Answers.{AnswersCheck}
use Rattle.tp_check.specs.Positions.{formula_of, formula_of_kind, formulas_in}
use Rattle.tp_check.proofs.Several.{start_made, more_made, one_tree, two_trees}
use Rattle.tp_scope.proofs.Loops.{tree_of_for, tree_of_forall}
use Rattle.tp_check.proofs.Sides.{form_miscounted, tree_of_and}
use Rattle.tp_check.proofs.formula.+formula.Goals as goal

pub form_formula-returns-in-len1 : goal.form_formula-returns-in-len1
form_formula-returns-in-len1 t c =
    let seen = one_tree c.args.operands.now c.as_slice.result.now c.operand-item.result c.as_slice.ensures.value c.in-len1.len_at_least c.in-len1.len_below c.operand-item.is in
    subst (λ (ts : PhraseTrees). AnswersCheck formula_tree (formula_of_kind (names_seen c.args.names.now) c.args.at (form c.args.form ts)) c.form_of_one.result) (sym seen) c.form_of_one.ensures

pub form_formula-returns-in-len2 : goal.form_formula-returns-in-len2
form_formula-returns-in-len2 t c =
    let seen = two_trees c.args.operands.now c.as_slice.result.now c.first-item.result c.second-item.result c.as_slice.ensures.value c.in-len2.len_at_least c.in-len2.len_below c.first-item.is c.second-item.is in
    subst (λ (ts : PhraseTrees). AnswersCheck formula_tree (formula_of_kind (names_seen c.args.names.now) c.args.at (form c.args.form ts)) c.form_of_two.result) (sym seen) c.form_of_two.ensures

pub form_formula-returns-in_default-as_slice : goal.form_formula-returns-in_default-as_slice
form_formula-returns-in_default-as_slice t c = λ q.
    let xs : List Phrase = c.as_slice.result.now in
    let seen : phrase_trees c.args.operands.now ≡ phrases_of (map phrase_tree xs) = trees_are c.args.operands.now ∙ ap (λ (ys : List Phrase). phrases_of (map phrase_tree ys)) (sym c.as_slice.ensures.value) in
    let far : (length xs < 1) ⊎ (2 < length xs) = first_of (search rules, grind (arith, common_steps)) in
    ap (λ (ts : PhraseTrees). formula_of_kind (names_seen c.args.names.now) c.args.at (form c.args.form ts)) seen
    ∙ form_miscounted (names_seen c.args.names.now) c.args.at c.args.form (map phrase_tree xs) c.in_default.not-Display (rw length-map far)

pub formula-returns-in_ok-formulas-in-And : goal.formula-returns-in_ok-formulas-in-And
formula-returns-in_ok-formulas-in-And t c =
    ap (formula_of (names_seen c.args.names.now)) (tree_of_and c.args.phrase.now c.in-And.operands c.in-And.is)
    ∙ (ap (mapped (λ ws. conjunction (formulas_of ws))) c.in_ok-formulas-in-And.ensures ∙ ap Ok (sym (formula_and c.in_ok-formulas-in-And.field-0)))

pub formula-returns-in-For : goal.formula-returns-in-For
formula-returns-in-For t c =
    let names = names_seen c.args.names.now in
    let seen = tree_of_for c.args.phrase.now c.in-For.name c.in-For.to c.in-For.body c.deref-in-For-2.result.now c.deref-in-For.result.now c.in-For.is c.deref-in-For-2.ensures c.deref-in-For.ensures in
    subst (λ (p : PhraseTree). AnswersCheck formula_tree (formula_of names p) c.over_numbers.result) (sym seen) c.over_numbers.ensures

pub formula-returns-in-Forall : goal.formula-returns-in-Forall
formula-returns-in-Forall t c =
    let names = names_seen c.args.names.now in
    let seen = tree_of_forall c.args.phrase.now c.in-Forall.name c.in-Forall.to c.in-Forall.body c.deref-in-Forall-2.result.now c.deref-in-Forall.result.now c.in-Forall.is c.deref-in-Forall-2.ensures c.deref-in-Forall.ensures in
    subst (λ (p : PhraseTree). AnswersCheck formula_tree (formula_of names p) c.over_numbers-in-Forall.result) (sym seen) c.over_numbers-in-Forall.ensures

pub formulas-loop-phrase-init : goal.formulas-loop-phrase-init
formulas-loop-phrase-init t c = start_made formula_seen (formulas_in (names_seen c.args.names.now)) c.args.phrases.now c.deref-phrase-items.result.now c.new-items.result.items c.deref-phrase-items.ensures.value c.new-items.ensures.items

pub formulas-loop-phrase-preserved : goal.formulas-loop-phrase-preserved
formulas-loop-phrase-preserved t c =
    more_made formula_seen (λ ts. formulas_in (names_seen c.args.names.now) (phrases_of ts)) (formula_of (names_seen c.args.names.now)) _ _ _ c.deref-phrase-items.result.now c.loop-phrase.phrase-index c.phrase-item.result _ (λ p ps. refl) c.in_ok-push.ensures.items c.in_ok-shared_formula.ensures c.loop-phrase-test.true c.phrase-item.is c.loop-phrase.invariant
