use Rattle.std.proofs.Common.{rules, arith, ◌<◌, ◌⊎◌, ◌∙◌, List, refl, sym, ap, subst, length, Ok}
use Rattle.std.proofs.lemmas.Grind.{common_steps}
use Rattle.tp_tree.specs.declared.phrase.Phrase.{Phrase}
use Rattle.tp_tree.specs.Tree.{PhraseTrees, phrases_of, form}
use Rattle.tp_tree.specs.Read.{phrase_trees}
use Rattle.tp_scope.specs.Seen.{names_seen}
use Rattle.tp_scope.specs.Phrases.{phrase_count}
use Rattle.tp_scope.proofs.Several.{count_of}
use Rattle.tp_check.specs.Outcome.{mapped}
use Rattle.tp_check.specs.Answers.{AnswersCheck}
use Rattle.tp_check.proofs.Several.{start_made, more_made, one_tree}
use Rattle.tp_check.proofs.Sides.{tree_of_and}
use Rattle.tp_verdict.specs.Wide.{conjunction, wide_formulas_of}
use Rattle.tp_verdict.specs.Read.{wide_tree}
use Rattle.tp_verdict.proofs.WideTrees.{wide_and}
use Rattle.tp_monitor.specs.WideOf.{wide_of, wide_of_kind, wide_in}
use Rattle.tp_monitor.proofs.Forms.{not_one}
use Rattle.tp_monitor.proofs.wide_formula_of.+wide_formula_of.Goals as goal

pub wide_form-returns-in-len1 : goal.wide_form-returns-in-len1
wide_form-returns-in-len1 t c =
    let seen = one_tree c.args.operands.now c.as_slice.result.now c.operand-item.result c.as_slice.ensures.value c.in-len1.len_at_least c.in-len1.len_below c.operand-item.is in
    subst (λ (ts : PhraseTrees). AnswersCheck wide_tree (wide_of_kind (names_seen c.args.names.now) c.args.phrase.now.at (form c.args.form ts)) c.wide_form_of_one.result) (sym seen) c.wide_form_of_one.ensures

pub wide_formula_of-returns-in_ok-wides-in-And : goal.wide_formula_of-returns-in_ok-wides-in-And
wide_formula_of-returns-in_ok-wides-in-And t c =
    ap (wide_of (names_seen c.args.names.now)) (tree_of_and c.args.phrase.now c.in-And.operands c.in-And.is)
    ∙ (ap (mapped (λ ws. conjunction (wide_formulas_of ws))) c.in_ok-wides-in-And.ensures ∙ ap Ok (sym (wide_and c.in_ok-wides-in-And.field-0)))

pub wides-loop-phrase-init : goal.wides-loop-phrase-init
wides-loop-phrase-init t c = start_made wide_tree (wide_in (names_seen c.args.names.now)) c.args.phrases.now c.deref-phrase-items.result.now c.new-items.result.items c.deref-phrase-items.ensures.value c.new-items.ensures.items

pub wides-loop-phrase-preserved : goal.wides-loop-phrase-preserved
wides-loop-phrase-preserved t c =
    more_made wide_tree (λ ts. wide_in (names_seen c.args.names.now) (phrases_of ts)) (wide_of (names_seen c.args.names.now)) _ _ _ c.deref-phrase-items.result.now c.loop-phrase.phrase-index c.phrase-item.result _ (λ p ps. refl) c.in_ok-push.ensures.items c.in_ok-wide_formula_of.ensures c.loop-phrase-test.true c.phrase-item.is c.loop-phrase.invariant

pub wide_form-form_of_other_count-requires-clause-others : goal.wide_form-form_of_other_count-requires-clause-others
wide_form-form_of_other_count-requires-clause-others t c =
    let xs : List Phrase = c.as_slice.result.now in
    let far : (length xs < 1) ⊎ (1 < length xs) = first_of (search rules, grind (arith, common_steps)) in
    not_one (length xs) (phrase_count (phrase_trees c.args.operands.now)) (count_of c.args.operands.now ∙ ap (λ (ys : List Phrase). length ys) (sym c.as_slice.ensures.value)) far
