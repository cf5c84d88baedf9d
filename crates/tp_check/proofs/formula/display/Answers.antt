use Rattle.std.proofs.Common.{◌≡◌, ◌<◌, ◌∙◌, List, length, map, sym, ap, Ok, rules, arith}
use Rattle.std.proofs.lemmas.List.{length-map}
use Rattle.std.proofs.lemmas.Grind.{common_steps}
use Rattle.tp_tree.specs.declared.phrase.Phrase.{Phrase}
use Rattle.tp_tree.specs.declared.phrase.Phrases.{out-Phrases}
use Rattle.tp_tree.specs.declared.operator.Form.TheVariants.{Display}
use Rattle.tp_tree.specs.Tree.{PhraseTree, PhraseTrees, phrases_of, form}
use Rattle.tp_tree.specs.Read.{phrase_tree, phrase_trees}
use Rattle.tp_tree.specs.Equations.{trees_are}
use Rattle.tp_meaning.specs.Syntax.{display, exprs_of}
use Rattle.tp_kernel.specs.Equations.{expr_trees_is, formula_display}
use Rattle.tp_scope.specs.Seen.{names_seen}
use Rattle.tp_check.specs.Outcome.{mapped}
use Rattle.tp_check.specs.Positions.{exprs_in, formula_of_kind}
use Rattle.tp_check.proofs.Sides.{display_of_some}
use Rattle.tp_check.proofs.formula.display.Goals as goal

pub returns : goal.returns
returns c =
    let names = names_seen c.args.names.now in
    let xs : List Phrase = (out-Phrases c.args.operands.now).items.items in
    let ts : List PhraseTree = map phrase_tree xs in
    let trees : phrase_trees c.args.operands.now ≡ phrases_of ts = trees_are c.args.operands.now in
    let some : 0 < length xs = first_of (search rules, grind (arith, common_steps)) in
    ap (λ (ps : PhraseTrees). formula_of_kind names c.args.at (form Display ps)) trees
    ∙ (display_of_some names c.args.at ts (rw (length-map xs phrase_tree) some)
    ∙ (ap (λ (ps : PhraseTrees). mapped (λ es. display (exprs_of es)) (exprs_in names ps)) (sym trees)
    ∙ (ap (mapped (λ es. display (exprs_of es))) c.in_ok-expressions.ensures ∙ ap Ok (ap display (sym (expr_trees_is c.in_ok-expressions.field-0)) ∙ sym (formula_display c.in_ok-expressions.field-0)))))
