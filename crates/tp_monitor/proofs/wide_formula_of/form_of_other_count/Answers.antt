use Rattle.tp_tree.specs.Read.{phrase_trees}
use Rattle.tp_scope.specs.Seen.{names_seen}
use Rattle.tp_monitor.proofs.Forms.{outer_form_refused}
use Rattle.tp_monitor.proofs.wide_formula_of.form_of_other_count.Goals as goal

pub returns-in-Input : goal.returns-in-Input
returns-in-Input c = λ _.
    let names = names_seen c.args.names.now in
    outer_form_refused names c.args.phrase.now.at c.args.form (phrase_trees c.args.operands.now) c.miscounted_or.result c.in-Input.is (c.miscounted_or.ensures names)
