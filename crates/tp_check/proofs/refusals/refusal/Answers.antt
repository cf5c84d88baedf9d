use Rattle.std.proofs.Common.{◌≡◌, ◌∙◌, sym, ap}
use Rattle.tp_tree.specs.Tree.{KindTree, form}
use Rattle.tp_tree.specs.Read.{phrase_trees, kind_tree}
use Rattle.tp_tree.specs.Equations.{tree_form, trees_are}
use Rattle.tp_scope.specs.Seen.{names_seen}
use Rattle.tp_check.specs.Positions.{refusal_of}
use Rattle.tp_check.proofs.refusals.refusal.Goals as goal

pub returns-in-Form : goal.returns-in-Form
returns-in-Form c =
    let names = names_seen c.args.names.now in
    let seen : kind_tree c.args.phrase.now.kind ≡ form c.in-Form.form (phrase_trees c.in-Form.operands) =
    ap kind_tree c.in-Form.is ∙ (tree_form c.in-Form.form c.in-Form.operands ∙ ap (form c.in-Form.form) (sym (trees_are c.in-Form.operands))) in
    c.miscounted_or.ensures names ∙ ap (λ (kind : KindTree). refusal_of names c.args.phrase.now.at kind c.args.other) (sym seen)
