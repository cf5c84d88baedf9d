use Rattle.std.proofs.Common.{◌≡◌, ◌∙◌, ap, ap₂, sym, nat_eq, length, arith}
use Rattle.tp_tree.specs.declared.phrase.Phrases.{out-Phrases}
use Rattle.tp_tree.specs.Read.{phrase_trees}
use Rattle.tp_scope.specs.Phrases.{phrase_count}
use Rattle.tp_scope.proofs.Several.{count_of}
use Rattle.tp_scope.proofs.directory.Callee.takes.Goals as goal

pub returns : goal.returns
returns c =
    let operands = (out-Phrases c.args.operands.now).items in
    let given : c.len.result ≡ phrase_count (phrase_trees c.args.operands.now) = omega (arith, c.len.ensures, operands.ok.0) ∙ sym (count_of c.args.operands.now) in
    let parameters = c.parameters.inside.items in
    let taken : c.len-2.result ≡ length c.args.self.now.signature.parameters.now = omega (arith, c.len-2.ensures, parameters.ok.0) ∙ ap length c.parameters.view_is in
    ap₂ nat_eq given taken
