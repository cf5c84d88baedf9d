use Rattle.std.proofs.Common.{◌≡◌, ap, sym, ◌∙◌}
use Rattle.std.specs.Option.{option_copied}
use Rattle.tp_value.specs.Read.{tree}
use Rattle.tp_kernel.specs.Read.{expr_tree, bindings_of, definitions_of}
use Rattle.tp_eval.specs.Outcome as found
use Rattle.tp_decide.proofs.CallLemmas.{kept_outcome}
use Rattle.tp_decide.proofs.found.eval_shared.Goals as goal

pub returns-in-Some : goal.returns-in-Some
returns-in-Some c =
    let kept = c.in-Some.value.now in
    let named = c.kept_value.ensures kept (ap option_copied c.in-Some.is) in
    ap (λ v. found.value (tree v)) c.in_ok-value.ensures.cases
    ∙ sym (kept_outcome c.args.store.now.facts (definitions_of c.args.defs.now) (bindings_of c.args.env.now) (expr_tree c.args.expr.now) (tree kept.value) named)
