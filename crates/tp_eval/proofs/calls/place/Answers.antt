use Rattle.std.proofs.Common.{ap, sym, ◌∙◌}
use Rattle.std.proofs.lemmas.Result.{IfOk-weaker}
use Rattle.tp_kernel.specs.Read.{expr_tree, bindings_of, definitions_of}
use Rattle.tp_eval.specs.Outcome.{other, path, place_reached}
use Rattle.tp_eval.specs.Places.{place_in}
use Rattle.tp_eval.specs.Answers.{outcome_tree, place_outcome_of}
use Rattle.tp_eval.proofs.Answered.{place_halt_is, place_is, any_count}
use Rattle.tp_eval.proofs.calls.place.Goals as goal

pub returns-in-Ok : goal.returns-in-Ok
returns-in-Ok c =
    let facts = c.args.store.now.facts in
    let same = any_count facts (place_in c.in-Ok.found) 0 c.find_place.new.calls ∙ ap (place_reached facts) (sym c.in-Ok.ensures) in
    IfOk-weaker c.path_or_value.result _ _
    (λ o is. place_is facts (definitions_of c.args.defs.now) (expr_tree c.args.expr.now) (bindings_of c.args.env.now) (place_outcome_of o) (is ∙ same))
    c.path_or_value.ensures

pub returns-in_ok-other-in-Err : goal.returns-in_ok-other-in-Err
returns-in_ok-other-in-Err c =
    place_is c.args.store.now.facts (definitions_of c.args.defs.now) (expr_tree c.args.expr.now) (bindings_of c.args.env.now) (other (outcome_tree c.in_ok-other-in-Err.other))
    (place_halt_is c.args.store.now.facts _ c.in-Err.halt (outcome_tree c.in_ok-other-in-Err.other) c.in-Err.ensures c.in_ok-other-in-Err.ensures)

pub returns-in-Some : goal.returns-in-Some
returns-in-Some c =
    let facts = c.args.store.now.facts in
    let found = sym (c.in_ok-path.ensures c.in-Some.path 1998 0 c.in-Some.is) in
    place_is facts (definitions_of c.args.defs.now) (expr_tree c.args.expr.now) (bindings_of c.args.env.now) (path c.in-Some.path) (ap (place_reached facts) found)
