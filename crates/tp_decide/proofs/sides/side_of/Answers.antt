use Rattle.std.proofs.Common.{◌∙◌, ap, sym}
use Rattle.std.proofs.lemmas.Result.{IfOk-weaker}
use Rattle.tp_kernel.specs.Read.{expr_tree, definitions_of, bindings_of}
use Rattle.tp_eval.specs.Answers.{place_outcome_of}
use Rattle.tp_decide.proofs.PlaceSides.{path_of_variable, place_side}
use Rattle.tp_decide.proofs.sides.side_of.Goals as goal

pub side_at-requires : goal.side_at-requires
side_at-requires c =
    path_of_variable c.args.store.now.facts (definitions_of c.args.defs.now) c.args.store.now.variables (expr_tree c.args.expr.now) (bindings_of c.args.env.now) c.requires.fits c.in-Place.path
    (ap place_outcome_of (sym c.in-Place.is) ∙ c.in_ok-path.ensures)

pub returns-in-Place-clause-outcome : goal.returns-in-Place-clause-outcome
returns-in-Place-clause-outcome c =
    let is = ap place_outcome_of (sym c.in-Place.is) ∙ c.in_ok-path.ensures in
    let same = place_side c.args.store.now.facts (definitions_of c.args.defs.now) (bindings_of c.args.env.now) (expr_tree c.args.expr.now) (sym c.is_place.ensures ∙ c.if-is_place.true) _ is in
    IfOk-weaker c.side_at.result _ _ (λ side found. found ∙ same) c.side_at.ensures.outcome

pub returns-in-Other-clause-outcome : goal.returns-in-Other-clause-outcome
returns-in-Other-clause-outcome c =
    let is = ap place_outcome_of (sym c.in-Other.is) ∙ c.in_ok-path.ensures in
    place_side c.args.store.now.facts (definitions_of c.args.defs.now) (bindings_of c.args.env.now) (expr_tree c.args.expr.now) (sym c.is_place.ensures ∙ c.if-is_place.true) _ is
