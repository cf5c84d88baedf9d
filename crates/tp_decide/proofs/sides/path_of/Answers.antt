use Rattle.std.proofs.Common.{◌∙◌, ap, sym}
use Rattle.tp_kernel.specs.Read.{expr_tree, definitions_of, bindings_of}
use Rattle.tp_eval.specs.Answers.{place_outcome_of}
use Rattle.tp_decide.proofs.PlaceSides.{path_of_variable}
use Rattle.tp_decide.proofs.sides.path_of.Goals as goal

pub returns-in-Place-clause-variables : goal.returns-in-Place-clause-variables
returns-in-Place-clause-variables c =
    path_of_variable c.args.store.now.facts (definitions_of c.args.defs.now) c.args.store.now.variables (expr_tree c.args.expr.now) (bindings_of c.args.env.now) c.requires.fits c.in-Place.path
    (ap place_outcome_of (sym c.in-Place.is) ∙ c.in_ok-found.ensures)
