use Rattle.std.proofs.Common.{◌∙◌, ap, inl, inr, sym}
use Rattle.std.specs.Option.{option_map}
use Rattle.tp_kernel.specs.Read.{expr_tree, definitions_of, bindings_of}
use Rattle.tp_scene.specs.Step.{value_at}
use Rattle.tp_decide.proofs.PlaceSides.{sets_at, sets_nowhere}
use Rattle.tp_decide.proofs.equation.both_paths.Goals as goal

pub returns-in_default-clause-paths : goal.returns-in_default-clause-paths
returns-in_default-clause-paths c =
    inl (sets_nowhere c.args.store.now.facts (definitions_of c.args.setting.now.defs.now) (bindings_of c.args.env.now) (expr_tree c.args.left.now) (sym c.is_place.ensures ∙ c.if-not-is_place.false)
    (ap (option_map value_at) (sym c.in_default.is) ∙ c.in_ok-left.ensures.outcome value_at))

pub returns-in_default-2-clause-paths : goal.returns-in_default-2-clause-paths
returns-in_default-2-clause-paths c =
    inr (sets_nowhere c.args.store.now.facts (definitions_of c.args.setting.now.defs.now) (bindings_of c.args.env.now) (expr_tree c.args.right.now) (sym c.is_place-else-not-is_place.ensures ∙ c.if-not-is_place-2.false)
    (ap (option_map value_at) (sym c.in_default-2.is) ∙ c.in_ok-right.ensures.outcome value_at))

pub returns-clause-paths : goal.returns-clause-paths
returns-clause-paths c =
    let facts = c.args.store.now.facts in
    let defs = definitions_of c.args.setting.now.defs.now in
    let env = bindings_of c.args.env.now in (
      sets_at facts defs env (expr_tree c.args.left.now) (sym c.is_place.ensures ∙ c.if-not-is_place.false) c.in-Some.left (ap (option_map value_at) (sym c.in-Some.is) ∙ c.in_ok-left.ensures.outcome value_at),
      sets_at facts defs env (expr_tree c.args.right.now) (sym c.is_place-else-not-is_place.ensures ∙ c.if-not-is_place-2.false) c.in-Some-2.right (ap (option_map value_at) (sym c.in-Some-2.is) ∙ c.in_ok-right.ensures.outcome value_at),
    )
