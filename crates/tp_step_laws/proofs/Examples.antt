-- The two orders of the example.
use Rattle.std.proofs.Common.{◌≡◌, pos, ℕ, List, [], ◌∷◌, ◌++◌, None, refl, arith}
use Rattle.std.proofs.lemmas.Bool.{false≢true}
use Rattle.tp_value.specs.declared.value.Shape.TheVariants.{Num}
use Rattle.tp_value.specs.declared.path.Fact.{Fact}
use Rattle.tp_eval.specs.Outcome.{outcome, place_outcome}
use Rattle.tp_store.specs.Facts.{fact}
use Rattle.tp_scene.specs.Scene.{none}
use Rattle.tp_kernel.specs.declared.fault.LimitKind.TheVariants as limit
use Rattle.tp_scene.specs.Step.{Reduction, reduces, passes}
use Rattle.tp_scene.specs.Pick.{Moment, Reduces, outcome_of, scene_after}
use Rattle.tp_scene.specs.Laws.{IsSound}
use Rattle.tp_step_laws.specs.Examples.{p_then_r, variable_r, no_program, long_store, length_then_value, OrderDecides}

abbrev sets : List Fact → Reduction
sets facts = record { news = none; items = 0; regions = 0; local = None; mark = None; facts = facts }

abbrev after : ℕ → Reduction → Moment → Moment
after t r m = record { scene = scene_after t r m.scene; store = record { facts = m.store.facts ++ r.facts; variables = m.store.variables } }

-- R is known to be 70000
abbrev set_r : Reduction
set_r = sets (fact (record { var = variable_r; at = [] }) (Num (pos 70000)) ∷ [])

first_sets : outcome_of no_program long_store length_then_value.scene 0 ≡ reduces set_r
unfolding outcome place_outcome
first_sets = refl

second_sets : outcome_of no_program long_store length_then_value.scene 1 ≡ reduces set_r
unfolding outcome place_outcome
second_sets = refl

abbrev after_first : Moment
after_first = after 0 set_r length_then_value

abbrev after_second : Moment
after_second = after 1 set_r length_then_value

then_nothing : outcome_of no_program after_first.store after_first.scene 1 ≡ reduces (sets [])
unfolding outcome place_outcome
then_nothing = refl

reduces_first : Reduces no_program length_then_value 0 set_r after_first
reduces_first = record { lives = refl; outcome = first_sets; scene = refl; store = record { kept = λ p. refl; no_clash = (refl, refl, (refl, refl, tt)); variables = refl } }

reduces_second : Reduces no_program length_then_value 1 set_r after_second
reduces_second = record { lives = refl; outcome = second_sets; scene = refl; store = record { kept = λ p. refl; no_clash = (refl, refl, (refl, refl, tt)); variables = refl } }

reduces_then : Reduces no_program after_first 1 (sets []) (after 1 (sets []) after_first)
reduces_then = record { lives = refl; outcome = then_nothing; scene = refl; store = record { kept = λ p. refl; no_clash = (refl, refl, (refl, refl, tt)); variables = refl } }

passes_list : outcome_of no_program after_second.store after_second.scene 0 ≡ passes limit.List
unfolding outcome place_outcome
passes_list = refl

sound : IsSound no_program p_then_r length_then_value
sound = record {
  definitions = record { formula = λ p f e. absurd (cc); expr = λ p f e. absurd (cc) };
  moment = record {
    entries = (((refl, refl), tt), (((refl, tt), tt), ((λ e g. absurd (false≢true e)), omega arith)));
    items = (omega arith, ((λ e. absurd (omega arith)), tt), (omega arith, tt, tt));
    regions = (omega arith, tt, tt);
    inners = tt;
  };
  store = record { no_clash = (refl, refl, tt); facts = (refl, tt); globals = λ i b e. e };
}

pub order_decides : OrderDecides
order_decides = record {
  sound = sound;
  rests = (
    after 1 (sets []) after_first,
    (set_r, after_first, reduces_first, (sets [], after 1 (sets []) after_first, reduces_then, refl)),
    (λ t l. absurd (false≢true l)),
  );
  fails = (after_second, (set_r, after_second, reduces_second, refl), passes_list);
}
