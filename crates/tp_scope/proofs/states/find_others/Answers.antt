use Rattle.std.proofs.Common.{ap, ◌∙◌, ℕ, false, Bool, List, Some, Global, arith}
use Rattle.std.specs.declared.vec.Vec.{Vec}
use Rattle.std.proofs.lemmas.Option.{slice_get_within, slice_get-get_or}
use Rattle.tp_scope.proofs.Listing.{one_false, one_true}
use Rattle.tp_scope.proofs.states.find_others.Goals.{then-not-state+in_ok-push, else-not-state}
use Rattle.tp_scope.proofs.states.find_others.Goals as goal

pub loop-i-preserved : goal.loop-i-preserved
loop-i-preserved c =
    let states : List Bool = c.args.states.now in
    elim c.if-not-state.branch [
      | then-not-state+in_ok-push w ↦ one_false states c.loop-i.others.items c.loop-i.i c.if-not-state.others.items c.loop-i.invariant (slice_get-get_or states c.loop-i.i false c.loop-i-test.true ∙ ap Some w.if-not-state.true) (ap (λ (v : Vec ℕ Global). v.items) w.others-is ∙ w.in_ok-push.ensures.items)
      | else-not-state w ↦ one_true states c.loop-i.others.items c.loop-i.i c.if-not-state.others.items c.loop-i.invariant (slice_get-get_or states c.loop-i.i false c.loop-i-test.true ∙ ap Some w.if-not-state.false) (ap (λ (v : Vec ℕ Global). v.items) w.others-is)
    ]

pub returns : goal.returns
returns c = λ i. let k = c.loop-i.invariant i in (λ m. (k.0 m).1, λ f. k.1 (omega (arith, slice_get_within c.args.states.now i false f, c.loop-i-test.false), f))
