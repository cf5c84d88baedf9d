use Rattle.std.proofs.Common.{refl, subst, ◌∙◌, ℕ, List, length, get_or, Global, arith}
use Rattle.std.specs.declared.vec.Vec.{Vec}
use Rattle.std.proofs.lemmas.List.{length-set, take_all}
use Rattle.std.proofs.lemmas.Option.{slice_get_read}
use Rattle.tp_scope.specs.Callers.{number_lists, IsListedToo}
use Rattle.tp_scope.proofs.Listing.{more_listed}
use Rattle.tp_scope.proofs.states.add_caller.Goals as goal

pub loop-number-preserved : goal.loop-number-preserved
loop-number-preserved c =
    let h = c.index_mut-list.ensures.value in
    let vs : List (Vec ℕ Global) = c.loop-number.callers.items in
    let k = c.loop-number.number-index in
    record {
      each = length-set vs (get_or c.args.called.now k 0) c.push.new.self ∙ c.loop-number.invariant.each;
      listed = more_listed (number_lists c.args.callers.now.items) vs c.args.called.now k c.args.caller c.index_mut-list.result.now c.push.new.self c.loop-number.invariant.listed c.loop-number-test.true (slice_get_read vs (length vs) (get_or c.args.called.now k 0) c.index_mut-list.result.now refl (omega (arith, c.loop-number.invariant.each, c.requires k 0 c.loop-number-test.true)) h) c.in_ok-push.ensures.items;
    }

pub returns-clause-listed : goal.returns-clause-listed
returns-clause-listed c =
    subst (λ ns. IsListedToo (number_lists c.args.callers.now.items) ns c.args.caller (number_lists c.loop-number.callers.items)) (take_all c.loop-number.number-index c.args.called.now c.loop-number-test.false) c.loop-number.invariant.listed
