use Rattle.std.proofs.Common.{◌≡◌, ◌-◌, slice_get, Option, Some, ap, sym, ◌∙◌, arith}
use Rattle.std.specs.Option.{option_copied}
use Rattle.std.proofs.lemmas.Option.{slice_get-get_or}
use Rattle.tp_value.specs.declared.path.Fact.{Fact}
use Rattle.tp_store.specs.Known.{earlier_of}
use Rattle.tp_store.proofs.FactMapLemmas.{turn_takes, stays_first, comes_first}
use Rattle.tp_store.proofs.fact_map.find_clash.Goals as goal
use Rattle.tp_store.proofs.fact_map.find_clash.Goals.{in_default-via-in-Some+else-is_earlier, in_default-via-in_default}

pub loop-i-preserved-in-Some : goal.loop-i-preserved-in-Some
loop-i-preserved-in-Some c =
    let fs = c.args.facts.now in
    let i = c.loop-i.i in
    let e = c.index-facts-i.result in
    let best : Fact = c.in-Some.best.now in
    let here : slice_get fs (i - 1) ≡ Some e = slice_get-get_or fs (i - 1) e (omega (arith, c.loop-i-test.true, c.loop-i.auto.i)) ∙ ap Some (sym c.index-facts-i.is) in
    turn_takes fs c.args.fact.now i _ e c.loop-i-test.true here c.loop-i.invariant (sym c.clashes.ensures ∙ c.if-clashes.true) best
    (stays_first best e (sym (c.is_earlier.ensures best.shape e.shape) ∙ c.if-is_earlier.true) ∙ ap (λ (o : Option _). earlier_of e (option_copied o)) (sym c.in-Some.is))

pub loop-i-preserved-in_default : goal.loop-i-preserved-in_default
loop-i-preserved-in_default c =
    let fs = c.args.facts.now in
    let i = c.loop-i.i in
    let e = c.index-facts-i.result in
    let here : slice_get fs (i - 1) ≡ Some e = slice_get-get_or fs (i - 1) e (omega (arith, c.loop-i-test.true, c.loop-i.auto.i)) ∙ ap Some (sym c.index-facts-i.is) in
    let first : e ≡ earlier_of e (option_copied c.loop-i.first) =
    elim c.in_default.branch [
      | in_default-via-in-Some+else-is_earlier w ↦ (
          let best : Fact = w.in-Some.best.now in
          comes_first best e (sym (w.is_earlier.ensures best.shape e.shape) ∙ w.if-is_earlier.false) ∙ ap (λ (o : Option _). earlier_of e (option_copied o)) (sym w.in-Some.is))
      | in_default-via-in_default w ↦ ap (λ (o : Option _). earlier_of e (option_copied o)) (sym w.in_default.is)
    ] in
    turn_takes fs c.args.fact.now i _ e c.loop-i-test.true here c.loop-i.invariant (sym c.clashes.ensures ∙ c.if-clashes.true) e first
