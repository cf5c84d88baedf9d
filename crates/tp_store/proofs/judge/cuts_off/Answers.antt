use Rattle.std.proofs.Common.{◌≡◌, ◌+◌, true, false, not, Some, None, ap, sym, ◌∙◌, inl, inr, arith}
use Rattle.std.proofs.lemmas.Bool.{cases_eq}
use Rattle.std.specs.Option.{is_some}
use Rattle.tp_store.specs.FactMap.{has_no_item}
use Rattle.tp_store.specs.Nodes.{nodes_in, route_to, index_behind, shape_among}
use Rattle.tp_store.proofs.Ways.{among_within}
use Rattle.tp_store.proofs.Growth.{length_nodes}
use Rattle.tp_store.proofs.judge.cuts_off.Goals as goal
use Rattle.tp_store.proofs.judge.cuts_off.Goals.{else-is_some-via-then-is_some+else-lacks, else-is_some-via-else-is_some}

pub loop-place-init : goal.loop-place-init
loop-place-init c = λ at low cut.
    let root : 0 ≡ at = omega (arith, low) in
    let z : None ≡ Some cut.kept = ap (shape_among (nodes_in c.args.nodes.now)) root ∙ cut.there in
    cc z

pub loop-place-preserved : goal.loop-place-preserved
loop-place-preserved c = λ at low cut.
    elim (cases_eq at (c.loop-place.place + 1)) [
      | inl same ↦ (
          let t = c.args.nodes.now in
          let is : shape_among (nodes_in t) (c.loop-place.place + 1) ≡ Some cut.kept = ap (shape_among (nodes_in t)) (sym same) ∙ cut.there in
          elim c.else-is_some.branch [
            | else-is_some-via-then-is_some+else-lacks w ↦ (
                let behind = w.index_after.ensures ∙ ap (λ n. index_behind (route_to t c.args.number) (route_to t n)) (sym same) ∙ cut.after in
                let none : true ≡ false = ap not (sym cut.none) ∙ ap (has_no_item c.args.shape) (sym behind) ∙ sym w.lacks.ensures ∙ w.if-lacks.false in
                cc none)
            | else-is_some-via-else-is_some w ↦ (
                let none : true ≡ false = ap is_some (sym (c.shape.ensures ∙ is)) ∙ sym c.is_some.ensures ∙ w.if-is_some.false in
                cc none)
          ])
      | inr other ↦ c.loop-place.invariant at (omega (arith, low, other)) cut
    ]

pub returns-clause-none : goal.returns-clause-none
returns-clause-none c = λ e at cut.
    let within = among_within (nodes_in c.args.nodes.now) at cut.kept cut.there in
    let long = length_nodes c.args.nodes.now in
    c.loop-place.invariant at (omega (arith, within, long, c.count-place-end.ensures.value, c.loop-place-test.false)) cut
