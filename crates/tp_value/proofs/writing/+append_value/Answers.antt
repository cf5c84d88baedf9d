use Rattle.std.proofs.Common.{◌≡◌, ◌+◌, ◌∷◌, ◌++◌, take, length, map, drop, get_or, ap, sym, subst, ◌∙◌, arith}
use Rattle.std.proofs.lemmas.Grind.{common_steps}
use Rattle.std.specs.Prelude.{codes}
use Rattle.tp_value.specs.Tree.{list, of_items}
use Rattle.tp_value.specs.Range.{HasMachineNumbers}
use Rattle.tp_value.specs.Read.{tree}
use Rattle.tp_value.specs.Equations.{tree_list}
use Rattle.tp_value.specs.Written.{text_of}
use Rattle.tp_value.proofs.WritingLemmas.{Writes, through, written, first_written, later_written, goes_on, on_err, on_ok, map_ok, items_left, none_left, numbers_more, numbers_all}
use Rattle.tp_value.proofs.writing.+append_value.Goals as goal
use Rattle.tp_value.proofs.writing.+append_value.Goals.{then-i-gt0+in_ok-append-in-List-2, else-i-gt0}

pub loop-i-init : goal.loop-i-init
loop-i-init t c = (record { text = grind (arith, common_steps); begins = grind (arith, common_steps) }, tt)

pub loop-i-preserved : goal.loop-i-preserved
loop-i-preserved t c =
    let items = c.deref-item-items.result.now in
    let item = c.item-item.result in
    let left = map tree (drop (c.loop-i.i + 1) items) in
    let here : map tree (drop c.loop-i.i items) ≡ tree item ∷ left = items_left tree items c.loop-i.i item (omega arith) ∙ ap (λ x. tree x ∷ left) (sym c.item-item.is) in
    let writes : Writes c.args.out.now c.loop-i.out c.loop-i.i (tree item ∷ left) (map tree items) = subst (λ ts. Writes c.args.out.now c.loop-i.out c.loop-i.i ts (map tree items)) here c.loop-i.invariant.0 in
    let text : Writes c.args.out.now c.append_value.new.out (c.loop-i.i + 1) left (map tree items) = elim c.if-i-gt0.branch [
      | then-i-gt0+in_ok-append-in-List-2 w ↦
          later_written _ _ _ _ _ _ _ w.if-i-gt0.true writes (c.in_ok-append_value-in-List.ensures.ok ∙ ap (λ z. z ++ text_of (tree item)) (w.out-is ∙ w.in_ok-append-in-List-2.ensures.ok))
      | else-i-gt0 w ↦
          let none : c.loop-i.i ≡ 0 = omega arith in
          let first : Writes c.args.out.now c.loop-i.out 0 (tree item ∷ left) (map tree items) = subst (λ n. Writes c.args.out.now c.loop-i.out n (tree item ∷ left) (map tree items)) none writes in
          let next : 1 ≡ c.loop-i.i + 1 = omega arith in
          subst (λ n. Writes c.args.out.now c.append_value.new.out n left (map tree items)) next
          (first_written _ _ _ _ _ _ first (c.in_ok-append_value-in-List.ensures.ok ∙ ap (λ z. z ++ text_of (tree item)) w.out-is))
    ] in
    let one : HasMachineNumbers (tree (get_or items c.loop-i.i item)) = subst (λ v. HasMachineNumbers (tree v)) c.item-item.is c.in_ok-append_value-in-List.ensures.range in
    (text, numbers_more tree items c.loop-i.i item (omega arith) c.loop-i.invariant.1 one)

pub returns-in_err-append-in-List-2-clause-err : goal.returns-in_err-append-in-List-2-clause-err
returns-in_err-append-in-List-2-clause-err t c =
    on_err c.from_residual-in_err-append-in-List-2.result (ap (λ z. take (length c.args.out.now) z) c.in_err-append-in-List-2.ensures.err ∙ c.loop-i.invariant.0.begins)

pub returns-in_err-append_value-in-List-clause-err : goal.returns-in_err-append_value-in-List-clause-err
returns-in_err-append_value-in-List-clause-err t c =
    let start = c.args.out.now in
    let kept = c.in_err-append_value-in-List.ensures.err in
    let before : take (length start) c.if-i-gt0.out ≡ start = elim c.if-i-gt0.branch [
      | then-i-gt0+in_ok-append-in-List-2 w ↦
          ap (λ z. take (length start) z) (w.out-is ∙ w.in_ok-append-in-List-2.ensures.ok) ∙ goes_on start c.loop-i.out (codes ",") c.loop-i.invariant.0.begins
      | else-i-gt0 w ↦ ap (λ z. take (length start) z) w.out-is ∙ c.loop-i.invariant.0.begins
    ] in
    on_err c.from_residual-in_err-append_value-in-List.result (through start c.if-i-gt0.out c.append_value.new.out before kept)

pub returns-after-loop-i-clause-ok : goal.returns-after-loop-i-clause-ok
returns-after-loop-i-clause-ok t c =
    let items = c.deref-item-items.result.now in
    let start = c.args.out.now in
    let none = none_left tree items c.loop-i.i (omega arith) in
    let writes : Writes start c.loop-i.out c.loop-i.i _ (map tree items) = subst (λ ts. Writes start c.loop-i.out c.loop-i.i ts (map tree items)) none c.loop-i.invariant.0 in
    let seen = ap tree c.in-List.is ∙ tree_list c.in-List.all in
    map_ok c.append-in-List.result (λ e. written start c.loop-i.out c.loop-i.i (map tree items) c.append-in-List.new.self writes e ∙ ap (λ s. start ++ s) (ap (λ xs. text_of (list (of_items (map tree xs)))) c.deref-item-items.ensures.value ∙ ap text_of (sym seen))) c.append-in-List.ensures.ok

pub returns-after-loop-i-clause-range : goal.returns-after-loop-i-clause-range
returns-after-loop-i-clause-range t c =
    let items = c.deref-item-items.result.now in
    let all = numbers_all tree items c.loop-i.i (omega arith) c.loop-i.invariant.1 in
    let seen = ap tree c.in-List.is ∙ tree_list c.in-List.all in
    let same : list (of_items (map tree items)) ≡ tree c.args.value.now = ap (λ xs. list (of_items (map tree xs))) c.deref-item-items.ensures.value ∙ sym seen in
    on_ok c.append-in-List.result (subst HasMachineNumbers same all)
