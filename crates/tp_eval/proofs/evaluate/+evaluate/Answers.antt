use Rattle.std.proofs.Common.{rules, ◌≡◌, ◌≢◌, ◌-◌, Bool, true, false, ap, ap₂, sym, ◌∙◌, arith, map, length, to_z, of_z}
use Rattle.std.proofs.lemmas.Slice.Zip.{zip_end}
use Rattle.std.specs.Option.{option_copied}
use Rattle.std.specs.Iterator.Adapters.{zip_first, zip_second}
use Rattle.std.specs.Slice.Iter.{iter_rest}
use Rattle.tp_value.specs.Number.{number_width}
use Rattle.tp_value.specs.Tree.{num, list, of_items}
use Rattle.tp_value.specs.Read.{tree}
use Rattle.tp_value.specs.Equations.{tree_list}
use Rattle.tp_meaning.specs.Syntax.{numeral, listing, size, index, minus, negation, both, either, binary, choice, invoke}
use Rattle.tp_kernel.specs.Read.{expr_tree, operator_of, binding_of, bindings_of, definitions_of}
use Rattle.tp_kernel.specs.Equations.{expr_trees_is, expr_number, expr_bound, expr_list, expr_size, expr_index, expr_minus, expr_not, expr_both, expr_either, expr_op, expr_if, expr_call}
use Rattle.tp_eval.specs.Reached.{reaches, within_numbers, within_lists, ◌>>=◌}
use Rattle.tp_eval.specs.Evaluate.{is_place, element_of, size_of, indexed_value, index_in, farther, item_between, length_of, negative_in, negated_in}
use Rattle.tp_eval.specs.Answers.{Stops, as_it_is, operand_in, place_at}
use Rattle.tp_eval.specs.Places.{place_in}
use Rattle.tp_eval.proofs.Steps.{reached_same, reached_leaf, reaches_then, stops_same, stops_then, within_is}
use Rattle.tp_eval.proofs.Levels.{at_level, at_index, read_bound, read_index}
use Rattle.tp_eval.proofs.OperandLemmas.{named_value_reached}
use Rattle.tp_eval.proofs.Arguments.{arguments_uneven}
use Rattle.tp_eval.proofs.evaluate.+evaluate.Goals as goal

pub arguments-returns-then-len : goal.arguments-returns-then-len
arguments-returns-then-len t c =
    let op = operand_in c.args.lookup.now c.args.levels in
    let place = place_at c.args.lookup.now c.args.levels in
    let es = c.args.exprs.now.items.items in
    let n = length c.loop-expr.yielded in
    let first : iter_rest (zip_first c.into_iter-expr-iterator.result) ≡ es = search rules in
    let second : iter_rest (zip_second c.into_iter-expr-iterator.result) ≡ c.args.parameters.now = search rules in
    let all = zip_end es c.args.parameters.now c.loop-expr.yielded c.into_iter-expr-iterator.result c.loop-expr.expr-iterator c.next.new.self c.next.result first second c.loop-expr.yielded_by c.in-None.is c.next.ensures.steps in
    let other : length es ≢ length c.args.parameters.now = search rules in
    c.loop-expr.invariant ∙ arguments_uneven op place es c.args.parameters.now n c.loop-expr.calls (map binding_of c.loop-expr.items.items) all other

pub element_of-returns : goal.element_of-returns
element_of-returns t c =
    let op = operand_in c.args.lookup.now c.args.levels in
    let at = expr_tree c.args.index.now in
    let first = reaches_then (op (expr_tree c.args.whole.now) c.args.calls.now) (tree c.in_ok-value.value) c.evaluate.new.calls (λ x. op at >>= item_between x) c.in_ok-value.ensures in
    let second = reaches_then (op at c.evaluate.new.calls) (tree c.in_ok-at.at) c.evaluate-2.new.calls (item_between (tree c.in_ok-value.value)) c.in_ok-at.ensures in
    reached_leaf tree c.item_of.result c.evaluate-2.new.calls _ _ (first ∙ second) c.item_of.ensures

pub size_of-returns-in_ok-value : goal.size_of-returns-in_ok-value
size_of-returns-in_ok-value t c =
    let op = operand_in c.args.lookup.now c.args.levels in
    let place = place_at c.args.lookup.now c.args.levels in
    let e = expr_tree c.args.expr.now in
    let no : is_place e ≡ false = sym c.is_place.ensures ∙ c.if-is_place.false in
    let other = ap (λ (b : Bool). size_of op place c.args.lookup.now.store.now.facts (bindings_of c.args.lookup.now.env.now) b e c.args.calls.now) no in
    let value = reaches_then (op e c.args.calls.now) (tree c.in_ok-value.value) c.evaluate.new.calls length_of c.in_ok-value.ensures in
    reached_leaf tree c.length_of.result c.evaluate.new.calls _ _ (other ∙ value) c.length_of.ensures

pub evaluate-returns-in-Number : goal.evaluate-returns-in-Number
evaluate-returns-in-Number t c =
    let is = ap expr_tree c.in-Number.is ∙ expr_number c.in-Number.n in
    let here = at_level c.args.lookup.now c.args.levels (expr_tree c.args.expr.now) _ c.args.calls.now c.if-levels-eq0.false is in
    let same : to_z number_width (of_z number_width c.in-Number.n) ≡ c.in-Number.n = search rules in
    reached_leaf tree c.constant.result c.args.calls.now _ _ (here ∙ ap (λ n. within_numbers n c.args.calls.now) (sym same)) c.constant.ensures

pub evaluate-returns-in-Bound : goal.evaluate-returns-in-Bound
evaluate-returns-in-Bound t c =
    let is = ap expr_tree c.in-Bound.is ∙ expr_bound c.in-Bound.field-0 in
    reached_same tree c.read.result c.read.new.calls _ _ (read_bound c.args.lookup.now c.args.levels (expr_tree c.args.expr.now) _ c.args.calls.now c.if-levels-eq0.false is) c.read.ensures

pub evaluate-returns-in_ok-items-in-List : goal.evaluate-returns-in_ok-items-in-List
evaluate-returns-in_ok-items-in-List t c =
    let is = ap expr_tree c.in-List.is ∙ expr_list c.in-List.items ∙ ap listing (sym (expr_trees_is c.in-List.items)) in
    let here = at_level c.args.lookup.now c.args.levels (expr_tree c.args.expr.now) _ c.args.calls.now c.if-levels-eq0.false is in
    let all = reaches_then _ (map tree c.in_ok-items-in-List.items.items) c.each.new.calls (λ ts. within_lists (list (of_items ts))) c.in_ok-items-in-List.ensures in
    reached_leaf tree c.limited.result c.each.new.calls _ _ (here ∙ all ∙ ap (λ v. within_lists v c.each.new.calls) (sym (tree_list _))) c.limited.ensures

pub evaluate-returns-in-Size : goal.evaluate-returns-in-Size
evaluate-returns-in-Size t c =
    let is = ap expr_tree c.in-Size.is ∙ expr_size c.in-Size.e ∙ ap size (ap expr_tree (sym c.deref-in-Size.ensures)) in
    reached_same tree c.size_of.result c.size_of.new.calls _ _ (at_level c.args.lookup.now c.args.levels (expr_tree c.args.expr.now) _ c.args.calls.now c.if-levels-eq0.false is) c.size_of.ensures

pub evaluate-returns-then-is_place : goal.evaluate-returns-then-is_place
evaluate-returns-then-is_place t c =
    let is = ap expr_tree c.in-Index.is ∙ expr_index c.in-Index.e c.in-Index.i in
    let one : is_place (expr_tree c.in-Index.e.value) ≡ true = ap (λ x. is_place (expr_tree x)) (sym c.deref-in-Index.ensures) ∙ sym c.is_place.ensures ∙ c.if-is_place.true in
    reached_same tree c.read-then-is_place.result c.read-then-is_place.new.calls _ _ (read_index c.args.lookup.now c.args.levels (expr_tree c.args.expr.now) _ _ c.args.calls.now c.if-levels-eq0.false is one) c.read-then-is_place.ensures

pub evaluate-returns-else-is_place : goal.evaluate-returns-else-is_place
evaluate-returns-else-is_place t c =
    let op = operand_in c.args.lookup.now (c.args.levels - 1) in
    let place = place_at c.args.lookup.now (c.args.levels - 1) in
    let a = expr_tree c.in-Index.e.value in
    let b = expr_tree c.in-Index.i.value in
    let is = ap expr_tree c.in-Index.is ∙ expr_index c.in-Index.e c.in-Index.i in
    let no : is_place a ≡ false = ap (λ x. is_place (expr_tree x)) (sym c.deref-in-Index.ensures) ∙ sym c.is_place.ensures ∙ c.if-is_place.false in
    let here = at_level c.args.lookup.now c.args.levels (expr_tree c.args.expr.now) _ c.args.calls.now c.if-levels-eq0.false is in
    let other = ap (λ (w : Bool). indexed_value op place c.args.lookup.now.store.now.facts (bindings_of c.args.lookup.now.env.now) w a b c.args.calls.now) no in
    let same = ap₂ (λ x y. element_of op x y c.args.calls.now) (ap expr_tree (sym c.deref-else-is_place.ensures)) (ap expr_tree (sym c.deref-else-is_place-2.ensures)) in
    reached_same tree c.element_of.result c.element_of.new.calls _ _ (here ∙ other ∙ same) c.element_of.ensures

pub evaluate-returns-in_ok-value-in-Minus : goal.evaluate-returns-in_ok-value-in-Minus
evaluate-returns-in_ok-value-in-Minus t c =
    let is = ap expr_tree c.in-Minus.is ∙ expr_minus c.in-Minus.e ∙ ap minus (ap expr_tree (sym c.deref-in-Minus.ensures)) in
    let here = at_level c.args.lookup.now c.args.levels (expr_tree c.args.expr.now) _ c.args.calls.now c.if-levels-eq0.false is in
    let value = reaches_then _ (tree c.in_ok-value-in-Minus.value) c.evaluate.new.calls negative_in c.in_ok-value-in-Minus.ensures in
    reached_leaf tree c.negative.result c.evaluate.new.calls _ _ (here ∙ value) c.negative.ensures

pub evaluate-returns-in_ok-value-in-Not : goal.evaluate-returns-in_ok-value-in-Not
evaluate-returns-in_ok-value-in-Not t c =
    let is = ap expr_tree c.in-Not.is ∙ expr_not c.in-Not.e ∙ ap negation (ap expr_tree (sym c.deref-in-Not.ensures)) in
    let here = at_level c.args.lookup.now c.args.levels (expr_tree c.args.expr.now) _ c.args.calls.now c.if-levels-eq0.false is in
    let value = reaches_then _ (tree c.in_ok-value-in-Not.value) c.evaluate-in-Not.new.calls negated_in c.in_ok-value-in-Not.ensures in
    reached_leaf tree c.contrary.result c.evaluate-in-Not.new.calls _ _ (here ∙ value) c.contrary.ensures

pub evaluate-returns-in-Both : goal.evaluate-returns-in-Both
evaluate-returns-in-Both t c =
    let is = ap expr_tree c.in-Both.is ∙ expr_both c.in-Both.items ∙ ap both (sym (expr_trees_is c.in-Both.items)) in
    reached_same tree c.all_true.result c.all_true.new.calls _ _ (at_level c.args.lookup.now c.args.levels (expr_tree c.args.expr.now) _ c.args.calls.now c.if-levels-eq0.false is) c.all_true.ensures

pub evaluate-returns-in-Either : goal.evaluate-returns-in-Either
evaluate-returns-in-Either t c =
    let is = ap expr_tree c.in-Either.is ∙ expr_either c.in-Either.a c.in-Either.b ∙ ap₂ either (ap expr_tree (sym c.deref-in-Either.ensures)) (ap expr_tree (sym c.deref-in-Either-2.ensures)) in
    reached_same tree c.one_true.result c.one_true.new.calls _ _ (at_level c.args.lookup.now c.args.levels (expr_tree c.args.expr.now) _ c.args.calls.now c.if-levels-eq0.false is) c.one_true.ensures

pub evaluate-returns-in-Op : goal.evaluate-returns-in-Op
evaluate-returns-in-Op t c =
    let is = ap expr_tree c.in-Op.is ∙ expr_op c.in-Op.op c.in-Op.a c.in-Op.b ∙ ap₂ (binary (operator_of c.in-Op.op)) (ap expr_tree (sym c.deref-in-Op.ensures)) (ap expr_tree (sym c.deref-in-Op-2.ensures)) in
    reached_same tree c.operated.result c.operated.new.calls _ _ (at_level c.args.lookup.now c.args.levels (expr_tree c.args.expr.now) _ c.args.calls.now c.if-levels-eq0.false is) c.operated.ensures

pub evaluate-returns-in-If : goal.evaluate-returns-in-If
evaluate-returns-in-If t c =
    let b = sym c.deref-in-If.ensures in
    let x = sym c.deref-in-If-2.ensures in
    let y = sym c.deref-in-If-3.ensures in
    let is = ap expr_tree c.in-If.is ∙ expr_if c.in-If.b c.in-If.x c.in-If.y ∙ (λ i. choice (expr_tree (b i)) (expr_tree (x i)) (expr_tree (y i))) in
    reached_same tree c.chosen.result c.chosen.new.calls _ _ (at_level c.args.lookup.now c.args.levels (expr_tree c.args.expr.now) _ c.args.calls.now c.if-levels-eq0.false is) c.chosen.ensures

pub evaluate-returns-in-Call : goal.evaluate-returns-in-Call
evaluate-returns-in-Call t c =
    let is = ap expr_tree c.in-Call.is ∙ expr_call c.in-Call.number c.in-Call.arguments ∙ ap (invoke c.in-Call.number) (sym (expr_trees_is c.in-Call.arguments)) in
    reached_same tree c.call.result c.call.new.calls _ _ (at_level c.args.lookup.now c.args.levels (expr_tree c.args.expr.now) _ c.args.calls.now c.if-levels-eq0.false is) c.call.ensures

pub index_at-returns-in-Number : goal.index_at-returns-in-Number
index_at-returns-in-Number t c =
    let calls = c.args.calls.now in
    let n = to_z number_width (of_z number_width c.in-Number.n) in
    let same : n ≡ c.in-Number.n = search rules in
    let is = ap expr_tree c.in-Number.is ∙ expr_number c.in-Number.n ∙ ap numeral (sym same) in
    let here = at_level c.args.lookup.now c.args.levels (expr_tree c.args.expr.now) _ calls (omega arith) is in
    let within = ap (λ o. o calls) (within_is n (sym c.is_number.ensures ∙ c.if-is_number.true)) in
    reached_leaf as_it_is c.index_from.result calls _ _ (reaches_then _ (num n) calls index_in (here ∙ within)) c.index_from.ensures

pub find_place-returns-in_err-k-in-Index : goal.find_place-returns-in_err-k-in-Index
find_place-returns-in_err-k-in-Index t c =
    let halt = c.in_err-k-in-Index.field-0.0 in
    let is = ap expr_tree c.in-Index.is ∙ expr_index c.in-Index.inner c.in-Index.index ∙ ap₂ index (ap expr_tree (sym c.deref.ensures)) (ap expr_tree (sym c.deref-in-Index.ensures)) in
    let here = at_index c.args.lookup.now c.args.levels (expr_tree c.args.expr.now) _ _ (place_in c.in_ok-place-in-Index.place) _ _ c.if-levels-eq0.false is c.in_ok-place-in-Index.ensures in
    let h : Stops (place_at c.args.lookup.now c.args.levels (expr_tree c.args.expr.now) c.args.calls.now) halt = stops_same _ _ halt here (stops_then _ halt _ c.in_err-k-in-Index.ensures) in
    search rules

pub find_place-returns-in_ok-k-in-Index : goal.find_place-returns-in_ok-k-in-Index
find_place-returns-in_ok-k-in-Index t c =
    let place = place_in c.in_ok-place-in-Index.place in
    let is = ap expr_tree c.in-Index.is ∙ expr_index c.in-Index.inner c.in-Index.index ∙ ap₂ index (ap expr_tree (sym c.deref.ensures)) (ap expr_tree (sym c.deref-in-Index.ensures)) in
    let here = at_index c.args.lookup.now c.args.levels (expr_tree c.args.expr.now) _ _ place _ _ c.if-levels-eq0.false is c.in_ok-place-in-Index.ensures in
    let next = reaches_then _ c.in_ok-k-in-Index.k c.index_at.new.calls (farther place) c.in_ok-k-in-Index.ensures in
    reached_leaf place_in c.farther.result c.index_at.new.calls _ _ (here ∙ next) c.farther.ensures

pub operand-returns-in-Some-kept_value : goal.operand-returns-in-Some-kept_value
operand-returns-in-Some-kept_value t c =
    let l = c.args.lookup.now in
    let calls = c.args.calls.now in
    let kept = c.in-Some-kept_value.value.now in
    let named = c.kept_value.ensures kept (ap option_copied c.in-Some-kept_value.is) in
    named_value_reached l.store.now.facts (tree kept.value) calls (definitions_of l.defs.now) (bindings_of l.env.now) c.args.levels (expr_tree c.args.expr.now) (omega arith) named
    ∙ ap (λ v. reaches (tree v) calls) (sym c.in_ok-clone-2.ensures.cases)
