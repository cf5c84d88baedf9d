use Rattle.std.proofs.Common.{◌≡◌, ◌∷◌, [], ◌≤◌, List, length, refl, rules}
use Rattle.std.proofs.lemmas.Result.{on_ok_weaker}
use Rattle.std.specs.declared.rc.Rc.{Rc}
use Rattle.std.specs.declared.alloc.Global.{Global}
use Rattle.tp_kernel.specs.declared.formula.Formula.{Formula}
use Rattle.tp_residual.specs.Read.{vocabulary_of}
use Rattle.tp_residual.proofs.Conjunctions.{only_item, one_formula_written, several_formulas_written, formulas_to_write}
use Rattle.tp_residual.proofs.Always.{keep_written, fin_written, always_written}
use Rattle.tp_kernel.specs.Read.{formula_tree}
use Rattle.tp_residual.proofs.Chains.{hiding_written, exists_written}
use Rattle.tp_residual.proofs.formula.+formulas.Goals as goal

pub append_all-returns-in-len1 : goal.append_all-returns-in-len1
append_all-returns-in-len1 t c =
    let v = vocabulary_of c.args.words.now in
    let out = c.args.out.now in
    let new = c.append_formula.new.out in
    let xs : List (Rc Formula Global) = c.as_slice.result.now in
    let x : Rc Formula Global = c.operand-item.result in
    let one : xs ≡ x ∷ [] = only_item xs x c.in-len1.len_at_least c.in-len1.len_below c.operand-item.is in
    on_ok_weaker c.append_formula.result (one_formula_written out new v c.args.operands.now xs x c.deref.result.now c.as_slice.ensures.value one c.deref.ensures) c.append_formula.ensures

pub append_all-returns-in_default : goal.append_all-returns-in_default
append_all-returns-in_default t c =
    let v = vocabulary_of c.args.words.now in
    let n : 2 ≤ length c.args.operands.now.items.items = search rules in
    on_ok_weaker c.append_operands.result (several_formulas_written c.args.out.now c.append_operands.new.out v c.args.operands.now n) c.append_operands.ensures

pub append_always-returns-in-IfMore : goal.append_always-returns-in-IfMore
append_always-returns-in-IfMore t c =
    let v = vocabulary_of c.args.words.now in
    on_ok_weaker c.append_called.result (keep_written c.args.out.now c.append_called.new.out v c.args.formula.now c.in-IfMore.w c.deref.result.now c.in-IfMore.is c.deref.ensures) c.append_called.ensures

pub append_always-returns-in-IfEmpty : goal.append_always-returns-in-IfEmpty
append_always-returns-in-IfEmpty t c =
    let v = vocabulary_of c.args.words.now in
    on_ok_weaker c.append_called-in-IfEmpty.result (fin_written c.args.out.now c.append_called-in-IfEmpty.new.out v c.args.formula.now c.in-IfEmpty.w c.deref-in-IfEmpty.result.now c.in-IfEmpty.is c.deref-in-IfEmpty.ensures) c.append_called-in-IfEmpty.ensures

pub append_always-returns : goal.append_always-returns
append_always-returns t c =
    let v = vocabulary_of c.args.words.now in
    on_ok_weaker c.append_called-2.result (always_written c.args.out.now c.append_called-2.new.out v c.args.formula.now c.in_default.not-IfMore c.in_default-formula.not-IfEmpty) c.append_called-2.ensures

pub append_operands-loop-operand-init : goal.append_operands-loop-operand-init
append_operands-loop-operand-init t c =
    let xs : List (Rc Formula Global) = c.deref-operand-items.result.now in
    let is : xs ≡ c.args.operands.now.items.items = search rules in
    formulas_to_write c.args.out.now c.as_slice-opening.result.now (vocabulary_of c.args.words.now) c.args.operands.now xs c.as_slice-opening.ensures is

pub append_hiding-returns : goal.append_hiding-returns
append_hiding-returns t c =
    let v = vocabulary_of c.args.words.now in
    on_ok_weaker c.append_part.result (hiding_written v c.args.words.now.bound _ (formula_tree c.args.body.now) c.args.out.now c.append_part.new.out refl) c.append_part.ensures

pub append_formula-returns-in_ok-within-in-Exists : goal.append_formula-returns-in_ok-within-in-Exists
append_formula-returns-in_ok-within-in-Exists t c =
    let v = vocabulary_of c.args.words.now in
    let name = c.in-Exists.name in
    let within = formula_tree c.in_ok-within-in-Exists.within.now in
    let one : c.append_hidden.new.names ≡ name ∷ [] = search rules in
    on_ok_weaker c.append_hiding.result
    (exists_written v c.args.formula.now name c.in-Exists.lasting c.in-Exists.body c.deref-in-Exists.result.now within c.args.out.now c.append_hidden.new.out c.append_chain.new.out c.append_hiding.new.out c.append_hidden.new.names c.append_chain.new.names c.in-Exists.is c.deref-in-Exists.ensures c.in_ok-append_hidden-in-Exists.ensures.text one (c.in_ok-within-in-Exists.ensures.text v)) c.append_hiding.ensures
