use Rattle.std.proofs.Common.{◌≡◌, ℕ, List, map, length, Some, ◌∙◌, sym, ap, arith}
use Rattle.std.proofs.lemmas.List.{length-map}
use Rattle.tp_value.specs.Globals.{variable_of, with_name}
use Rattle.tp_value.specs.declared.path.VarId.{VarId}
use Rattle.tp_store.specs.Known.{global_variable}
use Rattle.tp_show.proofs.TraceNumbers.{fresh_variables, kept_names}
use Rattle.tp_show.proofs.trace_facts.variable_for.Goals as goal

pub returns-in_ok-fresh-clause-variables : goal.returns-in_ok-fresh-clause-variables
returns-in_ok-fresh-clause-variables c =
    let names : List (List ℕ) = c.args.globals.now in
    let name : List ℕ = c.args.name.now in
    let x : VarId = c.in_ok-var.var in
    let grown : c.add.new.self ≡ with_name names name = c.in_ok-var.ensures.names in
    let found : variable_of (with_name names name) name ≡ Some x = ap (λ (xs : List (List ℕ)). variable_of xs name) (sym grown) ∙ c.in_ok-var.ensures.variable in
    let next : x.number ≡ length names = c.if-var-count.true ∙ (c.count.ensures.number ∙ (ap length c.requires ∙ length-map names global_variable)) in
    fresh_variables names name x c.args.store.now.variables c.fresh.new.self.variables found next c.requires c.in_ok-fresh.ensures.variables ∙ ap (map global_variable) (sym grown)

pub returns-else-var-count-clause-variables : goal.returns-else-var-count-clause-variables
returns-else-var-count-clause-variables c =
    let names : List (List ℕ) = c.args.globals.now in
    let name : List ℕ = c.args.name.now in
    let x : VarId = c.in_ok-var.var in
    let grown : c.add.new.self ≡ with_name names name = c.in_ok-var.ensures.names in
    let found : variable_of (with_name names name) name ≡ Some x = ap (λ (xs : List (List ℕ)). variable_of xs name) (sym grown) ∙ c.in_ok-var.ensures.variable in
    let number = c.count.ensures.number ∙ (ap length c.requires ∙ length-map names global_variable) in
    let other = c.if-var-count.false in
    c.requires ∙ ap (map global_variable) (sym (grown ∙ kept_names names name x found (λ q. absurd (omega (arith, q, number, other)))))
