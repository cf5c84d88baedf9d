use Rattle.std.proofs.Common.{◌≡◌, ◌∙◌, ◌+◌, arith, sym, ap, ap₂, length, ℕ}
use Rattle.std.proofs.lemmas.Result.{IfOk-weaker, on_err_weaker}
use Rattle.tp_value.proofs.WritingLemmas.{on_err}
use Rattle.tp_scope.specs.Seen.{names_bound}
use Rattle.tp_scope.proofs.Apart.{length_bound, bound_inner}
use Rattle.tp_scope.proofs.scope.+bound_count.Goals as goal

pub returns-in_ok-as_number-in-Inner-clause-ok : goal.returns-in_ok-as_number-in-Inner-clause-ok
returns-in_ok-as_number-in-Inner-clause-ok t c =
    let all : length (names_bound c.args.scope.now) ≡ length (names_bound c.in-Inner.outer.now) + length c.in-Inner.binders.now =
    ap length (ap names_bound c.in-Inner.is ∙ bound_inner c.in-Inner.binders c.in-Inner.outer) ∙ length_bound (names_bound c.in-Inner.outer.now) c.in-Inner.binders.now in
    IfOk-weaker c.sum_of.result _ _ (λ n e. e ∙ (ap₂ (λ (a b : ℕ). a + b) c.in_ok-bound_count-in-Inner.ensures.ok (c.in_ok-as_number-in-Inner.ensures.ok ∙ c.len.ensures) ∙ sym all)) c.sum_of.ensures.ok

pub returns-in_ok-as_number-in-Inner-clause-err : goal.returns-in_ok-as_number-in-Inner-clause-err
returns-in_ok-as_number-in-Inner-clause-err t c =
    let all : length (names_bound c.args.scope.now) ≡ length (names_bound c.in-Inner.outer.now) + length c.in-Inner.binders.now =
    ap length (ap names_bound c.in-Inner.is ∙ bound_inner c.in-Inner.binders c.in-Inner.outer) ∙ length_bound (names_bound c.in-Inner.outer.now) c.in-Inner.binders.now in
    let outer = c.in_ok-bound_count-in-Inner.ensures.ok in
    let own = c.in_ok-as_number-in-Inner.ensures.ok ∙ c.len.ensures in
    on_err_weaker c.sum_of.result (λ h. omega (arith, h, outer, own, all)) c.sum_of.ensures.err

pub returns-in_err-bound_count-in-Inner-clause-err : goal.returns-in_err-bound_count-in-Inner-clause-err
returns-in_err-bound_count-in-Inner-clause-err t c =
    let all : length (names_bound c.args.scope.now) ≡ length (names_bound c.in-Inner.outer.now) + length c.in-Inner.binders.now =
    ap length (ap names_bound c.in-Inner.is ∙ bound_inner c.in-Inner.binders c.in-Inner.outer) ∙ length_bound (names_bound c.in-Inner.outer.now) c.in-Inner.binders.now in
    let h = c.in_err-bound_count-in-Inner.ensures.err in
    on_err c.from_residual.result (omega (arith, h, all))

pub returns-in_err-as_number-in-Inner-clause-err : goal.returns-in_err-as_number-in-Inner-clause-err
returns-in_err-as_number-in-Inner-clause-err t c =
    let all : length (names_bound c.args.scope.now) ≡ length (names_bound c.in-Inner.outer.now) + length c.in-Inner.binders.now =
    ap length (ap names_bound c.in-Inner.is ∙ bound_inner c.in-Inner.binders c.in-Inner.outer) ∙ length_bound (names_bound c.in-Inner.outer.now) c.in-Inner.binders.now in
    let h = c.in_err-as_number-in-Inner.ensures.err in
    let own = c.len.ensures in
    on_err c.from_residual-in_err-as_number-in-Inner.result (omega (arith, h, own, all))
