use Rattle.std.proofs.Common.{◌≡◌, ◌++◌, ◌∷◌, [], ◌<◌, ◌≤◌, ◌-◌, ◌∙◌, Some, IfOk, length, ap, ap₂, sym, subst, rules}
use Rattle.std.proofs.lemmas.Result.{on_ok_weaker}
use Rattle.std.specs.List.{slice_get}
use Rattle.std.proofs.lemmas.List.{append-nil}
use Rattle.tp_residual.specs.Phrases.{named, bound_spelling}
use Rattle.tp_residual.specs.Read.{bound_names, left_after, own_bound_names}
use Rattle.tp_residual.proofs.BoundNames.{names_around, names_inside, names_chained, bound_within, bound_beyond, none_left, some_left, nothing_beyond, one_before}
use Rattle.tp_residual.proofs.words.+append_bound.Goals as goal

pub returns-in_ok-append_binding-in-Around-clause-text : goal.returns-in_ok-append_binding-in-Around-clause-text
returns-in_ok-append_binding-in-Around-clause-text t c =
    let l : c.args.number < length c.in-Around.env.now.items.items = search rules in
    let x = bound_within c.in-Around.env.now c.args.number c.index.result.now l (search rules) in
    c.in_ok-append_binding-in-Around.ensures
    ∙ ap (λ o. c.args.out.now ++ bound_spelling c.args.store.now.variables o) (sym (ap (λ xs. slice_get xs c.args.number) (ap bound_names c.in-Around.is ∙ names_around c.in-Around.env) ∙ x.0))

pub returns-in_ok-append_binding-in-Around-clause-left : goal.returns-in_ok-append_binding-in-Around-clause-left
returns-in_ok-append_binding-in-Around-clause-left t c =
    let l : c.args.number < length c.in-Around.env.now.items.items = search rules in
    let x = bound_within c.in-Around.env.now c.args.number c.index.result.now l (search rules) in
    sym (ap (λ xs. left_after xs c.args.number) (ap bound_names c.in-Around.is ∙ names_around c.in-Around.env) ∙ x.1)

pub returns-else-number-count-clause-text : goal.returns-else-number-count-clause-text
returns-else-number-count-clause-text t c =
    let l : length c.in-Around.env.now.items.items ≤ c.args.number = search rules in
    let x = bound_beyond c.in-Around.env.now c.args.number l in
    sym (append-nil c.args.out.now)
    ∙ ap (λ o. c.args.out.now ++ bound_spelling c.args.store.now.variables o) (sym (ap (λ xs. slice_get xs c.args.number) (ap bound_names c.in-Around.is ∙ names_around c.in-Around.env) ∙ x.0))

pub returns-else-number-count-clause-left : goal.returns-else-number-count-clause-left
returns-else-number-count-clause-left t c =
    let n : c.len-count.result ≡ length c.in-Around.env.now.items.items = search rules in
    let l : length c.in-Around.env.now.items.items ≤ c.args.number = search rules in
    let x = bound_beyond c.in-Around.env.now c.args.number l in
    ap (λ m. Some (c.args.number - m)) n ∙ sym (ap (λ xs. left_after xs c.args.number) (ap bound_names c.in-Around.is ∙ names_around c.in-Around.env) ∙ x.1)

pub returns-in-None-clause-text : goal.returns-in-None-clause-text
returns-in-None-clause-text t c =
    let i = c.args.number in
    let x = none_left (bound_names c.in-Inside.outer.now) (named c.in-Inside.name.now ∷ []) i (sym c.in_ok-append_bound-in-Inside.ensures.left ∙ c.in-None.is) in
    c.in_ok-append_bound-in-Inside.ensures.text
    ∙ ap (λ o. c.args.out.now ++ bound_spelling c.args.store.now.variables o) (sym (ap (λ xs. slice_get xs i) (ap bound_names c.in-Inside.is ∙ names_inside c.in-Inside.name c.in-Inside.outer) ∙ x.0))

pub returns-in-None-clause-left : goal.returns-in-None-clause-left
returns-in-None-clause-left t c =
    let i = c.args.number in
    let x = none_left (bound_names c.in-Inside.outer.now) (named c.in-Inside.name.now ∷ []) i (sym c.in_ok-append_bound-in-Inside.ensures.left ∙ c.in-None.is) in
    sym (ap (λ xs. left_after xs i) (ap bound_names c.in-Inside.is ∙ names_inside c.in-Inside.name c.in-Inside.outer) ∙ x.1)

pub returns-in_ok-append-in-Some-eq0-clause-text : goal.returns-in_ok-append-in-Some-eq0-clause-text
returns-in_ok-append-in-Some-eq0-clause-text t c =
    let i = c.args.number in
    let xs = c.args.store.now.variables in
    let outer = bound_names c.in-Inside.outer.now in
    let k : c.in-Some-eq0.field-0 ≡ 0 = search rules in
    let left = sym c.in_ok-append_bound-in-Inside.ensures.left ∙ (c.in-Some-eq0.is ∙ ap Some k) in
    let x = some_left outer (named c.in-Inside.name.now ∷ []) i 0 left in
    let all = ap (λ ns. slice_get ns i) (ap bound_names c.in-Inside.is ∙ names_inside c.in-Inside.name c.in-Inside.outer) ∙ x.0 in
    let before : c.append_bound.new.out ≡ c.args.out.now = c.in_ok-append_bound-in-Inside.ensures.text ∙ (ap (λ o. c.args.out.now ++ bound_spelling xs o) (nothing_beyond outer i 0 left) ∙ append-nil c.args.out.now) in
    c.in_ok-append-in-Some-eq0.ensures.ok ∙ ((λ j. before j ++ c.as_slice.ensures j) ∙ ap (λ o. c.args.out.now ++ bound_spelling xs o) (sym all))

pub returns-in_ok-append-in-Some-eq0-clause-left : goal.returns-in_ok-append-in-Some-eq0-clause-left
returns-in_ok-append-in-Some-eq0-clause-left t c =
    let i = c.args.number in
    let k : c.in-Some-eq0.field-0 ≡ 0 = search rules in
    let x = some_left (bound_names c.in-Inside.outer.now) (named c.in-Inside.name.now ∷ []) i 0 (sym c.in_ok-append_bound-in-Inside.ensures.left ∙ (c.in-Some-eq0.is ∙ ap Some k)) in
    sym (ap (λ xs. left_after xs i) (ap bound_names c.in-Inside.is ∙ names_inside c.in-Inside.name c.in-Inside.outer) ∙ x.1)

pub returns-in-Some-clause-text : goal.returns-in-Some-clause-text
returns-in-Some-clause-text t c =
    let i = c.args.number in
    let outer = bound_names c.in-Inside.outer.now in
    let left = sym c.in_ok-append_bound-in-Inside.ensures.left ∙ c.in-Some.is in
    let x = some_left outer (named c.in-Inside.name.now ∷ []) i c.in-Some.left left in
    let y = one_before (named c.in-Inside.name.now) c.in-Some.left c.in-Some.left-test.1 in
    c.in_ok-append_bound-in-Inside.ensures.text
    ∙ ap (λ o. c.args.out.now ++ bound_spelling c.args.store.now.variables o)
    (nothing_beyond outer i c.in-Some.left left ∙ sym (ap (λ xs. slice_get xs i) (ap bound_names c.in-Inside.is ∙ names_inside c.in-Inside.name c.in-Inside.outer) ∙ (x.0 ∙ y.0)))

pub returns-in-Some-clause-left : goal.returns-in-Some-clause-left
returns-in-Some-clause-left t c =
    let i = c.args.number in
    let x = some_left (bound_names c.in-Inside.outer.now) (named c.in-Inside.name.now ∷ []) i c.in-Some.left (sym c.in_ok-append_bound-in-Inside.ensures.left ∙ c.in-Some.is) in
    let y = one_before (named c.in-Inside.name.now) c.in-Some.left c.in-Some.left-test.1 in
    sym (ap (λ xs. left_after xs i) (ap bound_names c.in-Inside.is ∙ names_inside c.in-Inside.name c.in-Inside.outer) ∙ (x.1 ∙ y.1))

pub returns-in-None-2-clause-text : goal.returns-in-None-2-clause-text
returns-in-None-2-clause-text t c =
    let i = c.args.number in
    let x = none_left (bound_names c.in-Chain.outer.now) (own_bound_names c.in-Chain.names.now) i (sym c.in_ok-append_bound-in-Chain.ensures.left ∙ c.in-None-2.is) in
    c.in_ok-append_bound-in-Chain.ensures.text
    ∙ ap (λ o. c.args.out.now ++ bound_spelling c.args.store.now.variables o) (sym (ap (λ xs. slice_get xs i) (ap bound_names c.in-Chain.is ∙ names_chained c.in-Chain.names c.in-Chain.outer) ∙ x.0))

pub returns-in-None-2-clause-left : goal.returns-in-None-2-clause-left
returns-in-None-2-clause-left t c =
    let i = c.args.number in
    let x = none_left (bound_names c.in-Chain.outer.now) (own_bound_names c.in-Chain.names.now) i (sym c.in_ok-append_bound-in-Chain.ensures.left ∙ c.in-None-2.is) in
    sym (ap (λ xs. left_after xs i) (ap bound_names c.in-Chain.is ∙ names_chained c.in-Chain.names c.in-Chain.outer) ∙ x.1)

pub returns-in-Some-2-clause-text : goal.returns-in-Some-2-clause-text
returns-in-Some-2-clause-text t c =
    let i = c.args.number in
    let vs = c.args.store.now.variables in
    let outer = bound_names c.in-Chain.outer.now in
    let left = sym c.in_ok-append_bound-in-Chain.ensures.left ∙ c.in-Some-2.is in
    let x = some_left outer (own_bound_names c.in-Chain.names.now) i c.in-Some-2.left left in
    let all = ap (λ ns. slice_get ns i) (ap bound_names c.in-Chain.is ∙ names_chained c.in-Chain.names c.in-Chain.outer) ∙ x.0 in
    let before : c.append_bound-in-Chain.new.out ≡ c.args.out.now = c.in_ok-append_bound-in-Chain.ensures.text ∙ (ap (λ o. c.args.out.now ++ bound_spelling vs o) (nothing_beyond outer i c.in-Some-2.left left) ∙ append-nil c.args.out.now) in
    on_ok_weaker c.append_own.result (λ h. h vs ∙ ap₂ (λ a o. a ++ bound_spelling vs o) before (sym all)) c.append_own.ensures.text

pub returns-in-Some-2-clause-left : goal.returns-in-Some-2-clause-left
returns-in-Some-2-clause-left t c =
    let i = c.args.number in
    let x = some_left (bound_names c.in-Chain.outer.now) (own_bound_names c.in-Chain.names.now) i c.in-Some-2.left (sym c.in_ok-append_bound-in-Chain.ensures.left ∙ c.in-Some-2.is) in
    let all = ap (λ xs. left_after xs i) (ap bound_names c.in-Chain.is ∙ names_chained c.in-Chain.names c.in-Chain.outer) ∙ x.1 in
    subst (λ o. IfOk c.append_own.result (λ left. left ≡ o)) (sym all) c.append_own.ensures.left
