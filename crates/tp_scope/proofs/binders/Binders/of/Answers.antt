use Rattle.std.proofs.Common.{◌≡◌, ◌∙◌, ◌∷◌, ◌++◌, true, bytes_eq, sym, ap, List, ℕ, suc, None, Some, if◌then◌else◌, drop}
use Rattle.std.specs.List.{list_any}
use Rattle.std.proofs.Math.Seq.{drop-cons}
use Rattle.std.proofs.Math.ListN.{drop_of_length-le}
use Rattle.std.proofs.lemmas.List.{append-nil}
use Rattle.tp_scope.specs.Scope.{Names}
use Rattle.tp_scope.specs.Names.{has_repeat}
use Rattle.tp_scope.proofs.Apart.{distinct_apart, repeat_found}
use Rattle.tp_scope.proofs.binders.Binders.of.Goals as goal

pub returns-then-is_some : goal.returns-then-is_some
returns-then-is_some c =
    let xs : Names = c.deref-name-items.result.now in
    let keys : Names = c.loop-name.names.keys in
    let name : List ℕ = c.name-item.result in
    let i : ℕ = c.loop-name.name-index in
    let found : list_any (bytes_eq name) keys ≡ true = sym c.get_index_of.ensures.found ∙ (sym c.is_some.ensures ∙ c.if-is_some.true) in
    let here : drop i xs ≡ name ∷ drop (suc i) xs = drop-cons xs i name c.loop-name-test.true ∙ ap (λ (x : List ℕ). x ∷ drop (suc i) xs) (sym c.name-item.is) in
    let all : c.args.texts.now ≡ keys ++ name ∷ drop (suc i) xs = sym c.loop-name.invariant.before ∙ ap (λ (ys : Names). keys ++ ys) here in
    ap (λ b. if b then None else Some c.args.texts.now) (sym (ap has_repeat all ∙ repeat_found keys name (drop (suc i) xs) found))

pub returns : goal.returns
returns c =
    let xs : Names = c.deref-name-items.result.now in
    let keys : Names = c.loop-name.names.keys in
    let all : c.args.texts.now ≡ keys = sym c.loop-name.invariant.before ∙ (ap (λ (ys : Names). keys ++ ys) (drop_of_length-le xs c.loop-name-test.false) ∙ append-nil keys) in
    ap Some (sym all) ∙ ap (λ b. if b then None else Some c.args.texts.now) (sym (ap has_repeat all ∙ distinct_apart keys c.loop-name.invariant.apart))
