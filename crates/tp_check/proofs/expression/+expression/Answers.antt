use Rattle.std.proofs.Common.{rules, refl, ap₂, ◌≡◌, ◌⊎◌, inl, inr, ◌++◌, ◌∷◌, [], ◌∙◌, ℕ, List, sym, ap, map, Ok}
use Rattle.std.proofs.lemmas.List.{map-append}
use Rattle.std.proofs.lemmas.Slice.Zip.{Zip-more, either_empty_from_Zip}
use Rattle.tp_tree.specs.declared.phrase.Phrases.{out-Phrases}
use Rattle.tp_tree.specs.declared.phrase.Phrase.{Phrase}
use Rattle.tp_tree.specs.Tree.{PhraseTrees, no_phrase, phrase_then, phrases_of}
use Rattle.tp_tree.specs.Read.{phrase_tree, phrase_trees}
use Rattle.tp_tree.specs.Equations.{trees_are}
use Rattle.tp_meaning.specs.Value.{is_upper}
use Rattle.tp_meaning.specs.Syntax.{ExprTree}
use Rattle.tp_kernel.specs.Read.{expr_tree}
use Rattle.tp_scope.specs.Scope.{Names, VisibleNames}
use Rattle.tp_scope.specs.Seen.{names_seen}
use Rattle.tp_check.specs.Outcome.{mapped}
use Rattle.tp_check.specs.Positions.{expr_of, exprs_in, argument_in, arguments_in}
use Rattle.tp_check.proofs.Several.{none_made, one_made, more_made, all_made}
use Rattle.tp_check.proofs.expression.+expression.Goals as goal

pub expressions-loop-phrase-preserved : goal.expressions-loop-phrase-preserved
expressions-loop-phrase-preserved t c =
    let names = names_seen c.args.names.now in
    more_made expr_tree (λ ts. exprs_in names (phrases_of ts)) (expr_of names) _ _ _ c.deref-phrase-items.result.now c.loop-phrase.phrase-index c.phrase-item.result _ (λ p ps. refl) c.in_ok-push.ensures.items c.in_ok-expression.ensures c.loop-phrase-test.true c.phrase-item.is c.loop-phrase.invariant

pub arguments-loop-operand-init : goal.arguments-loop-operand-init
arguments-loop-operand-init t c =
    let names = names_seen c.args.names.now in
    let ps : List Phrase = c.into_iter-operand-iterator.result.a.rest.now in
    let xs : Names = c.into_iter-operand-iterator.result.b.rest.now in
    let operands : ps ≡ (out-Phrases c.args.operands.now).items.items = search rules in
    let parameters : xs ≡ c.args.parameters.now = search rules in
    let trees : phrase_trees c.args.operands.now ≡ phrases_of (map phrase_tree ps) = trees_are c.args.operands.now ∙ ap (λ (qs : List Phrase). phrases_of (map phrase_tree qs)) (sym operands) in
    ap₂ (arguments_in names) trees (sym parameters) ∙ none_made (map expr_tree c.new-items.result.items) _ (ap (map expr_tree) c.new-items.ensures.items)

pub arguments-loop-operand-preserved : goal.arguments-loop-operand-preserved
arguments-loop-operand-preserved t c =
    let names = names_seen c.args.names.now in
    let step = Zip-more c.loop-operand.operand-iterator c.next.new.self c.next.result (c.in-Some.operand, c.in-Some.parameter) c.in-Some.is c.next.ensures.steps in
    let p : Phrase = c.in-Some.operand.now in
    let x : List ℕ = c.in-Some.parameter.now in
    let made = map expr_tree c.loop-operand.items.items in
    let rest = arguments_in names (phrases_of (map phrase_tree c.next.new.self.a.rest.now)) c.next.new.self.b.rest.now in
    let pushed : map expr_tree c.push.new.self.items ≡ made ++ expr_tree c.in_ok-argument.field-0 ∷ [] =
    ap (map expr_tree) c.in_ok-push.ensures.items ∙ map-append expr_tree c.loop-operand.items.items (c.in_ok-argument.field-0 ∷ []) in
    c.loop-operand.invariant
    ∙ (ap₂ (λ (qs : List Phrase) (ys : Names). mapped (λ es. made ++ es) (arguments_in names (phrases_of (map phrase_tree qs)) ys)) step.0 step.1
    ∙ (one_made made (expr_tree c.in_ok-argument.field-0) (argument_in (is_upper x) names (phrase_tree p)) rest c.in_ok-argument.ensures
    ∙ ap (λ (ys : List ExprTree). mapped (λ es. ys ++ es) rest) (sym pushed)))

-- where no parameter is left, and where no operand or no parameter is
no_parameter : (names : VisibleNames) (ts : PhraseTrees) → arguments_in names ts [] ≡ Ok []
no_parameter names no_phrase = refl
no_parameter names (phrase_then t ts) = refl

none_left : (names : VisibleNames) (ps : List Phrase) (xs : Names) → (ps ≡ []) ⊎ (xs ≡ []) → arguments_in names (phrases_of (map phrase_tree ps)) xs ≡ Ok []
none_left names ps xs (inl e) = ap (λ (qs : List Phrase). arguments_in names (phrases_of (map phrase_tree qs)) xs) e
none_left names ps xs (inr e) = ap (arguments_in names (phrases_of (map phrase_tree ps))) e ∙ no_parameter names (phrases_of (map phrase_tree ps))

pub arguments-returns : goal.arguments-returns
arguments-returns t c =
    let names = names_seen c.args.names.now in
    let ps : List Phrase = c.loop-operand.operand-iterator.a.rest.now in
    let xs : Names = c.loop-operand.operand-iterator.b.rest.now in
    let made = map expr_tree c.loop-operand.items.items in
    let ended = either_empty_from_Zip c.loop-operand.operand-iterator c.next.new.self c.next.result c.in-None.is c.next.ensures.steps in
    c.loop-operand.invariant ∙ (ap (mapped (λ es. made ++ es)) (none_left names ps xs ended) ∙ all_made made)
