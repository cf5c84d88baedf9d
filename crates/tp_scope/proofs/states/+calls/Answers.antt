use Rattle.std.proofs.Common.{ap, sym, ◌∙◌, ◌≡◌, ◌++◌, ◌+◌, ◌∷◌, [], ℕ, List, map, drop, rules}
use Rattle.std.proofs.lemmas.List.{append-nil}
use Rattle.tp_tree.specs.declared.phrase.Phrase.{Phrase}
use Rattle.tp_tree.specs.declared.phrase.PhraseKind.{the_lemmas}
use Rattle.tp_tree.specs.Tree.{call, phrases_of}
use Rattle.tp_tree.specs.Read.{phrase_tree, phrase_trees, kind_tree}
use Rattle.tp_tree.specs.Equations.{tree_call, trees_are}
use Rattle.tp_scope.specs.Phrases.{calls_in, calls_in_all}
use Rattle.tp_scope.specs.Callers.{numbers_among}
use Rattle.tp_scope.proofs.Several.{from_here, none_left}
use Rattle.tp_scope.proofs.Listing.{joined, calls_then, two_called, seen_as}
use Rattle.tp_scope.proofs.states.+calls.Goals as goal

pub add_calls-returns-in_ok-add_calls-in-Index : goal.add_calls-returns-in_ok-add_calls-in-Index
add_calls-returns-in_ok-add_calls-in-Index t c =
    let first = phrase_tree c.deref-in-Index.result.now in
    let second = phrase_tree c.deref-in-Index-2.result.now in
    let all : calls_in (phrase_tree c.args.phrase.now) ≡ calls_in first ++ calls_in second = search (rules, the_lemmas) in
    two_called _ c.args.numbers.now (calls_in first) (calls_in second) _ c.args.called.now.items c.add_calls-in-Index.new.called.items _ c.in_ok-add_calls-in-Index.ensures c.add_calls-in-Index-2.ensures all

pub add_calls-returns-in_ok-add_calls-in-If-default-default-Some-2 :
    goal.add_calls-returns-in_ok-add_calls-in-If-default-default-Some-2
add_calls-returns-in_ok-add_calls-in-If-default-default-Some-2 t c =
    let names = c.args.numbers.now in
    let condition = phrase_tree c.deref.result.now in
    let first = phrase_tree c.deref-in-If-default-default-Some.result.now in
    let second = phrase_tree c.deref-in-If-default-default-Some-2.result.now in
    let all : calls_in (phrase_tree c.args.phrase.now) ≡ (calls_in condition ++ calls_in first) ++ calls_in second = search (rules, the_lemmas) in
    two_called _ names (calls_in condition ++ calls_in first) (calls_in second) _ c.args.called.now.items c.add_calls-in-If-default-default-Some.new.called.items _
    (c.in_ok-add_calls-in-If-default-default-Some-2.ensures ∙ (ap (λ ns. ns ++ numbers_among names (calls_in first)) c.in_ok-add_calls-in-If-default-default-Some.ensures ∙ joined names c.args.called.now.items (calls_in condition) (calls_in first)))
    c.add_calls-in-If-default-default-Some-2.ensures all

pub add_calls-returns-in_ok-add_call-in-Call : goal.add_calls-returns-in_ok-add_call-in-Call
add_calls-returns-in_ok-add_call-in-Call t c =
    let name = c.in-Call.name in
    let parts = c.in-Call.parts in
    let all : calls_in (phrase_tree c.args.phrase.now) ≡ (name ∷ []) ++ calls_in_all (phrase_trees parts) =
    seen_as c.args.phrase.now (call name (phrase_trees parts)) (ap kind_tree c.in-Call.is ∙ (tree_call name parts ∙ ap (call name) (sym (trees_are parts)))) in
    two_called _ c.args.numbers.now (name ∷ []) (calls_in_all (phrase_trees parts)) _ c.args.called.now.items c.add_call.new.called.items _ c.in_ok-add_call-in-Call.ensures c.add_calls_in_all.ensures all

pub add_calls_in_all-loop-phrase-preserved : goal.add_calls_in_all-loop-phrase-preserved
add_calls_in_all-loop-phrase-preserved t c =
    let xs : List Phrase = c.deref-phrase-items.result.now in
    let i : ℕ = c.loop-phrase.phrase-index in
    let x : Phrase = c.phrase-item.result in
    let names = c.args.numbers.now in
    calls_then names c.loop-phrase.called.items c.add_calls.new.called.items (phrase_tree x) (map phrase_tree (drop (i + 1) xs)) c.in_ok-add_calls.ensures
    ∙ (ap (λ ts. c.loop-phrase.called.items ++ numbers_among names (calls_in_all (phrases_of ts))) (sym (from_here phrase_tree xs i x c.loop-phrase-test.true c.phrase-item.is)) ∙ c.loop-phrase.invariant)

pub add_calls_in_all-returns : goal.add_calls_in_all-returns
add_calls_in_all-returns t c =
    let xs : List Phrase = c.deref-phrase-items.result.now in
    let before : List ℕ = c.loop-phrase.called.items in
    sym (append-nil before) ∙ (ap (λ ts. before ++ numbers_among c.args.numbers.now (calls_in_all (phrases_of ts))) (sym (none_left phrase_tree xs c.loop-phrase.phrase-index c.loop-phrase-test.false)) ∙ c.loop-phrase.invariant)
