use Rattle.std.proofs.Common.{ap, sym, subst, ◌∙◌, ◌≡◌, ◌++◌, ℕ, List, map, length, get_or, Global, arith}
use Rattle.std.proofs.lemmas.List.{length-map}
use Rattle.std.proofs.lemmas.List.Elements.{Contains-get_or}
use Rattle.std.specs.List.{Contains}
use Rattle.std.specs.declared.vec.Vec.{Vec}
use Rattle.tp_tree.specs.declared.phrase.Definition.{Definition}
use Rattle.tp_tree.specs.Read.{phrase_tree, definition_tree}
use Rattle.tp_scope.specs.Phrases.{calls_in}
use Rattle.tp_scope.specs.Callers.{numbers_among, number_lists, IsListedToo}
use Rattle.tp_scope.proofs.Listing.{number_within, names_again, tree_at, one_more_caller, all_callers, AreFirstCallers}
use Rattle.tp_scope.proofs.states.find_callers.Goals as goal

pub add_caller-requires : goal.add_caller-requires
add_caller-requires c = λ k d l.
    let ds : List Definition = c.args.definitions.now.items.items in
    let called : List ℕ = c.deref.result.now in
    let names = c.args.numbers.now in
    let calls = calls_in (phrase_tree c.definition-item.result.body) in
    let are : called ≡ numbers_among names calls = c.deref.ensures.value ∙ (c.in_ok-add_calls.ensures ∙ ap (λ ns. ns ++ numbers_among names calls) c.new-called.ensures.items) in
    let within = number_within names calls (get_or called k d) (subst (λ ns. Contains ns (get_or called k d)) are (Contains-get_or called k d l)) in
    omega (arith, within, ap length c.requires, length-map ds (λ d. d.name), c.loop-i.invariant.each)

pub loop-i-preserved : goal.loop-i-preserved
loop-i-preserved c =
    let ds : List Definition = c.args.definitions.now.items.items in
    let d : Definition = c.definition-item.result in
    let i : ℕ = c.loop-i.i in
    let names = c.args.numbers.now in
    let calls = calls_in (phrase_tree d.body) in
    let before = number_lists c.loop-i.callers.items in
    let after = number_lists c.add_caller.new.callers.items in
    let are : c.deref.result.now ≡ numbers_among names calls = c.deref.ensures.value ∙ (c.in_ok-add_calls.ensures ∙ ap (λ ns. ns ++ numbers_among names calls) c.new-called.ensures.items) in
    let same : c.deref-definition-items-2.result.now ≡ ds = c.deref-definition-items-2.ensures.value in
    let at = tree_at ds i d (omega (arith, c.loop-i-test.true, ap length same)) (c.definition-item.is ∙ ap (λ (ds : List Definition). get_or ds i d) same) in
    record {
      each = c.in_ok-add_caller.ensures.each ∙ c.loop-i.invariant.each;
      callers = one_more_caller (map definition_tree ds) names i (definition_tree d) before after (c.requires ∙ names_again ds) at c.loop-i.invariant.callers
          (subst (λ ns. IsListedToo before ns i after) are c.in_ok-add_caller.ensures.listed);
    }

pub returns : goal.returns
returns c =
    let ds : List Definition = c.args.definitions.now.items.items in
    let callers : List (Vec ℕ Global) = c.loop-i.callers.items in
    let same : c.deref-definition-items-2.result.now ≡ ds = c.deref-definition-items-2.ensures.value in
    let trees = length-map ds definition_tree in
    let end : c.loop-i.i ≡ length (map definition_tree ds) = omega (arith, c.loop-i-test.false, c.loop-i.auto.i-end, ap length same, trees) in
    all_callers (map definition_tree ds) (number_lists callers) (length-map callers (λ (v : Vec ℕ Global). v.items) ∙ (c.loop-i.invariant.each ∙ sym trees))
    (subst (λ n. AreFirstCallers (map definition_tree ds) n (number_lists callers)) end c.loop-i.invariant.callers)
