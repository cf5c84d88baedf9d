use Rattle.std.proofs.Common.{◌≡◌, ◌<◌, ◌+◌, ◌++◌, ◌∷◌, [], ℕ, Bool, List, length, take, refl, sym, ap, subst, ◌∙◌, arith}
use Rattle.std.proofs.lemmas.List.{take_more}
use Rattle.std.proofs.lemmas.Option.{MatchOption-at_some, slice_get_read}
use Rattle.std.proofs.lemmas.Slice.Zip.{all_zipped_more}
use Rattle.tp_value.specs.declared.path.Fact.{Fact}
use Rattle.tp_meaning.specs.Interval.{kinds_of}
use Rattle.tp_store.specs.Stock.{Stock}
use Rattle.tp_verdict.specs.VerdictLaws.{AreOfKinds}
use Rattle.tp_verdict.proofs.Right.{state_of_kind}
use Rattle.tp_monitor.specs.Standing.{StandFor, EachStandsFor}
use Rattle.tp_monitor.proofs.filling.state_stores.Goals as goal

pub state_store-requires-clause-own : goal.state_store-requires-clause-own
state_store-requires-clause-own c =
    let kinds : List Bool = kinds_of c.args.globals.now in
    let states : List (List Fact) = c.args.states.now in
    let i : ℕ = c.loop-state.state-index in
    let inside : i < length states = omega arith in
    let same : c.as_slice.result.now ≡ c.state-item.result = c.as_slice.ensures.value ∙ c.state.view_is in
    subst (λ (fs : List Fact). AreOfKinds kinds fs) (sym same) (state_of_kind kinds states c.requires.states i c.state-item.result (slice_get_read states (length states) i c.state-item.result refl inside c.state-item.is))

pub loop-state-preserved : goal.loop-state-preserved
loop-state-preserved c =
    let states : List (List Fact) = c.args.states.now in
    let lasting : List Fact = c.args.lasting.now in
    let i : ℕ = c.loop-state.state-index in
    let own : List Fact = c.state-item.result in
    let store : Stock = c.in-Some.store in
    let inside : i < length states = omega arith in
    let same : c.as_slice.result.now ≡ own = c.as_slice.ensures.value ∙ c.state.view_is in
    let one : StandFor store.facts (c.as_slice.result.now ++ lasting) = MatchOption-at_some _ (λ (s : Stock). StandFor s.facts (c.as_slice.result.now ++ lasting)) store c.in-Some.is c.in_ok-store.ensures in
    let stands : StandFor store.facts (own ++ lasting) = subst (λ (fs : List Fact). StandFor store.facts (fs ++ lasting)) same one in
    let more : EachStandsFor (c.loop-state.stores.items ++ store ∷ []) (take i states ++ own ∷ []) lasting =
    all_zipped_more (λ (s : Stock) (fs : List Fact). StandFor s.facts (fs ++ lasting)) c.loop-state.stores.items (take i states) store own c.loop-state.invariant stands in
    let longer : take (i + 1) states ≡ take i states ++ own ∷ [] = take_more states i own inside ∙ ap (λ (x : List Fact). take i states ++ x ∷ []) (sym c.state-item.is) in
    subst (λ (ss : List Stock). EachStandsFor ss (take (i + 1) states) lasting) (sym c.in_ok-push-in-Some.ensures.items)
    (subst (λ (xs : List (List Fact)). EachStandsFor (c.loop-state.stores.items ++ store ∷ []) xs lasting) (sym longer) more)
