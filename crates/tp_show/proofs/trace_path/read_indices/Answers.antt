use Rattle.std.proofs.Common.{◌≡◌, ◌<◌, ℕ, List, [], ◌∷◌, ◌++◌, ◌∙◌, sym, ap, arith, subst, length, drop, length-drop}
use Rattle.std.proofs.lemmas.Grind.{common_steps}
use Rattle.std.proofs.lemmas.List.{nil_from_length, take_rest}
use Rattle.tp_show.proofs.TracePaths.{IndicesGoOn, IsFirstIndex, indices_fail, indices_next, indices_end, index_is}
use Rattle.tp_show.proofs.trace_path.read_indices.Goals as goal

pub slice_bounds-rest-start : goal.slice_bounds-rest-start
slice_bounds-rest-start c =
    let rest : List ℕ = c.loop-rest.rest.now in
    let f : IsFirstIndex rest c.in-Some.index c.in-Some.len = index_is rest c.in-Some.index c.in-Some.len (sym c.first_index.ensures ∙ c.in-Some.is) in
    f.inside

pub loop-rest-smaller : goal.loop-rest-smaller
loop-rest-smaller c =
    let rest : List ℕ = c.loop-rest.rest.now in
    let f : IsFirstIndex rest c.in-Some.index c.in-Some.len = index_is rest c.in-Some.index c.in-Some.len (sym c.first_index.ensures ∙ c.in-Some.is) in
    let less = take_rest rest c.in-Some.len in
    omega (arith, ap length less, length-drop c.in-Some.len rest, f.inside, f.some)

pub returns-in_default : goal.returns-in_default
returns-in_default c =
    let some : 0 < length c.loop-rest.rest.now = grind (arith, common_steps) in
    indices_fail c.args.text.now c.loop-rest.rest.now c.loop-rest.items.items c.loop-rest.invariant (λ e. let none = ap length e in absurd (omega (arith, some, none))) (sym c.first_index.ensures ∙ c.in_default.is)

pub loop-rest-preserved : goal.loop-rest-preserved
loop-rest-preserved c =
    let text : List ℕ = c.args.text.now in
    let rest : List ℕ = c.loop-rest.rest.now in
    let items : List ℕ = c.loop-rest.items.items in
    let on : IndicesGoOn text (drop c.in-Some.len rest) (items ++ c.in-Some.index ∷ []) = indices_next text rest items c.in-Some.index c.in-Some.len c.loop-rest.invariant (sym c.first_index.ensures ∙ c.in-Some.is) in
    let pushed : c.push.new.self.items ≡ items ++ c.in-Some.index ∷ [] = c.in_ok-push.ensures.items in
    subst (λ (z : List ℕ). IndicesGoOn text z c.push.new.self.items) (sym (take_rest rest c.in-Some.len)) (subst (λ (is : List ℕ). IndicesGoOn text (drop c.in-Some.len rest) is) (sym pushed) on)

pub returns : goal.returns
returns c =
    let none : c.loop-rest.rest.now ≡ [] = nil_from_length c.loop-rest.rest.now (grind (arith, common_steps)) in
    indices_end c.args.text.now c.loop-rest.items.items (subst (λ (z : List ℕ). IndicesGoOn c.args.text.now z c.loop-rest.items.items) none c.loop-rest.invariant)
