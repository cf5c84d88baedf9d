use Rattle.std.proofs.Common.{◌≡◌, ◌<◌, ◌^◌, ◌++◌, ◌∷◌, [], max, refl, ap, ap₂, sym, ◌∙◌, subst, arith}
use Rattle.tp_store.specs.Facts.{fact, kept_shape}
use Rattle.tp_store.specs.Known.{NoClash, deepest}
use Rattle.tp_store.specs.FactMap.{FactsOfKind}
use Rattle.tp_store.specs.Nodes.{edges_in, way_of, facts_in_tree}
use Rattle.tp_store.proofs.Room.{missing_most}
use Rattle.tp_store.proofs.Adding.{new_added, NoClash-adds}
use Rattle.tp_store.proofs.FactMapLemmas.{deepest-append}
use Rattle.tp_store.proofs.Growth.{deepest_same}
use Rattle.tp_store.proofs.Clashes.{kinds_of_tree}
use Rattle.tp_store.proofs.Remembering.{IsGrown, grown, remembered_grows}
use Rattle.tp_store.proofs.fact_map.FactMap.keep.Goals as goal

all_grown : (c : goal.After-self-1) → IsGrown c.self.inside.lasting c.self.inside.nodes c.keep_shape.new.nodes (fact c.args.path.now c.args.shape ∷ [])
all_grown c =
    let f = fact c.args.path.now c.args.shape in
    let N : FactsOfKind → Type 0 = λ m. NoClash m.facts in
    let own : NoClash c.args.self.now.facts = subst N c.self.view_is c.self.invariant.0 in
    grown c.args.self.now c.self.inside.lasting c.self.inside.nodes c.keep_shape.new.nodes _ _ f.path.var (f ∷ []) c.self.view_is c.requires.kind (refl, tt)
    (NoClash-adds c.args.self.now.facts (f ∷ []) (f ∷ []) (new_added c.args.self.now.facts f c.requires.new) own (refl, refl, tt)) c.keep_shape.ensures.kept

pub keep_shape-requires-clause-room : goal.keep_shape-requires-clause-room
keep_shape-requires-clause-room c =
    let most = missing_most (edges_in c.self.inside.nodes) (way_of c.args.path.now) 0 in
    let room = ap (λ (m : FactsOfKind). m.spare) c.self.view_is in
    omega (arith, most, room, c.requires.room)

pub invariant_of-self : goal.invariant_of-self
invariant_of-self c =
    let i = c.self.invariant in
    let b = c.self.inside.lasting in
    let old = facts_in_tree b c.self.inside.nodes in
    let new = facts_in_tree b c.keep_shape.new.nodes in
    let f = fact c.args.path.now c.args.shape in
    let all = all_grown c in
    let d = c.max-self-inside.result in
    let one : c.count_of.result ≡ deepest (f ∷ []) = omega (arith, c.count_of.ensures.value) in
    let depth : d ≡ deepest new = c.max-self-inside.ensures ∙ ap₂ max i.2 one ∙ sym (deepest-append old (f ∷ [])) ∙ sym (deepest_same new (old ++ f ∷ []) all.is all.was all.same) in
    let low : d < 2 ^ 63 = grind (arith, c.max-self-inside.ensures, i.3, c.count_of.ensures.bound) in
    (all.is, c.keep_shape.ensures.tree, depth, low, λ v r e. remembered_grows r (record { number = v; lasting = b }) old (f ∷ []) new all.same (i.4 v r e))

pub returns-clause-of_kind : goal.returns-clause-of_kind
returns-clause-of_kind c = kinds_of_tree c.self.inside.lasting c.keep_shape.new.nodes

pub returns-clause-apart : goal.returns-clause-apart
returns-clause-apart c = (all_grown c).is

pub returns-clause-kept : goal.returns-clause-kept
returns-clause-kept c = λ p.
    (all_grown c).same p ∙ ap (λ (m : FactsOfKind). kept_shape (m.facts ++ fact c.args.path.now c.args.shape ∷ []) p) c.self.view_is

pub returns-clause-room : goal.returns-clause-room
returns-clause-room c =
    let most = missing_most (edges_in c.self.inside.nodes) (way_of c.args.path.now) 0 in
    let room = ap (λ (m : FactsOfKind). m.spare) c.self.view_is in
    omega (arith, most, room, c.keep_shape.ensures.room)
