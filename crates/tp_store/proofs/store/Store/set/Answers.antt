use Rattle.std.proofs.Common.{◌≡◌, [], ap, sym, ◌∙◌}
use Rattle.std.proofs.lemmas.List.{nil_from_length}
use Rattle.std.proofs.lemmas.Bool.Decides.{Decides-eqb}
use Rattle.tp_value.specs.declared.path.Path.{Path}
use Rattle.tp_value.specs.Tree.{Tree}
use Rattle.tp_store.specs.Facts.{facts_at}
use Rattle.tp_store.specs.Known.{addition}
use Rattle.tp_store.specs.Operand.{operand_tree}
use Rattle.tp_store.specs.Stock.{contents_in}
use Rattle.tp_store.specs.Nodes.{path_along}
use Rattle.tp_store.proofs.Parts.{sound_view}
use Rattle.tp_store.proofs.store.Store.set.Goals as goal

pub returns-then-is_readable_list-clause-news : goal.returns-then-is_readable_list-clause-news
returns-then-is_readable_list-clause-news c =
    let none : c.as_slice.result.now ≡ [] = nil_from_length _ ((Decides-eqb _ 0).0 (sym c.is_empty.ensures ∙ c.if-is_empty.true)) in
    let x = c.path.inside.0.0 in
    let root : path_along x [] ≡ c.args.path = ap (path_along x) (sym none ∙ c.as_slice.ensures.value) ∙ c.path.view_is in
    ap (λ (p : Path). addition c.args.self.now.facts (facts_at p (operand_tree c.args.value))) (sym root) ∙ ap (λ (v : Tree). addition c.args.self.now.facts (facts_at (path_along x []) v)) (sym c.in_ok-value.ensures) ∙ c.in_ok-learned.ensures.news

pub returns-in_err-value-clause-sound : goal.returns-in_err-value-clause-sound
returns-in_err-value-clause-sound c = sound_view c.self.inside.entries.items c.self.inside.state c.self.inside.fixed _ (ap contents_in c.self.view_is) c.self.invariant

pub returns-in_err-value-2-clause-sound : goal.returns-in_err-value-2-clause-sound
returns-in_err-value-2-clause-sound c = sound_view c.self-2.inside.entries.items c.self-2.inside.state c.self-2.inside.fixed _ (ap contents_in c.self-2.view_is) c.self-2.invariant
