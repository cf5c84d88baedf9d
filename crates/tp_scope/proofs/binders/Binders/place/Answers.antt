use Rattle.std.proofs.Common.{◌∙◌, sym, ap, List, ℕ}
use Rattle.tp_scope.specs.Scope.{Names, bound_in, binder_of}
use Rattle.tp_scope.specs.Seen.{binder_among}
use Rattle.tp_scope.proofs.Apart.{number_among}
use Rattle.tp_scope.proofs.binders.Binders.place.Goals as goal

pub returns : goal.returns
returns c = λ outer.
    let name : List ℕ = c.args.name.now in
    ap (λ (names : Names). binder_of (bound_in outer names) name) (sym c.self.view_is)
    ∙ (number_among outer c.self.inside.names.keys name c.self.invariant ∙ ap (binder_among outer name) (sym c.get_index_of.ensures.index))
