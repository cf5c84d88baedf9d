use Rattle.std.proofs.Common.{◌∙◌, ◌++◌, [], ◌∷◌, List, map, ap}
use Rattle.std.proofs.lemmas.List.{map-append}
use Rattle.tp_meaning.specs.Syntax.{BindingTree}
use Rattle.tp_kernel.specs.Read.{binding_of, bindings_of}
use Rattle.tp_decide.proofs.env.bind_last.Goals as goal

pub returns : goal.returns
returns c =
    ap bindings_of c.in_ok-env.ensures.ok ∙ ap (map binding_of) c.in_ok-push.ensures.items ∙ map-append binding_of c.in_ok-items.items.items (c.args.binding ∷ [])
    ∙ ap (λ (bs : List BindingTree). bs ++ binding_of c.args.binding ∷ []) c.in_ok-items.ensures
