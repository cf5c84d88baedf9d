-- What bindings mean at the cuts of a course, and with one more.
use Rattle.std.proofs.Common.{◌≡◌, ℕ, [], ◌∷◌, refl, ap}
use Rattle.tp_meaning.specs.Syntax.{BindingTree, place_binding, known_binding}
use Rattle.tp_meaning.specs.Course.{Course}
use Rattle.tp_meaning.specs.Holds.{meaning_at_cuts}
use Rattle.tp_meaning.specs.Bindings.{Locals, meaning_of}
use Rattle.tp_meaning.specs.BindingsLaw.{BindingsAtCuts, BindingsAppend}

binding_at_cuts : (globals : ℕ) (s : Course) (locals : Locals) (c : ℕ → ℕ) (b : BindingTree) → meaning_of globals (λ k. s (c k)) (λ y k. locals y (c k)) b ≡ meaning_at_cuts c (meaning_of globals s locals b)
binding_at_cuts globals s locals c (place_binding p) = refl
binding_at_cuts globals s locals c (known_binding t) = refl

pub bindings_at_cuts : BindingsAtCuts
bindings_at_cuts globals s locals c [] = refl
bindings_at_cuts globals s locals c (b ∷ bs) = λ i. binding_at_cuts globals s locals c b i ∷ bindings_at_cuts globals s locals c bs i

pub bindings_append : BindingsAppend
bindings_append globals s locals [] b = refl
bindings_append globals s locals (x ∷ bs) b = ap (λ ms. meaning_of globals s locals x ∷ ms) (bindings_append globals s locals bs b)
