-- What bindings mean at the cuts of a course, and with one more.
use Rattle.std.specs.Prelude.{◌≡◌, ℕ, List, [], ◌∷◌, ◌++◌}
use Rattle.tp_meaning.specs.Syntax.{BindingTree}
use Rattle.tp_meaning.specs.Course.{Course}
use Rattle.tp_meaning.specs.Holds.{env_at_cuts}
use Rattle.tp_meaning.specs.Bindings.{Locals, meaning_of, meanings_of}

abbrev pub BindingsAtCuts : Type 0
BindingsAtCuts = (globals : ℕ) (s : Course) (locals : Locals) (c : ℕ → ℕ) (bs : List BindingTree) →
    meanings_of globals (λ k. s (c k)) (λ y k. locals y (c k)) bs
    ≡ env_at_cuts c (meanings_of globals s locals bs)

abbrev pub BindingsAppend : Type 0
BindingsAppend =
    (globals : ℕ) (s : Course) (locals : Locals) (bs : List BindingTree) (b : BindingTree) →
    meanings_of globals s locals (bs ++ b ∷ [])
    ≡ meanings_of globals s locals bs ++ meaning_of globals s locals b ∷ []
